-- How a decoding ends.
use Rattle.std.specs.Prelude.{Option, Some, None, Result, Ok, Err}
use Rattle.la_base.specs.declared.names.NoMemory.{NoMemory as Wanted}
use Rattle.capture_any.specs.declared.end.ListingEnd.{ListingEnd}
use Rattle.capture_any.specs.declared.end.ListingEnd.TheVariants as end
use Rattle.decoder_core.specs.declared.end.RunEnd.{RunEnd}
use Rattle.note_lister.specs.declared.stop.ListStop.{ListStop}
use Rattle.note_lister.specs.declared.stop.ListStop.TheVariants.{Write, NoMemory}

-- for this cause
abbrev pub end_of_stop : ListStop → ListingEnd
end_of_stop Write = end.Write
end_of_stop NoMemory = end.NoMemory

-- by how its machines ran, the cause for which they were stopped, if they were, and the end of its
-- capture
abbrev pub end_behind : Result RunEnd Wanted → Option ListStop → ListingEnd → ListingEnd
end_behind (Ok ran) None last = last
end_behind (Ok ran) (Some cause) last = end_of_stop cause
end_behind (Err why) cause last = end.NoMemory
