-- What `decode` writes.
use Rattle.std.specs.Prelude.{ℕ, List}
use Rattle.decoder_core.specs.Trees.{Node}
use Rattle.decoder_set.specs.Setups.{outs_of}
use Rattle.decoder_set.specs.declared.setup.Setup.{Setup}
use Rattle.stack_words.specs.Accepting.{Accepted}
use Rattle.note_order.specs.declared.entry.Entry.{Entry}
use Rattle.decode_job.specs.Listing.{tree_notes, tree_output}

-- what a stack is to write
abbrev pub decode_listing : Accepted → List (Node Setup) → List ℕ → List ℕ
decode_listing accepted nodes samples = tree_output outs_of accepted nodes samples

-- the notes of which it is the listing
abbrev pub decode_notes : Accepted → List (Node Setup) → List ℕ → List Entry
decode_notes accepted nodes samples = tree_notes outs_of accepted nodes samples
