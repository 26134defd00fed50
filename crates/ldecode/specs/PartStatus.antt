-- How the listing of a part ends.
use Rattle.la_io.specs.declared.fault.CaptureFault.TheVariants as capture
use Rattle.capture_any.specs.declared.end.ListingEnd.{ListingEnd}
use Rattle.capture_any.specs.declared.end.ListingEnd.TheVariants as end
use Rattle.decode_job.specs.declared.part_end.PartEnd.{PartEnd}
use Rattle.decode_job.specs.declared.part_end.PartEnd.TheVariants as part

-- how the listing of a part ends that ended so: samples past the most that parts may have are a
-- fault of its capture
abbrev pub end_of_part : PartEnd → ListingEnd
end_of_part (part.Ended end) = end
end_of_part part.Past = end.Fault capture.Past
