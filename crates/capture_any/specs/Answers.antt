-- What the readers answer, as answers of a capture.
use Rattle.std.specs.Prelude.{Option, Some, None, Result, Ok, Err}
use Rattle.la_base.specs.declared.samples.Run.{Run}
use Rattle.la_io.specs.declared.fault.CaptureError.{CaptureError}
use Rattle.la_io.specs.declared.fault.CaptureError.TheVariants.{Fault, Read}
use Rattle.la_io.specs.declared.fault.CaptureFault.TheVariants.{ShortUnit as ShortUnitFault}
use Rattle.la_io.specs.declared.fault.CaptureFault.TheVariants.{Bytes as BytesFault}
use Rattle.la_io.specs.declared.outside.Failed.{Failed}
use Rattle.capture_raw.specs.declared.step.RawStep.{RawStep}
use Rattle.capture_raw.specs.declared.step.RawStep.TheVariants.{Run as GaveRun, End, ShortUnit}
use Rattle.capture_raw.specs.declared.step.RawStep.TheVariants.{Bytes}

-- the answer of a raw reader
abbrev pub answer_of : Result RawStep Failed → Result (Option Run) CaptureError
answer_of (Ok (GaveRun run)) = Ok (Some run)
answer_of (Ok End) = Ok None
answer_of (Ok (ShortUnit at)) = Err (Fault (ShortUnitFault at))
answer_of (Ok Bytes) = Err (Fault BytesFault)
answer_of (Err failed) = Err Read
