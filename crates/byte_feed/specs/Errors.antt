-- Faults of tokens and lines, as errors of a capture.
use Rattle.la_io.specs.declared.fault.CaptureError.{CaptureError}
use Rattle.la_io.specs.declared.fault.CaptureError.TheVariants as error
use Rattle.la_io.specs.declared.fault.CaptureFault.TheVariants as fault
use Rattle.byte_feed.specs.declared.fault.FeedFault.{FeedFault}
use Rattle.byte_feed.specs.declared.fault.FeedFault.TheVariants as feed

-- what stops the reader of a capture whose tokens or lines have a fault
abbrev pub error_of : FeedFault → CaptureError
error_of feed.Read = error.Read
error_of (feed.TooLong at) = error.Fault (fault.TooLong at)
error_of feed.Bytes = error.Fault fault.Bytes
error_of feed.Spent = error.Read
