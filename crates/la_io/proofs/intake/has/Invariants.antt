use Rattle.std.proofs.Common.{◌-◌, ◌≤◌, ◌≡◌, length, false}
use Rattle.la_io.proofs.Dropping.{NoneTo}
use Rattle.la_io.proofs.intake.has.Given as goal

abbrev pub invariant-loop-place : goal.invariant-loop-place
invariant-loop-place l = record { within : l.place ≤ length l.bytes; none : l.found ≡ false → NoneTo l.bytes l.byte l.place }

abbrev pub decreases-loop-place : goal.decreases-loop-place
decreases-loop-place l = length l.bytes - l.place
