use Rattle.std.proofs.Common.{◌≡◌, ◌-◌, ◌≤◌, ◌++◌, length}
use Rattle.std.specs.Prelude.{take}
use Rattle.capture_make.specs.Kept.{left_in}
use Rattle.capture_make.proofs.source.MadeSourceSource.read.Given as goal

abbrev pub invariant-loop-filled : goal.invariant-loop-filled
invariant-loop-filled l = (left_in l.fn.self ≡ take l.filled l.buf ++ left_in l.self) × (l.filled ≤ length l.buf)

abbrev pub decreases-loop-filled : goal.decreases-loop-filled
decreases-loop-filled l = length l.buf - l.filled
