use Rattle.std.proofs.Common.{◌-◌, ◌≤◌, ◌≡◌, length, take, drop}
use Rattle.la_io.specs.Intake.{without}
use Rattle.la_io.proofs.intake.free_blocks.Given as goal

abbrev pub invariant-loop-at : goal.invariant-loop-at
invariant-loop-at l = record {
  more : l.from ≤ l.at;
  within : l.at ≤ length l.bytes;
  none : without l.byte (drop l.from (take l.at l.bytes)) ≡ drop l.from (take l.at l.bytes);
}

abbrev pub decreases-loop-at : goal.decreases-loop-at
decreases-loop-at l = length l.bytes - l.at
