use Rattle.std.proofs.Common.{length, ◌-◌, ◌≡◌, ◌≤◌, ◌++◌, take, drop}
use Rattle.la_io.specs.Intake.{without}
use Rattle.la_io.proofs.intake.drop_behind.Given as goal

abbrev pub invariant-loop-at : goal.invariant-loop-at
invariant-loop-at l = record {
  begun : l.from ≤ l.to;
  order : l.to ≤ l.at;
  within : l.at ≤ length l.bytes;
  same : length l.bytes ≡ length l.fn.bytes;
  kept : take l.to l.bytes ≡ take l.from l.fn.bytes ++ without l.dropped (drop l.from (take l.at l.fn.bytes));
  ahead : drop l.at l.bytes ≡ drop l.at l.fn.bytes;
}

abbrev pub decreases-loop-at : goal.decreases-loop-at
decreases-loop-at l = length l.initial.bytes - l.at
