use Rattle.std.proofs.Common.{◌≡◌, ◌≤◌, length, drop}
use Rattle.capture_csv.specs.Csv.{word_of}
use Rattle.capture_csv.proofs.values.word_of.Given as goal

abbrev pub invariant-loop-left : goal.invariant-loop-left
invariant-loop-left l = record {
  within : l.left ≤ length l.pins;
  word : l.word ≡ word_of (drop l.left l.pins) l.levels;
}

abbrev pub decreases-loop-left : goal.decreases-loop-left
decreases-loop-left l = l.left
