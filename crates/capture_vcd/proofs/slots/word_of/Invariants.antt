use Rattle.std.proofs.Common.{◌≡◌, ◌≤◌, length, map, drop}
use Rattle.capture_vcd.specs.Following.{word_bits}
use Rattle.capture_vcd.specs.Slots.{level_of}
use Rattle.capture_vcd.proofs.slots.word_of.Given as goal

abbrev pub invariant-loop-left : goal.invariant-loop-left
invariant-loop-left l = record {
  within : l.left ≤ length l.slots;
  word : l.word ≡ word_bits (map level_of (drop l.left l.slots));
}

abbrev pub decreases-loop-left : goal.decreases-loop-left
decreases-loop-left l = l.left
