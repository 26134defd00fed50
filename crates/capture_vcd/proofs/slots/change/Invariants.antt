use Rattle.std.proofs.Common.{◌≡◌, ◌<◌, ◌-◌, ◌++◌, length, get_or, map, take, drop}
use Rattle.capture_vcd.specs.Chains.{key_of}
use Rattle.capture_vcd.specs.Following.{word_bits}
use Rattle.capture_vcd.specs.Slots.{changed, level_of}
use Rattle.capture_vcd.proofs.Chaining.{keys}
use Rattle.capture_vcd.proofs.slots.change.Given as goal

abbrev pub invariant-loop-place : goal.invariant-loop-place
invariant-loop-place l = record {
  walked : l.slots ≡ map (changed l.codes l.first l.code) (take l.place l.fn.slots) ++ drop l.place l.fn.slots;
  key : l.place < length l.fn.slots → get_or (keys l.codes l.fn.slots) l.place 0 ≡ key_of l.code;
  word : l.word ≡ word_bits (map level_of l.slots);
}

abbrev pub decreases-loop-place : goal.decreases-loop-place
decreases-loop-place l = length l.slots - l.place
