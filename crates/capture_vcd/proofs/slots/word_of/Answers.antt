use Rattle.std.proofs.Common.{◌-◌, arith, map, drop, length-drop}
use Rattle.std.proofs.lemmas.List.{length-map}
use Rattle.la_base.specs.declared.samples.TheConstants.{MOST_PINS}
use Rattle.capture_vcd.specs.Slots.{level_of}
use Rattle.capture_vcd.proofs.Levels.{word_small}
use Rattle.capture_vcd.proofs.slots.word_of.Goals as goal

pub overflow_add-word : goal.overflow_add-word
overflow_add-word c =
    let rest = drop c.loop-left.left c.args.slots.now in
    let small = word_small (MOST_PINS - 1) (map level_of rest) (omega (arith, length-map rest level_of, length-drop c.loop-left.left c.args.slots.now, c.requires, c.loop-left-test.true)) in
    omega (arith, small, c.loop-left.invariant.word, c.level_bit.ensures.small)

pub overflow_mul-word : goal.overflow_mul-word
overflow_mul-word c =
    let rest = drop c.loop-left.left c.args.slots.now in
    let small = word_small (MOST_PINS - 1) (map level_of rest) (omega (arith, length-map rest level_of, length-drop c.loop-left.left c.args.slots.now, c.requires, c.loop-left-test.true)) in
    omega (arith, small, c.loop-left.invariant.word)
