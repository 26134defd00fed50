use Rattle.std.proofs.Common.{◌-◌, arith, map, drop, get_or, length-drop, false, ℕ, Bool}
use Rattle.std.proofs.lemmas.List.{length-map}
use Rattle.la_base.specs.declared.samples.TheConstants.{MOST_PINS}
use Rattle.capture_csv.proofs.Numbers.{word_small}
use Rattle.capture_csv.proofs.values.word_of.Goals as goal

pub overflow_add-word : goal.overflow_add-word
overflow_add-word c =
    let rest = drop c.loop-left.left c.args.pins.now in
    let level : ℕ → Bool = λ pin. get_or c.args.levels.now pin false in
    let small = word_small (MOST_PINS - 1) (map level rest) (omega (arith, length-map rest level, length-drop c.loop-left.left c.args.pins.now, c.requires, c.loop-left-test.true)) in
    omega (arith, small, c.loop-left.invariant.word, c.level_bit.ensures.small)

pub overflow_mul-word : goal.overflow_mul-word
overflow_mul-word c =
    let rest = drop c.loop-left.left c.args.pins.now in
    let level : ℕ → Bool = λ pin. get_or c.args.levels.now pin false in
    let small = word_small (MOST_PINS - 1) (map level rest) (omega (arith, length-map rest level, length-drop c.loop-left.left c.args.pins.now, c.requires, c.loop-left-test.true)) in
    omega (arith, small, c.loop-left.invariant.word)
