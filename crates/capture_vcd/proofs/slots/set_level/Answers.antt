use Rattle.std.proofs.Common.{◌∙◌, ap, arith, ℕ}
use Rattle.std.specs.Int.{bit_at}
use Rattle.capture_vcd.proofs.Chaining.{level_at, level_set}
use Rattle.capture_vcd.proofs.slots.set_level.Goals as goal

pub with_bit-requires-clause-is : goal.with_bit-requires-clause-is
with_bit-requires-clause-is c = ap (λ (n : ℕ). bit_at n c.args.place) c.requires.is ∙ level_at c.args.slots.now c.args.place c.requires.within

pub returns-clause-is : goal.returns-clause-is
returns-clause-is c = omega (arith, c.requires.is, level_set c.args.slots.now c.args.place c.args.level c.requires.within, c.with_bit.ensures)
