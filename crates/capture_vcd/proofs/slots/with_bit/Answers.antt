use Rattle.std.proofs.Common.{◌∙◌, ◌+◌, ◌*◌, ◌%◌, ◌^◌}
use Rattle.std.specs.Int.Bits.{bit_xor}
use Rattle.la_base.specs.declared.samples.TheConstants.{MOST_PINS}
use Rattle.capture_vcd.specs.Following.{level_bit}
use Rattle.capture_vcd.proofs.Chaining.{flipped}
use Rattle.capture_vcd.proofs.slots.with_bit.Goals as goal

pub returns : goal.returns
returns c =
    (λ i. bit_xor c.args.word (bit_xor (c.level_bit.ensures.bit i) (c.level_bit-2.ensures.bit i) * 2 ^ c.args.place % 2 ^ MOST_PINS) + level_bit c.args.was * 2 ^ c.args.place)
    ∙ flipped c.args.was c.args.now c.args.word c.args.place c.requires.within c.requires.is
