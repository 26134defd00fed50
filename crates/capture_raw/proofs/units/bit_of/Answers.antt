use Rattle.std.proofs.Common.{◌∙◌}
use Rattle.capture_raw.proofs.Picks.{low_shifted, high_shifted}
use Rattle.capture_raw.proofs.units.bit_of.Goals as goal
use Rattle.capture_raw.proofs.units.bit_of.Goals.{then-place-lt-HALF_BITS, else-place-lt-HALF_BITS}

pub returns : goal.returns
returns c =
    elim c.if-place-lt-HALF_BITS.branch [
      | then-place-lt-HALF_BITS w ↦ low_shifted c.args.n c.args.place c.if-place-lt-HALF_BITS.half w.if-place-lt-HALF_BITS.true (w.half-is ∙ w.low_half-half.ensures)
      | else-place-lt-HALF_BITS w ↦ high_shifted c.args.n c.args.place c.if-place-lt-HALF_BITS.half w.if-place-lt-HALF_BITS.false c.requires (w.half-is ∙ w.high_half-half.ensures)
    ]
