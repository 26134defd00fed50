use Rattle.std.proofs.Common.{◌≤◌, ◌^◌, ℕ, refl, sym, subst}
use Rattle.capture_vcd.proofs.Units.{few_a_second}
use Rattle.capture_vcd.proofs.reader.VcdReader.behind.Goals as goal

pub returns-in-Some-timescale : goal.returns-in-Some-timescale
returns-in-Some-timescale c =
    let scale = c.in-Some.scale in
    let is = c.in-Some-timescale.ensures in (
      scale,
      c.in-Some.is,
      refl,
      c.new.ensures.fresh,
      c.new.ensures.codes,
      c.new.ensures.channels,
      refl,
      refl,
      is.0,
      is.1,
      refl,
      record {
        down_is = c.new.ensures.down;
        no_pins = c.new-in-Some-timescale.ensures;
        is_open = refl;
        few = subst (λ (n : ℕ). n ≤ 10 ^ 15) (sym is.0) (few_a_second scale.unit);
      },
    )
