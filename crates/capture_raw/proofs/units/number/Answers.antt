use Rattle.std.proofs.Common.{◌≡◌, ◌<◌, ◌+◌, ◌*◌, ◌^◌, ◌-◌, ℕ, length, drop, ap, arith, subst}
use Rattle.capture_raw.specs.Raw.{number}
use Rattle.capture_raw.specs.declared.units.TheConstants.{MOST_UNIT}
use Rattle.capture_raw.proofs.Numbers.{number_more, digit_more, digits_fit}
use Rattle.capture_raw.proofs.units.number.Goals as goal

pub overflow_mul-value : goal.overflow_mul-value
overflow_mul-value c =
    let s = c.loop-place in
    let digits = length c.args.unit.now - s.place in
    let fits : 256 * s.value + 0 < 256 ^ MOST_UNIT = digits_fit 256 _ (digits + 1) MOST_UNIT (omega arith) (digit_more 256 s.value digits 0 s.invariant.small (omega arith)) (omega arith) in
    omega (arith, fits)

pub overflow_add-value : goal.overflow_add-value
overflow_add-value c =
    let s = c.loop-place in
    let digits = length c.args.unit.now - s.place in
    let byte : c.from.result < 256 = omega (arith, c.from.ensures, c.type_inv.unit (s.place - 1)) in
    let fits : 256 * s.value + c.from.result < 256 ^ MOST_UNIT = digits_fit 256 _ (digits + 1) MOST_UNIT (omega arith) (digit_more 256 s.value digits c.from.result s.invariant.small byte) (omega arith) in
    omega (arith, fits)

pub loop-place-preserved : goal.loop-place-preserved
loop-place-preserved c =
    let s = c.loop-place in
    let bytes = c.args.unit.now in
    let digits = length bytes - s.place in
    let byte : c.from.result < 256 = omega (arith, c.from.ensures, c.type_inv.unit (s.place - 1)) in
    let next : s.place - 1 + 1 ≡ s.place = omega arith in
    let more : digits + 1 ≡ length bytes - (s.place - 1) = omega arith in
    let Fits : ℕ → Type 0 = λ k. 256 * s.value + c.from.result < 256 ^ k in
    record {
      so_far = omega (arith, number_more bytes (s.place - 1) (omega arith), ap (λ (k : ℕ). number (drop k bytes)) next, s.invariant.so_far, c.from.ensures);
      within = omega arith;
      small = subst Fits more (digit_more 256 s.value digits c.from.result s.invariant.small byte);
    }
