use Rattle.std.proofs.Common.{◌≡◌, ◌<◌, ◌+◌, ◌*◌, ◌^◌, ◌-◌, ℕ, length, drop, get_or, ap, arith, subst}
use Rattle.std.proofs.lemmas.Nat.Bits.{bit_at-lt}
use Rattle.la_base.specs.declared.samples.TheConstants.{HALF_BITS}
use Rattle.capture_raw.specs.Raw.{picked}
use Rattle.capture_raw.proofs.Numbers.{picked_more, digit_more, digits_fit}
use Rattle.capture_raw.proofs.units.picked_few.Goals as goal

pub overflow_mul-value : goal.overflow_mul-value
overflow_mul-value c =
    let s = c.loop-place in
    let digits = length c.args.pins.now - s.place in
    let fits : 2 * s.value + 0 < 2 ^ HALF_BITS = digits_fit 2 _ (digits + 1) HALF_BITS (omega arith) (digit_more 2 s.value digits 0 s.invariant.small (omega arith)) (omega (arith, c.requires.few)) in
    omega (arith, fits)

pub overflow_add-value : goal.overflow_add-value
overflow_add-value c =
    let s = c.loop-place in
    let digits = length c.args.pins.now - s.place in
    let bit = c.bit_of.result in
    let small : bit < 2 = omega (arith, c.bit_of.ensures, bit_at-lt c.args.n (get_or c.args.pins.now (s.place - 1) 0)) in
    let fits : 2 * s.value + bit < 2 ^ HALF_BITS = digits_fit 2 _ (digits + 1) HALF_BITS (omega arith) (digit_more 2 s.value digits bit s.invariant.small small) (omega (arith, c.requires.few)) in
    omega (arith, fits)

pub loop-place-preserved : goal.loop-place-preserved
loop-place-preserved c =
    let s = c.loop-place in
    let pins = c.args.pins.now in
    let n = c.args.n in
    let digits = length pins - s.place in
    let bit = c.bit_of.result in
    let small : bit < 2 = omega (arith, c.bit_of.ensures, bit_at-lt n (get_or pins (s.place - 1) 0)) in
    let next : s.place - 1 + 1 ≡ s.place = omega arith in
    let more : digits + 1 ≡ length pins - (s.place - 1) = omega arith in
    let Fits : ℕ → Type 0 = λ k. 2 * s.value + bit < 2 ^ k in
    record {
      so_far = omega (arith, picked_more pins n (s.place - 1) (omega arith), ap (λ (k : ℕ). picked (drop k pins) n) next, s.invariant.so_far, c.bit_of.ensures);
      within = omega arith;
      small = subst Fits more (digit_more 2 s.value digits bit s.invariant.small small);
    }
