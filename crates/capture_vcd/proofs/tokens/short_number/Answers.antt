use Rattle.std.proofs.Common.{◌≡◌, ◌∙◌, ℕ, ◌+◌, ◌-◌, ◌*◌, ◌^◌, ◌≤◌, ◌<◌, List, [], get_or, drop, length, refl, sym, ap, arith, Bool, true, false, ◌&&◌, ◌==◌, not, suc, nat_le}
use Rattle.std.proofs.lemmas.Bool.{eqb-true, leb-true, false≢true}
use Rattle.std.proofs.lemmas.List.{at_drop_more, drop_all}
use Rattle.std.proofs.Math.Nat.{pow-le-pow_right}
use Rattle.std.specs.Char.{is_ascii_digit}
use Rattle.std.specs.Str.{all_ascii_digits}
use Rattle.la_base.specs.Naming.{number_after}
use Rattle.text_parts.specs.Numbers.{is_number}
use Rattle.capture_vcd.proofs.tokens.short_number.Goals as goal

power : (n most : ℕ) → n ≤ most → 10 ^ n ≤ 10 ^ most
power n most few = let some : 0 < 10 = omega arith in pow-le-pow_right some few

tenfold : (n : ℕ) → 10 ^ (n + 1) ≡ 10 * 10 ^ n
tenfold n =
    let next : n + 1 ≡ suc n = omega arith in
    let e : 10 ^ suc n ≡ 10 * 10 ^ n = grind arith in
    ap (λ (k : ℕ). 10 ^ k) next ∙ e

digit_small : (b : ℕ) → is_ascii_digit b ≡ true → b - 48 ≤ 9
digit_small b is = by_test (nat_le b 57) refl (both (nat_le 48 b) (nat_le b 57) is) where
  both : (s t : Bool) → (s && t) ≡ true → t ≡ true
  both true t is = is
  both false t is = absurd (false≢true is)

  by_test : (t : Bool) → nat_le b 57 ≡ t → nat_le b 57 ≡ true → b - 48 ≤ 9
  by_test t e is = let small = leb-true b 57 is in omega (arith, small)

number_is : (text : List ℕ) → 0 < length text → all_ascii_digits text ≡ true → is_number text ≡ true
number_is text some digits = by_test (length text == 0) refl where
  by_test : (t : Bool) → (length text == 0) ≡ t → is_number text ≡ true
  by_test true none = let no : length text ≡ 0 = eqb-true (length text) 0 none in absurd (omega (arith, some, no))
  by_test false none = ap (λ (t : Bool). not t && all_ascii_digits text) none ∙ digits

pub overflow_mul-number : goal.overflow_mul-number
overflow_mul-number c =
    let few = power c.loop-byte.byte-index 17 (omega (arith, c.loop-byte-test.true, c.requires.few)) in
    omega (arith, few, c.loop-byte.invariant.small)

pub overflow_add-number : goal.overflow_add-number
overflow_add-number c =
    let few = power c.loop-byte.byte-index 17 (omega (arith, c.loop-byte-test.true, c.requires.few)) in
    let digit = digit_small (get_or c.args.text.now c.loop-byte.byte-index 0) (sym c.is_ascii_digit.ensures.value ∙ c.if-not-is_ascii_digit.false) in
    omega (arith, few, c.loop-byte.invariant.small, c.from.ensures, digit)

pub loop-byte-preserved : goal.loop-byte-preserved
loop-byte-preserved c =
    let text = c.args.text.now in
    let n = c.loop-byte.byte-index in
    let rest = drop (n + 1) text in
    let less = c.loop-byte-test.true in
    let inv = c.loop-byte.invariant in
    let digit = sym c.is_ascii_digit.ensures.value ∙ c.if-not-is_ascii_digit.false in
    record {
      small = omega (arith, inv.small, tenfold n, c.from.ensures, digit_small (get_or text n 0) digit);
      digits = sym (at_drop_more all_ascii_digits text n 0 less ∙ ap (λ (b : Bool). b && all_ascii_digits rest) digit) ∙ inv.digits;
      number = ap (λ (k : ℕ). number_after (10 * c.loop-byte.number + k) rest) c.from.ensures ∙ sym (at_drop_more (number_after c.loop-byte.number) text n 0 less) ∙ inv.number;
    }

pub returns : goal.returns
returns c =
    let text = c.args.text.now in
    let n = c.loop-byte.byte-index in
    let inv = c.loop-byte.invariant in
    let none : drop n text ≡ [] = drop_all n text (omega (arith, c.loop-byte-test.false)) in
    let value : c.loop-byte.number ≡ number_after 0 text = sym (ap (λ (l : List ℕ). number_after c.loop-byte.number l) none) ∙ inv.number in (
      number_is text c.requires.some (sym inv.digits ∙ ap all_ascii_digits none),
      omega (arith, value, inv.small, power n 18 (omega (arith, c.loop-byte.auto, c.requires.few))),
    )
