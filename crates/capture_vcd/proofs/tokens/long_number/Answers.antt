use Rattle.std.proofs.Common.{◌≡◌, ◌∙◌, ℕ, ◌+◌, ◌-◌, ◌*◌, ◌^◌, ◌≤◌, ◌⊎◌, inl, inr, min, List, [], ◌∷◌, get_or, drop, sym, ap, arith, Bool, ◌&&◌}
use Rattle.std.proofs.lemmas.List.{at_drop_more}
use Rattle.std.specs.Str.{all_ascii_digits}
use Rattle.la_base.specs.Naming.{number_after}
use Rattle.capture_vcd.proofs.tokens.long_number.Goals as goal

grows : (n : ℕ) (digits : List ℕ) → n ≤ number_after n digits
grows n [] = omega arith
grows n (d ∷ ds) = omega (arith, grows (10 * n + (d - 48)) ds)

-- from 2^60 on it doesn't matter which number it is
capped : (n m : ℕ) (digits : List ℕ) → m ≡ min n (2 ^ 60) → min (number_after m digits) (2 ^ 60) ≡ min (number_after n digits) (2 ^ 60)
capped n m digits is = by_size (search (arith)) where
  by_size : (n ≤ 2 ^ 60) ⊎ (2 ^ 60 ≤ n) → min (number_after m digits) (2 ^ 60) ≡ min (number_after n digits) (2 ^ 60)
  by_size (inl small) = let same : m ≡ n = omega (arith, is, small) in ap (λ (k : ℕ). min (number_after k digits) (2 ^ 60)) same
  by_size (inr large) = omega (arith, is, large, grows m digits, grows n digits)

pub loop-byte-preserved : goal.loop-byte-preserved
loop-byte-preserved c =
    let text = c.args.text.now in
    let n = c.loop-byte.byte-index in
    let d = get_or text n 0 in
    let rest = drop (n + 1) text in
    let less = c.loop-byte-test.true in
    let inv = c.loop-byte.invariant in
    let digit = sym c.is_ascii_digit.ensures.value ∙ c.if-not-is_ascii_digit.false in
    record {
      small = omega (arith, c.min-number.ensures);
      digits = sym (at_drop_more all_ascii_digits text n 0 less ∙ ap (λ (b : Bool). b && all_ascii_digits rest) digit) ∙ inv.digits;
      number = capped (10 * c.loop-byte.number + c.from.result) c.min-number.result rest c.min-number.ensures
          ∙ ap (λ (k : ℕ). min (number_after (10 * c.loop-byte.number + k) rest) (2 ^ 60)) c.from.ensures
          ∙ sym (ap (λ (k : ℕ). min k (2 ^ 60)) (at_drop_more (number_after c.loop-byte.number) text n 0 less)) ∙ inv.number;
    }
