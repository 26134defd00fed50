-- What the standard parse gives of a number.
use Rattle.std.proofs.Common.{◌≡◌, ℕ, ◌<◌, ◌≤◌, ◌⊎◌, ◌&&◌, Bool, true, false, not, List, length, Result, Ok, Err, refl, arith, rules, inl, inr}
use Rattle.std.specs.Prelude.{nat_le, nat_lt, ◌==◌}
use Rattle.std.specs.Str.{all_ascii_digits}
use Rattle.std.specs.Str.Parse.{ParsesUnsigned}
use Rattle.std.proofs.lemmas.Str.Parse.{IsNumeralModel, numerals_by_fold, tells_all_ascii_digits, parse_gives, digits_value_short}
use Rattle.std.proofs.lemmas.Bool.Decides.{nat_tests}
use Rattle.la_base.specs.Naming.{number_after}
use Rattle.text_parts.specs.Numbers.{is_number, number_in}
use Rattle.text_parts.specs.declared.numbers.NumberWhy.TheVariants.{Range}

own : IsNumeralModel (λ ds. all_ascii_digits ds ≡ true) (number_after 0)
own = numerals_by_fold _ tells_all_ascii_digits number_after (search rules)

both : (a b : Bool) → (a && b) ≡ true → (a ≡ true) × (b ≡ true)
both true true e = (refl, refl)
both true false e = cc
both false b e = cc

nonempty : (text : List ℕ) → is_number text ≡ true → 0 < length text
nonempty text e = let p = (both (not (length text == 0)) (all_ascii_digits text) e).0 in grind (arith, nat_tests)

pub parsed : {E : Type 0} (text : List ℕ) (r : Result ℕ E) → ParsesUnsigned 64 10 text r → is_number text ≡ true → length text ≤ 19 → r ≡ Ok (number_after 0 text)
parsed text r p e short = parse_gives own 64 text r p (both (not (length text == 0)) (all_ascii_digits text) e).1 (nonempty text e) (let b = digits_value_short own text 19 (both (not (length text == 0)) (all_ascii_digits text) e).1 short in omega arith)

pub accepted : (text : List ℕ) (least most : ℕ) → is_number text ≡ true → length text ≤ 19 → least ≤ number_after 0 text → number_after 0 text ≤ most
    → number_in least most text ≡ Ok (number_after 0 text)
accepted text least most e short low high = let t : nat_lt 19 (length text) ≡ false = grind (arith, nat_tests) in
    let l : nat_le least (number_after 0 text) ≡ true = grind (arith, nat_tests) in
    let h : nat_le (number_after 0 text) most ≡ true = grind (arith, nat_tests) in
    rw (e, t, l, h) refl

pub outside : (text : List ℕ) (least most : ℕ) → is_number text ≡ true → length text ≤ 19 → (number_after 0 text < least) ⊎ (least ≤ number_after 0 text × most < number_after 0 text)
    → number_in least most text ≡ Err Range
outside text least most e short (inl low) = let t : nat_lt 19 (length text) ≡ false = grind (arith, nat_tests) in
    let l : nat_le least (number_after 0 text) ≡ false = grind (arith, nat_tests) in
    rw (e, t, l) refl
outside text least most e short (inr (low, high)) = let t : nat_lt 19 (length text) ≡ false = grind (arith, nat_tests) in
    let l : nat_le least (number_after 0 text) ≡ true = grind (arith, nat_tests) in
    let h : nat_le (number_after 0 text) most ≡ false = grind (arith, nat_tests) in
    rw (e, t, l, h) refl
