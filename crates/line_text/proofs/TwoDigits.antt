-- A byte in two digits of base 16.
use Rattle.std.proofs.Common.{◌≡◌, ℕ, ◌-◌, ◌/◌, ◌%◌, ◌<◌, ◌≤◌, ◌⊎◌, inl, inr, true, List, [], ◌∷◌, ◌++◌, length, replicate, sym, ap, ◌∙◌, arith}
use Rattle.std.specs.Fmt.{digits, digit_glyph}
use Rattle.line_text.specs.Texts.{hex}
use Rattle.line_text.proofs.Hexadecimal.{hex_onto_all, hex_onto_last, hex_onto_step}
use Rattle.line_text.proofs.Widths.{padded_is}

pub two_digits : (n : ℕ) → n < 256 → hex 2 n ≡ digit_glyph true (n / 16) ∷ digit_glyph true (n % 16) ∷ []
two_digits n small = padded_is 2 (digits 16 true n) ∙ by_size (search arith)
  where
    text : List ℕ → List ℕ
    text l = replicate (2 - length l) 48 ++ l

    by_size : (n < 16) ⊎ (16 ≤ n) → text (digits 16 true n) ≡ digit_glyph true (n / 16) ∷ digit_glyph true (n % 16) ∷ []
    by_size (inl low) =
        let none : 0 ≡ n / 16 = omega (arith, low) in
        let same : n ≡ n % 16 = omega (arith, low) in
        ap text (sym (hex_onto_all n) ∙ hex_onto_last 63 n [] low) ∙ (λ i. digit_glyph true (none i) ∷ digit_glyph true (same i) ∷ [])
    by_size (inr some) =
        let high : n / 16 < 16 = omega (arith, small) in
        ap text (sym (hex_onto_all n) ∙ hex_onto_step 63 n [] some ∙ hex_onto_last 62 (n / 16) (digit_glyph true (n % 16) ∷ []) high)
