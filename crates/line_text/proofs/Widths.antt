-- How long numbers are as text.
use Rattle.std.proofs.Common.{Bool, true, false, ◌≡◌, ℕ, zero, suc, ◌+◌, ◌-◌, ◌/◌, ◌%◌, ◌^◌, ◌<◌, ◌≤◌, true, List, [], ◌∷◌, ◌++◌, length, replicate, refl, ap, ◌∙◌, arith, length-append, ◌⊎◌, inl, inr, eq-zero-or-pos, subst}
use Rattle.std.proofs.lemmas.List.{length-replicate}
use Rattle.std.proofs.Math.Nat.{pow-le-pow_right}
use Rattle.std.specs.Fmt.{decimal, digits, digit_glyph}
use Rattle.std.proofs.lemmas.Fmt.{length-decimal-le}
use Rattle.line_text.proofs.Hexadecimal.{hex_onto, hex_onto_all, hex_onto_last, hex_onto_step, hex_nothing, fewer}
use Rattle.line_text.specs.Texts.{padded, hex, sign, fixed}

-- a padded text
pub padded_is : (width : ℕ) (text : List ℕ) → padded width text ≡ replicate (width - length text) 48 ++ text
unfolding padded
padded_is width text = refl

pub length_padded : (width : ℕ) (text : List ℕ) → length (padded width text) ≡ width - length text + length text
length_padded width text =
    ap length (padded_is width text) ∙ length-append (replicate (width - length text) 48) text
    ∙ ap (λ (n : ℕ). n + length text) (length-replicate {A = ℕ} (width - length text) 48)

-- a number of 64 bits has at most 20 decimal digits
pub decimal_room : (n : ℕ) → n < 2 ^ 64 → length (decimal n) ≤ 20
decimal_room n small = length-decimal-le 20 n (omega arith) (omega arith) small

hex_onto_room : (k j n : ℕ) (behind : List ℕ) → n < 16 ^ suc j → length (hex_onto k n behind) ≤ suc j + length behind
hex_onto_room zero j n behind small = omega (arith, ap length (hex_nothing n behind))
hex_onto_room (suc k) j n behind small = by (hex_onto_room k) j small (eq-zero-or-pos (n / 16))
  where
    by : ((j m : ℕ) (behind : List ℕ) → m < 16 ^ suc j → length (hex_onto k m behind) ≤ suc j + length behind)
        → (j : ℕ) → n < 16 ^ suc j → (n / 16 ≡ 0) ⊎ (0 < n / 16) → length (hex_onto (suc k) n behind) ≤ suc j + length behind
    by more j small (inl one) = let below : n < 16 = omega arith in omega (arith, ap length (hex_onto_last k n behind below))
    by more zero small (inr some) = absurd (omega arith)
    by more (suc j) small (inr some) =
        let above : 16 ≤ n = omega arith in
        let same : suc (suc j) ≡ suc j + 1 = omega arith in
        let low : n < 16 ^ (suc j + 1) = subst (λ (i : ℕ). n < 16 ^ i) same small in
        let rest = more j (n / 16) (digit_glyph true (n % 16) ∷ behind) (fewer n (suc j) low) in
        omega (arith, ap length (hex_onto_step k n behind above))

sign_room : (negative : Bool) → length (sign negative) ≤ 1
sign_room true = omega arith
sign_room false = omega arith

-- a number below 16 ^ j has at most j digits in base 16
pub length_digits : (j n : ℕ) → 0 < j → n < 16 ^ j → length (digits 16 true n) ≤ j
length_digits zero n some small = absurd (omega arith)
length_digits (suc j) n some small =
    omega (arith, hex_onto_room 64 j n [] small, ap length (hex_onto_all n))

-- a number of 64 bits has at most 16 places in base 16
pub hex_room : (width n : ℕ) → width ≤ 16 → n < 2 ^ 64 → length (hex width n) ≤ 16
hex_room width n few small =
    omega (arith, length_padded width (digits 16 true n), length_digits 16 n (omega arith) (omega arith))

-- a number below 16 ^ width has exactly so many places
pub hex_exact : (width n : ℕ) → 0 < width → n < 16 ^ width → length (hex width n) ≡ width
hex_exact width n some small =
    omega (arith, length_padded width (digits 16 true n), length_digits width n some small)

-- the sign, 20 digits, the point and 4 digits
pub fixed_room : (negative : Bool) (whole part width : ℕ) → 1 ≤ width → width ≤ 4 → part < 10 ^ width → whole < 2 ^ 64 → length (fixed negative whole part width) ≤ 26
fixed_room negative whole part width some few small fits =
    let places : part < 2 ^ 64 = let most = pow-le-pow_right {n = 10} (omega arith) few in omega arith in
    omega (arith, sign_room negative, decimal_room whole fits, length-append (sign negative ++ decimal whole ++ 46 ∷ []) (padded width (decimal part)), length-append (sign negative ++ decimal whole) (46 ∷ []), length-append (sign negative) (decimal whole), length_padded width (decimal part), length-decimal-le width part (omega arith) small places)
