-- One more bit, and how large the number is.
use Rattle.std.proofs.Common.{◌≡◌, ℕ, suc, ◌+◌, ◌*◌, ◌^◌, ◌<◌, ◌≤◌, Bool, true, false, List, [], ◌∷◌, ◌++◌, length, refl, ◌∙◌, ap, subst, arith}
use Rattle.std.proofs.Math.Nat.{pow-succ'}
use Rattle.list_cuts.specs.Bits.{bit_of, with_bits, high_first, low_first}

pub bit_small : (b : Bool) → bit_of b ≤ 1
bit_small true = omega arith
bit_small false = omega arith

pub with_push : (bits : List Bool) (n : ℕ) (b : Bool) → with_bits n (bits ++ b ∷ []) ≡ 2 * with_bits n bits + bit_of b
with_push [] n b = refl
with_push (l ∷ bits) n b = with_push bits (2 * n + bit_of l) b

pub with_below : (bits : List Bool) (n m : ℕ) → n < 2 ^ m → with_bits n bits < 2 ^ (m + length bits)
with_below [] n m small = let same : m ≡ m + 0 = omega arith in subst (λ (k : ℕ). n < 2 ^ k) same small
with_below (l ∷ bits) n m small =
    let twice : 2 ^ suc m ≡ 2 * 2 ^ m = pow-succ' 2 m in
    let place : suc m + length bits ≡ m + suc (length bits) = omega arith in
    subst (λ (k : ℕ). with_bits (2 * n + bit_of l) bits < 2 ^ k) place (with_below bits (2 * n + bit_of l) (suc m) (omega (arith, small, twice, bit_small l)))

pub high_push : (bits : List Bool) (b : Bool) → high_first (bits ++ b ∷ []) ≡ 2 * high_first bits + bit_of b
high_push bits b = with_push bits 0 b

pub high_below : (bits : List Bool) → high_first bits < 2 ^ length bits
high_below bits =
    let same : 0 + length bits ≡ length bits = omega arith in
    subst (λ (k : ℕ). high_first bits < 2 ^ k) same (with_below bits 0 0 (omega arith))

pub low_push : (bits : List Bool) (b : Bool) → low_first (bits ++ b ∷ []) ≡ low_first bits + bit_of b * 2 ^ length bits
low_push [] b = let e : bit_of b + 2 * 0 ≡ 0 + bit_of b * 1 = omega arith in e
low_push (l ∷ bits) b =
    let on = low_push bits b in
    let twice : 2 ^ suc (length bits) ≡ 2 * 2 ^ length bits = pow-succ' 2 (length bits) in
    let double : bit_of b * 2 ^ suc (length bits) ≡ 2 * (bit_of b * 2 ^ length bits) = ap (λ (n : ℕ). bit_of b * n) twice ∙ grind arith in
    omega (arith, on, double)

pub low_below : (bits : List Bool) → low_first bits < 2 ^ length bits
low_below [] = omega arith
low_below (l ∷ bits) = let on = low_below bits in let twice : 2 ^ suc (length bits) ≡ 2 * 2 ^ length bits = pow-succ' 2 (length bits) in omega (arith, on, twice, bit_small l)
