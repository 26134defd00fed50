-- The parts of a transaction tell it.
use Rattle.std.proofs.Common.{◌≡◌, ℕ, ◌<◌, ◌≤◌, ◌^◌, Bool, true, false, if◌then◌else◌, List, []}
use Rattle.std.proofs.Common.{◌∷◌, ◌++◌, length, refl, ap, arith, le_refl}
use Rattle.std.specs.Prelude.{nat_le}
use Rattle.std.proofs.lemmas.Bool.Decides.{nat_tests}
use Rattle.std.specs.Int.{w64, to_be_bytes}
use Rattle.plain_bytes.specs.Forms.{ReadsBack, byte_at, number_at, pair_at}
use Rattle.plain_bytes.specs.laws.FormLaws.{back_64, byte_back, pair_back}
use Rattle.dev_ds18b20.specs.declared.spot.Spot.{Spot}
use Rattle.dev_ds18b20.specs.declared.held.Stage.{Stage}
use Rattle.dev_ds18b20.specs.declared.held.Stage.TheVariants.{Foreign, Own, Reads, Writes, Told}
use Rattle.dev_ds18b20.specs.declared.held.Transaction.{Transaction}
use Rattle.dev_ds18b20.specs.Kept.{SpotParts, spot_at, spot_bytes, spot_fits, spot_made, spot_parts}
use Rattle.dev_ds18b20.specs.Kept.{bytes_of_parts, bytes_parts, count_of, stage_at, stage_place}
use Rattle.dev_ds18b20.specs.Kept.{transaction_of, transaction_parts}

-- where a byte ends, and itself
rest_back : ReadsBack (λ (p : ℕ × ℕ). (p.0 < 2 ^ 64) × (p.1 < 2 ^ 8))
    (λ p. to_be_bytes w64 p.0 ++ p.1 ∷ []) (pair_at (number_at w64) byte_at)
rest_back p more fits =
    pair_back (λ n. n < 2 ^ 64) (λ n. to_be_bytes w64 n) (number_at w64) back_64 (λ n. n < 2 ^ 8)
    (λ n. n ∷ []) byte_at byte_back p more fits

-- a byte that was put is read back
pub spot_back : ReadsBack spot_fits spot_bytes spot_at
spot_back spot more fits =
    ap (λ (r : SpotParts × List ℕ). spot_made r)
    (pair_back (λ n. n < 2 ^ 64) (λ n. to_be_bytes w64 n) (number_at w64) back_64
    (λ (p : ℕ × ℕ). (p.0 < 2 ^ 64) × (p.1 < 2 ^ 8)) (λ p. to_be_bytes w64 p.0 ++ p.1 ∷ [])
    (pair_at (number_at w64) byte_at) rest_back (spot_parts spot) more fits)

pub spot_few : (spot : Spot) → length (spot_bytes spot) ≤ 17
spot_few spot = le_refl 17

stage_back : (stage : Stage) → stage_at (stage_place stage) ≡ stage
stage_back Foreign = refl
stage_back Own = refl
stage_back Reads = refl
stage_back Writes = refl
stage_back Told = refl

at_most_eight : (n : ℕ) → nat_le n 8 ≡ true → n ≤ 8
at_most_eight n is = grind (arith, nat_tests)

too_many : (n : ℕ) → 9 ≤ n → (b : Bool) → nat_le n 8 ≡ b → (if b then n else 256) < 2 ^ 8 → ⊥
too_many n nine true is few = let most = at_most_eight n is in omega (arith, nine, most)
too_many n nine false is few = omega (arith, few)

bytes_back : (bytes : List Spot) → count_of bytes < 2 ^ 8
    → bytes_of_parts (bytes_parts bytes) ≡ bytes
bytes_back [] few = refl
bytes_back (a ∷ []) few = refl
bytes_back (a ∷ b ∷ []) few = refl
bytes_back (a ∷ b ∷ c ∷ []) few = refl
bytes_back (a ∷ b ∷ c ∷ d ∷ []) few = refl
bytes_back (a ∷ b ∷ c ∷ d ∷ e ∷ []) few = refl
bytes_back (a ∷ b ∷ c ∷ d ∷ e ∷ f ∷ []) few = refl
bytes_back (a ∷ b ∷ c ∷ d ∷ e ∷ f ∷ g ∷ []) few = refl
bytes_back (a ∷ b ∷ c ∷ d ∷ e ∷ f ∷ g ∷ h ∷ []) few = refl
bytes_back (a ∷ b ∷ c ∷ d ∷ e ∷ f ∷ g ∷ h ∷ i ∷ others) few =
    let bytes : List Spot = a ∷ b ∷ c ∷ d ∷ e ∷ f ∷ g ∷ h ∷ i ∷ others in
    absurd (too_many (length bytes) (omega arith) (nat_le (length bytes) 8) refl few)

pub transaction_back : (kept : Transaction) → count_of kept.bytes < 2 ^ 8
    → transaction_of (transaction_parts kept) ≡ kept
transaction_back kept few = λ i. record {
  start = kept.start;
  stage = stage_back kept.stage i;
  bytes = bytes_back kept.bytes few i;
}
