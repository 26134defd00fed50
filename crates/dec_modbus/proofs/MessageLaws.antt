-- Laws of messages.
use Rattle.std.proofs.Common.{◌≡◌, ℕ, ◌+◌, ◌-◌, ◌*◌, ◌/◌, ◌%◌, Bool, true, false, if◌then◌else◌}
use Rattle.std.proofs.Common.{List, [], ◌∷◌, ◌++◌, length, take, refl, sym, ◌∙◌, ap, arith}
use Rattle.std.proofs.Common.{length-append}
use Rattle.std.specs.Prelude.{get_or, not}
use Rattle.std.specs.List.{flat_map}
use Rattle.std.proofs.Math.Seq.{take-append_seam, get_or-append_seam}
use Rattle.std.proofs.lemmas.List.{get_or-append-add}
use Rattle.list_cuts.proofs.TestLaws.{test_yes}
use Rattle.dec_modbus.specs.Modbus.{in_front, rows, crc16, crc_sent, crc_wrong}
use Rattle.dec_modbus.specs.Shapes.{AreRows}

module _ {X : Type 0} (pair : X → X → Bool) where
  abbrev Joined : Bool → X → X → List X → List (List X) → List (List X)
  Joined on x y ys list = if on then (x ∷ y ∷ ys) ∷ list else (x ∷ []) ∷ (y ∷ ys) ∷ list

  front_rows : (x : X) (list : List (List X)) → AreRows pair list
      → AreRows pair (in_front pair x list)
  front_rows x [] are = tt
  front_rows x ([] ∷ list) are = absurd are
  front_rows x ((y ∷ ys) ∷ []) are = go (pair x y) refl
    where
      go : (on : Bool) → pair x y ≡ on → AreRows pair (Joined on x y ys [])
      go true is = (is, are)
      go false is = (tt, is, are)
  front_rows x ((y ∷ ys) ∷ [] ∷ list) are = absurd are
  front_rows x ((y ∷ ys) ∷ (z ∷ zs) ∷ list) are = go (pair x y) refl
    where
      go : (on : Bool) → pair x y ≡ on → AreRows pair (Joined on x y ys ((z ∷ zs) ∷ list))
      go true is = ((is, are.0), are.1, are.2)
      go false is = (tt, is, are)

  pub are_rows : (xs : List X) → AreRows pair (rows pair xs)
  are_rows [] = tt
  are_rows (x ∷ xs) = front_rows x (rows pair xs) (are_rows xs)

  front_whole : (x : X) (list : List (List X)) → AreRows pair list
      → flat_map (λ row. row) (in_front pair x list) ≡ x ∷ flat_map (λ row. row) list
  front_whole x [] are = refl
  front_whole x ([] ∷ list) are = absurd are
  front_whole x ((y ∷ ys) ∷ list) are = go (pair x y)
    where
      go : (on : Bool) → flat_map (λ row. row) (Joined on x y ys list)
          ≡ x ∷ flat_map (λ row. row) ((y ∷ ys) ∷ list)
      go true = refl
      go false = refl

  pub whole_rows : (xs : List X) → flat_map (λ row. row) (rows pair xs) ≡ xs
  whole_rows [] = refl
  whole_rows (x ∷ xs) =
      front_whole x (rows pair xs) (are_rows xs) ∙ ap (λ (l : List X). x ∷ l) (whole_rows xs)

-- a CRC behind its bytes
module _ (bytes : List ℕ) where
  abbrev crc : ℕ
  crc = crc16 bytes

  abbrev all : List ℕ
  all = bytes ++ crc % 256 ∷ crc / 256 ∷ []

  count : length all ≡ length bytes + 2
  count = length-append bytes (crc % 256 ∷ crc / 256 ∷ [])

  front_is : take (length all - 2) all ≡ bytes
  front_is =
      let place : length all - 2 ≡ length bytes = omega (arith, count) in
      ap (λ (k : ℕ). take k all) place ∙ take-append_seam bytes (crc % 256 ∷ crc / 256 ∷ [])

  low_is : get_or all (length all - 2) 0 ≡ crc % 256
  low_is =
      let place : length all - 2 ≡ length bytes = omega (arith, count) in
      ap (λ (k : ℕ). get_or all k 0) place
      ∙ get_or-append_seam bytes (crc % 256) (crc / 256 ∷ []) 0

  high_is : get_or all (length all - 1) 0 ≡ crc / 256
  high_is =
      let place : length all - 1 ≡ length bytes + 1 = omega (arith, count) in
      ap (λ (k : ℕ). get_or all k 0) place
      ∙ get_or-append-add bytes (crc % 256 ∷ crc / 256 ∷ []) 1 0

  pub own_crc : crc_wrong all ≡ false
  own_crc =
      let sent : crc_sent all ≡ crc % 256 + 256 * (crc / 256) = λ i. low_is i + 256 * high_is i in
      let parts : crc % 256 + 256 * (crc / 256) ≡ crc = omega arith in
      ap not (test_yes (crc16 (take (length all - 2) all)) (crc_sent all)
      (ap crc16 front_is ∙ sym (sent ∙ parts)))
