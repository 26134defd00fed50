-- One more item joins the last of some rows, or begins another.
use Rattle.std.proofs.Common.{◌≡◌, Bool, true, false, if◌then◌else◌, List, [], ◌∷◌, ◌++◌, refl, sym}
use Rattle.std.proofs.Common.{◌∙◌, ap}
use Rattle.dec_modbus.specs.Modbus.{in_front, rows, last_in}

-- the last row with an item behind it, or the item as a row of its own
abbrev pub grown : {X : Type 0} → Bool → List X → X → List (List X)
grown on row p = if on then (row ++ p ∷ []) ∷ [] else row ∷ (p ∷ []) ∷ []

module _ {X : Type 0} (pair : X → X → Bool) where
  abbrev pub pushed : List (List X) → X → List (List X)
  pushed [] p = (p ∷ []) ∷ []
  pushed ([] ∷ []) p = [] ∷ (p ∷ []) ∷ []
  pushed ((x ∷ xs) ∷ []) p = grown (pair (last_in x xs) p) (x ∷ xs) p
  pushed (row ∷ next ∷ others) p = row ∷ pushed (next ∷ others) p

  -- no row is empty
  abbrev Filled : List (List X) → Type 0
  Filled [] = Unit {0}
  Filled ([] ∷ others) = ⊥
  Filled ((x ∷ xs) ∷ others) = Filled others

  abbrev before : Bool → X → X → List X → List (List X) → List (List X)
  before on x y row others =
      if on then (x ∷ y ∷ row) ∷ others else (x ∷ []) ∷ (y ∷ row) ∷ others

  filled : (xs : List X) → Filled (rows pair xs)
  filled [] = tt
  filled (x ∷ xs) = by (rows pair xs) (filled xs)
    where
      by : (list : List (List X)) → Filled list → Filled (in_front pair x list)
      by [] all = tt
      by ([] ∷ others) all = absurd all
      by ((y ∷ row) ∷ others) all = go (pair x y)
        where
          go : (on : Bool) → Filled (before on x y row others)
          go true = all
          go false = all

  -- an item in front and one behind
  module _ (x p : X) where
    last_row : (y : X) (row : List X) (on joins : Bool) → pair x y ≡ on
        → pair (last_in y row) p ≡ joins
        → in_front pair x (pushed ((y ∷ row) ∷ []) p)
        ≡ pushed (in_front pair x ((y ∷ row) ∷ [])) p
    last_row y row true true one two =
        (λ i. in_front pair x (grown (two i) (y ∷ row) p))
        ∙ (λ i. before (one i) x y (row ++ p ∷ []) [])
        ∙ sym
        ((λ i. pushed (before (one i) x y row []) p) ∙ (λ i. grown (two i) (x ∷ y ∷ row) p))
    last_row y row true false one two =
        (λ i. in_front pair x (grown (two i) (y ∷ row) p))
        ∙ (λ i. before (one i) x y row ((p ∷ []) ∷ []))
        ∙ sym
        ((λ i. pushed (before (one i) x y row []) p) ∙ (λ i. grown (two i) (x ∷ y ∷ row) p))
    last_row y row false true one two =
        (λ i. in_front pair x (grown (two i) (y ∷ row) p))
        ∙ (λ i. before (one i) x y (row ++ p ∷ []) [])
        ∙ sym
        ((λ i. pushed (before (one i) x y row []) p)
        ∙ (λ i. (x ∷ []) ∷ grown (two i) (y ∷ row) p))
    last_row y row false false one two =
        (λ i. in_front pair x (grown (two i) (y ∷ row) p))
        ∙ (λ i. before (one i) x y row ((p ∷ []) ∷ []))
        ∙ sym
        ((λ i. pushed (before (one i) x y row []) p)
        ∙ (λ i. (x ∷ []) ∷ grown (two i) (y ∷ row) p))

    both_ends : (list : List (List X)) → Filled list
        → in_front pair x (pushed list p) ≡ pushed (in_front pair x list) p
    both_ends [] all = refl
    both_ends ([] ∷ others) all = absurd all
    both_ends ((y ∷ row) ∷ []) all =
        last_row y row (pair x y) (pair (last_in y row) p) refl refl
    both_ends ((y ∷ row) ∷ next ∷ others) all = go (pair x y)
      where
        go : (on : Bool) → before on x y row (pushed (next ∷ others) p)
            ≡ pushed (before on x y row (next ∷ others)) p
        go true = refl
        go false = refl

  pub rows_push : (xs : List X) (p : X) → rows pair (xs ++ p ∷ []) ≡ pushed (rows pair xs) p
  rows_push [] p = refl
  rows_push (x ∷ xs) p =
      ap (in_front pair x) (rows_push xs p) ∙ both_ends x p (rows pair xs) (filled xs)
