-- The last place of a list at which something holds.
use Rattle.std.specs.Prelude.{ℕ, suc, ◌≡◌, ◌<◌, Bool, true, false, cond, List, [], ◌∷◌, Option}
use Rattle.std.specs.Prelude.{Some, None, slice_get}

-- the place behind the head, else the head's own where it passes
abbrev pub later_place : Option ℕ → Bool → Option ℕ
later_place (Some place) here = Some (suc place)
later_place None here = cond here (Some 0) None

-- the last place whose element passes the test
abbrev pub last_where : {X : Type 0} → (X → Bool) → List X → Option ℕ
last_where test [] = None
last_where test (x ∷ xs) = later_place (last_where test xs) (test x)

-- what stands behind x, else x where it passes
abbrev pub later_one : {X : Type 0} → Option X → Bool → X → Option X
later_one (Some y) here x = Some y
later_one None here x = cond here (Some x) None

-- the last element that passes the test
abbrev pub last_that : {X : Type 0} → (X → Bool) → List X → Option X
last_that test [] = None
last_that test (x ∷ xs) = later_one (last_that test xs) (test x) x

-- at a place stands an element that passes, and none behind it does
pub record StandsLast {X : Type 0} (test : X → Bool) (list : List X) (place : ℕ)
    (element : X) : Type 0 where
  pub stands : slice_get list place ≡ Some element
  pub passes : test element ≡ true
  pub behind : (k : ℕ) (other : X) → place < k → slice_get list k ≡ Some other → test other ≡ false
