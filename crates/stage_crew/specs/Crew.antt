-- How those that take turns go on.
use Rattle.std.specs.Prelude.{◌≡◌, Bool, true, List, [], ◌∷◌, vec_len}
use Rattle.std.specs.declared.vec.Vec.{Vec}
use Rattle.std.specs.declared.alloc.Global.{Global}

-- each is related to the one at its place
abbrev pub Each : {X : Type 0} → (X → X → Type 0) → List X → List X → Type 0
Each R [] [] = Unit {0}
Each R (x ∷ xs) [] = ⊥
Each R [] (y ∷ ys) = ⊥
Each R (x ∷ xs) (y ∷ ys) = R x y × Each R xs ys

-- each of them went on, and there are as many
pub record AllGoOn {S : Type 0} (goes_on : S → S → Type 0) (old new : Vec S Global) : Type 0 where
  pub each : Each goes_on old.items new.items
  pub count : vec_len new ≡ vec_len old

-- it went on until it was over
pub record Ends {S : Type 0} (goes_on : S → S → Type 0) (over : S → Bool) (old new : S)
    : Type 0 where
  pub goes : goes_on old new
  pub is_over : over new ≡ true
