-- What is asked of a tree and of what takes its marks, and what stays of the latter.
use Rattle.std.specs.Prelude.{ℕ, ◌≡◌, ◌≤◌, Bool, true, List, Option, Ok, Result, length}
use Rattle.std.specs.Result.{is_ok}
use Rattle.la_io.specs.Causes.{HasCause}
use Rattle.tree_io.specs.declared.feeds.Stopped.{Stopped}
use Rattle.tree_runs.specs.Passing.{IsForest}

-- a tree by the places on which its instances stand, each behind its own, at most 24 of them; as
-- many machines, and as many instances of which marks are taken
pub record IsTree (parents : List (Option ℕ)) (machines taken : ℕ) : Type 0 where
  pub forest : IsForest parents
  pub few : length parents ≤ 24
  pub each : machines ≡ length parents
  pub takes : taken ≡ length parents

-- marks were taken one behind another: it stopped at the last one or at none, and has stopped more
-- often exactly where it did
pub record GoesOn {A O R E : Type 0} (count : A → ℕ) (made_over : A → O) (stopped : A → ℕ)
    (goes : A → Bool → Type 0) (old new : A) (result : Result R E) : Type 0 where
  pub instances : count new ≡ count old
  pub origin : made_over new ≡ made_over old
  pub cause : HasCause (stopped old) (stopped new) result
  pub going : goes old true → goes new (is_ok result)

-- marks were taken, and it stopped at none
abbrev pub KeepsOn : {A O : Type 0} → (A → ℕ) → (A → O) → (A → ℕ) → (A → Bool → Type 0) → A → A
    → Type 0
KeepsOn count made_over stopped goes old new =
    GoesOn {R = Unit {0}} {E = Stopped} count made_over stopped goes old new (Ok tt)
