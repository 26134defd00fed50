-- The rule of a history, and what its one step tells.
use Rattle.std.specs.Prelude.{ℕ, ◌≡◌, ◌==◌, true, List, [], ◌∷◌, ◌++◌, length, MatchBool}
use Rattle.logbook.specs.Pages.{Cell, Step, View, Book, Named}
use Rattle.view_store.specs.declared.added.Added.{Added}
use Rattle.view_store.specs.Listings.{is_listing}

-- the first word is the length of the history, which is a listing's. A book has two words, of which
-- the second stays at 0
pub record IsKept (cells : List Cell) (log : List Added) : Type 0 where
  pub words : cells ≡ (length log, true) ∷ (0, true) ∷ []
  pub legal : is_listing log ≡ true

-- the word that is the length
abbrev pub head_of : Book → Named
head_of book = record { tracked = true; key = 0; book = book }

-- it was added to all that had been seen; or the history was longer
abbrev pub Adds : Step Added → View Added ℕ → ℕ → View Added ℕ → Type 0
Adds step before found after =
    MatchBool (found == step.old)
    ((after.0 ≡ before.0 ++ step.ask ∷ []) × (is_listing after.0 ≡ true))
    (length after.0 ≡ found)
