-- Marks that are pushed to a merge one behind another.
use Rattle.std.specs.Prelude.{ℕ, ◌≡◌, ◌≢◌, ◌⊎◌, Bool, true, false, List, [], ◌∷◌, ◌++◌}
use Rattle.std.specs.Prelude.{Option, Some, None}
use Rattle.la_base.specs.declared.wires.Mark.{Mark}
use Rattle.tree_io.specs.Feeds.{TakesMarks}
use Rattle.note_order.specs.declared.entry.Entry.{Entry}
use Rattle.annot_merge.specs.Held.{Stands}
use Rattle.annot_merge.specs.declared.merge.Merge.{Merge}

-- what may be there, as a list
abbrev pub list_of : {X : Type 0} → Option X → List X
list_of None = []
list_of (Some x) = x ∷ []

-- these were pushed to an instance
abbrev pub PushesMarks : Merge → Merge → ℕ → List Mark → Type 0
PushesMarks old new instance marks =
    (given : List Entry)
    → TakesMarks (λ had. Stands old had given) (λ had. Stands new had given) instance marks

-- the first of these were pushed, and there was no memory for the next
pub record PushesFront (old new : Merge) (instance : ℕ) (marks : List Mark) : Type 0 where
  pub first : List Mark
  pub refused : Mark
  pub rest : List Mark
  pub front : (first ++ refused ∷ []) ++ rest ≡ marks
  pub pushes : PushesMarks old new instance first

-- an answer tells whether there are some marks, or were before; where not, nothing has changed
pub record TellsSome (before some : Bool) (old new : Merge) (marks : List Mark) : Type 0 where
  pub none : some ≡ false → (before ≡ false) × (marks ≡ []) × (new ≡ old)
  pub some_is : some ≡ true → (before ≡ true) ⊎ (marks ≢ [])
