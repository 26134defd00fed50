-- What a merge stands for.
use Rattle.std.specs.Prelude.{ℕ, ◌≡◌, ◌<◌, List, [], ◌∷◌, ◌++◌, length, slice_get, Option}
use Rattle.std.specs.Prelude.{Some}
use Rattle.std.specs.List.{All}
use Rattle.la_base.specs.declared.wires.Mark.{Mark}
use Rattle.la_base.specs.declared.wires.Note.{Note}
use Rattle.note_order.specs.Order.{entry_of}
use Rattle.note_order.specs.declared.entry.Entry.{Entry}
use Rattle.annot_merge.specs.Bounds.{HaveEnded, IsAllowed, bound_of}
use Rattle.annot_merge.specs.Marks.{Continues, Pushes, sorted_notes}
use Rattle.annot_merge.specs.Merging.{Merges}
use Rattle.annot_merge.specs.Limits.{IsLimit}
use Rattle.annot_merge.specs.Places.{IsWithin}
use Rattle.annot_merge.specs.Queues.{RunAt, listing_of}
use Rattle.annot_merge.specs.declared.limit.Limit.{Limit}
use Rattle.annot_merge.specs.declared.merge.Merge.{Merge}

-- how many instances it has
abbrev pub count_of : Merge → ℕ
count_of merge = merge.count

-- the notes that it holds, in their order
abbrev pub held_in : Merge → List Entry
held_in merge = listing_of merge.held.queues.items

-- these bounds, this limit and the notes that are held stand for the marks that were pushed to each
-- instance and for the notes that were given
pub record StandsFor (count : ℕ) (bounds : List (Option ℕ)) (limit : Limit) (held : List Entry)
    (marks : ℕ → List Mark) (given : List Entry) : Type 0 where
  pub many : length bounds ≡ count
  pub bounds_are : (instance : ℕ) → instance < count
      → slice_get bounds instance ≡ Some (bound_of (marks instance))
  pub limit_is : IsLimit bounds limit
  pub merges : Merges count marks given held

-- so does a merge
abbrev pub Stands : Merge → (ℕ → List Mark) → List Entry → Type 0
Stands merge marks given =
    StandsFor merge.count merge.bounds.items merge.limit (held_in merge) marks given

-- whatever it stood for, it still stands for
abbrev pub StandsStill : Merge → Merge → Type 0
StandsStill old new =
    (marks : ℕ → List Mark) (given : List Entry) → Stands old marks given → Stands new marks given

-- and it holds the same
abbrev pub Keeps : Merge → Merge → Type 0
Keeps old new = (held_in new ≡ held_in old) × StandsStill old new

-- one more mark was pushed
abbrev pub Takes : Merge → Merge → ℕ → Mark → Type 0
Takes old new instance mark =
    (marks after : ℕ → List Mark) (given : List Entry) → Stands old marks given
    → Pushes marks after instance mark → Stands new after given

-- the least note that was held is given, which is allowed
pub record Gives (old new : Merge) (found : ℕ × Note) : Type 0 where
  pub least : held_in old ≡ entry_of found.0 found.1 ∷ held_in new
  pub stands : (marks : ℕ → List Mark) (given : List Entry) → Stands old marks given
      → IsAllowed (count_of old) marks (entry_of found.0 found.1)
      × Stands new marks (given ++ entry_of found.0 found.1 ∷ [])

-- these notes are the first that are held, of one instance, and are allowed
pub record AreReady (merge : Merge) (notes : List Entry) : Type 0 where
  pub run : RunAt merge.held.queues.items merge.held.lead.least.instance notes
  pub within : All (IsWithin merge.limit) notes

-- they are given
pub record GivesAll (old new : Merge) (notes : List Entry) : Type 0 where
  pub first : held_in old ≡ notes ++ held_in new
  pub stands : (marks : ℕ → List Mark) (given : List Entry) → Stands old marks given
      → All (λ entry. IsAllowed (count_of old) marks entry) notes
      × Stands new marks (given ++ notes)

-- the least note that is held is allowed
pub record CanGive (merge : Merge) : Type 0 where
  pub entry : Entry
  pub others : List Entry
  pub least : held_in merge ≡ entry ∷ others
  pub allowed : (marks : ℕ → List Mark) (given : List Entry) → Stands merge marks given
      → IsAllowed (count_of merge) marks entry

-- no note that is held is allowed; where each instance has ended, those given are all
pub record GivesNone (old new : Merge) : Type 0 where
  pub stands : StandsStill old new
  pub none : (marks : ℕ → List Mark) (given : List Entry) → Stands new marks given
      → All (λ entry. ¬ IsAllowed (count_of new) marks entry) (held_in new)
  pub all_given : (marks : ℕ → List Mark) (given : List Entry) → Stands new marks given
      → HaveEnded (count_of new) marks → Continues (count_of new) marks marks
      → given ≡ sorted_notes (count_of new) marks
