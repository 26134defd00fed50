-- Listings that grow.
use Rattle.std.specs.Prelude.{ℕ, ◌≡◌, nat_le, ◌&&◌, Bool, true, false, List, [], ◌∷◌, ◌++◌}
use Rattle.la_base.specs.declared.wires.Note.{Note}
use Rattle.view_store.specs.declared.added.Added.{Added}
use Rattle.view_store.specs.declared.added.Added.TheVariants.{Note as NoteAdded, End as EndAdded}

-- notes with the numbers of their instances, and whether any more may come
pub record Listing : Type 0 where
  pub notes : List (ℕ × Note)
  pub ended : Bool

-- the notes that were added
abbrev pub notes_of : List Added → List (ℕ × Note)
notes_of [] = []
notes_of (NoteAdded note ∷ more) = note ∷ notes_of more
notes_of (EndAdded ∷ more) = notes_of more

-- whether the end was added
abbrev pub ended_of : List Added → Bool
ended_of [] = false
ended_of (NoteAdded note ∷ more) = ended_of more
ended_of (EndAdded ∷ more) = true

abbrev pub is_end : Added → Bool
is_end (NoteAdded note) = false
is_end EndAdded = true

abbrev pub is_empty : List Added → Bool
is_empty [] = true
is_empty (added ∷ more) = false

-- nothing was added behind the end
abbrev pub is_listing : List Added → Bool
is_listing [] = true
is_listing (NoteAdded note ∷ more) = is_listing more
is_listing (EndAdded ∷ more) = is_empty more

-- the listing to which this was added
abbrev pub listing_of : List Added → Listing
listing_of log = record { notes = notes_of log; ended = ended_of log }

-- no notes, and more may come
abbrev pub nothing : Listing
nothing = record { notes = []; ended = false }

-- the first list begins the second, or is all of it
abbrev pub IsFront : {A : Type 0} → List A → List A → Type 0
IsFront {A} xs ys = (rest : List A) × (xs ++ rest ≡ ys)

-- one listing goes on as another: its notes are the first of the other's, and once it is ended it
-- stays
pub record GoesOn (one other : Listing) : Type 0 where
  pub notes : IsFront one.notes other.notes
  pub ended : one.ended ≡ true → other ≡ one

-- whether a note starts in a range, both ends counted
abbrev pub is_between : ℕ → ℕ → ℕ × Note → Bool
is_between start end note = nat_le start note.1.start && nat_le note.1.start end
