-- The order of a listing.
use Rattle.std.specs.Prelude.{◌≡◌, ℕ, ◌+◌, ◌==◌, Bool, List, [], ◌∷◌, ◌++◌, map}
use Rattle.std.specs.List.{filter}
use Rattle.std.specs.Ordering.{nat_cmp, ordering_then, is_lt}
use Rattle.std.specs.declared.cmp.Ordering.{Ordering}
use Rattle.la_base.specs.declared.wires.Note.{Note}
use Rattle.note_order.specs.Sorting.{sorted}
use Rattle.note_order.specs.declared.entry.Entry.{Entry}

-- by start, and then by instance
abbrev pub entry_cmp : Entry → Entry → Ordering
entry_cmp x y = ordering_then (nat_cmp x.note.start y.note.start) (nat_cmp x.instance y.instance)

-- whether an entry stands before another, wherever they were given
abbrev pub is_before : Entry → Entry → Bool
is_before x y = is_lt (entry_cmp x y)

-- entries in the order of a listing: by start, then by instance, then as they were given
abbrev pub in_order : List Entry → List Entry
in_order entries = sorted is_before entries

-- whether an instance gave an entry
abbrev pub is_of : ℕ → Entry → Bool
is_of instance entry = entry.instance == instance

-- what an instance gave of some entries, in their order
abbrev pub given_by : ℕ → List Entry → List Entry
given_by instance entries = filter (is_of instance) entries

-- both have the same entries of each instance, in the same order
abbrev pub SameOfEach : List Entry → List Entry → Type 0
SameOfEach entries others = (instance : ℕ) → given_by instance entries ≡ given_by instance others

abbrev pub entry_of : ℕ → Note → Entry
entry_of instance note = record { instance = instance; note = note }

-- the notes of instances, instance by instance, the first of which has this number
abbrev pub entries_from : ℕ → List (List Note) → List Entry
entries_from instance [] = []
entries_from instance (notes ∷ others) =
    map (entry_of instance) notes ++ entries_from (instance + 1) others

-- the notes of all instances in the order of a listing
abbrev pub listed : List (List Note) → List Entry
listed given = in_order (entries_from 0 given)
