-- Where a note stands to a limit.
use Rattle.std.specs.Prelude.{◌≡◌, ◌<◌, ◌^◌, ◌∷◌, List, Some}
use Rattle.note_order.specs.declared.entry.Entry.{Entry}
use Rattle.annot_merge.specs.Bounds.{Allows}
use Rattle.annot_merge.specs.Limits.{IsBefore}
use Rattle.annot_merge.specs.declared.limit.Limit.{Limit}

-- a note stands before all those of other instances, and has a start that fits
abbrev pub GoesOn : Limit → Entry → Type 0
GoesOn others entry =
    IsBefore entry.note.start entry.instance others × (entry.note.start < 2 ^ 64)

-- a note isn't behind a limit: it is allowed
abbrev pub IsWithin : Limit → Entry → Type 0
IsWithin limit entry = Allows (Some limit.start) limit.instance entry

-- a note isn't allowed by a limit, and its place fits
abbrev pub StopsAt : Limit → Entry → Type 0
StopsAt limit entry =
    (¬ IsWithin limit entry) × (entry.note.start < 2 ^ 64) × (entry.instance < 2 ^ 32)

-- so it is with the first of these notes, where there is one
abbrev pub StopsFirst : Limit → List Entry → Type 0
StopsFirst limit held =
    (entry : Entry) (rest : List Entry) → held ≡ entry ∷ rest → StopsAt limit entry
