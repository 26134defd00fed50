-- The notes of instances, and those of the instances that are shown.
use Rattle.std.specs.Prelude.{ℕ, ◌+◌, Bool, if◌then◌else◌, List, [], ◌∷◌}
use Rattle.la_base.specs.declared.wires.Note.{Note}
use Rattle.la_base.specs.declared.wires.Out.{Out}
use Rattle.la_base.specs.declared.wires.Out.TheVariants.{Note as NoteOut, Piece as PieceOut}
use Rattle.la_base.specs.declared.wires.Out.TheVariants.{Packet as PacketOut}

-- the notes among outputs
abbrev pub notes_of : List Out → List Note
notes_of [] = []
notes_of (NoteOut note ∷ outs) = note ∷ notes_of outs
notes_of (PieceOut piece ∷ outs) = notes_of outs
notes_of (PacketOut packet ∷ outs) = notes_of outs

-- notes, or none where they aren't shown
abbrev pub where_shown : Bool → List Note → List Note
where_shown shown notes = if shown then notes else []

-- the notes of those instances that are shown, and none of the others; the first has this number
abbrev pub shown_from : (ℕ → Bool) → ℕ → List (List Note) → List (List Note)
shown_from shown instance [] = []
shown_from shown instance (notes ∷ others) =
    where_shown (shown instance) notes ∷ shown_from shown (instance + 1) others
