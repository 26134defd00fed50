-- What was written, with the notes that were seen of it.
use Rattle.std.specs.Prelude.{ℕ, List, Option}
use Rattle.std.specs.Io.KnownBytes.{Appends}
use Rattle.la_io.specs.Causes.{AppendsFront}
use Rattle.note_order.specs.declared.entry.Entry.{Entry}
use Rattle.annot_merge.specs.Marks.{Begins}

-- just the first of these notes were seen
pub record SeesFirst (saw : List Entry → Type 0) (notes : List Entry) : Type 0 where
  pub seen : List Entry
  pub begins : Begins seen notes
  pub are_seen : saw seen

-- all bytes were written, and just these notes were seen
pub record WritesSeen (saw : List Entry → Type 0) (old new : Option (List ℕ)) (bytes : List ℕ)
    (notes : List Entry) : Type 0 where
  pub whole : Appends old new bytes
  pub seen : saw notes

-- a front of the bytes was written, and the first of the notes were seen
pub record WritesFrontSeen (saw : List Entry → Type 0) (old new : Option (List ℕ))
    (bytes : List ℕ) (notes : List Entry) : Type 0 where
  pub front : AppendsFront old new bytes
  pub seen : SeesFirst saw notes
