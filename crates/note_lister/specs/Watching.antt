-- What one that looks on as notes are listed was shown.
use Rattle.std.specs.Prelude.{ℕ, ◌≡◌, List, ◌++◌, Option}
use Rattle.std.specs.Io.KnownBytes.{Appends}
use Rattle.la_io.specs.Causes.{AppendsFront}
use Rattle.note_order.specs.declared.entry.Entry.{Entry}
use Rattle.stack_words.specs.Accepting.{Accepted}
use Rattle.annot_merge.specs.Marks.{Begins}
use Rattle.note_lister.specs.Lines.{note_lines, shown_entries, shown_lines}

-- whatever it saw before it has seen, and these notes besides
abbrev pub Sees : (List Entry → Type 0) → (List Entry → Type 0) → List Entry → Type 0
Sees old new notes = (before : List Entry) → old before → new (before ++ notes)

-- and no more
abbrev pub SeesNone : (List Entry → Type 0) → (List Entry → Type 0) → Type 0
SeesNone old new = (before : List Entry) → old before → new before

-- a front of the lines of these notes was written, and the notes that were seen are the first of
-- those that are shown: each of them behind its line
pub record ShowsFront (accepted : Accepted) (saw_old saw_new : List Entry → Type 0)
    (old new : Option (List ℕ)) (entries : List Entry) : Type 0 where
  pub first : List Entry
  pub rest : List Entry
  pub both : first ++ rest ≡ entries
  pub sees : Sees saw_old saw_new (shown_entries accepted first)
  pub mid : Option (List ℕ)
  pub lines : Appends old mid (shown_lines accepted first)
  pub front : AppendsFront mid new (shown_lines accepted rest)

-- the first of these notes were seen, and the line of each of those is written
pub record SawFront (accepted : Accepted) (saw : List Entry → Type 0) (old new : Option (List ℕ))
    (notes : List Entry) : Type 0 where
  pub seen : List Entry
  pub begins : Begins seen notes
  pub are_seen : saw seen
  pub more : List ℕ
  pub lines : Appends old new (note_lines accepted.instances seen ++ more)
