-- What is to be written at once of the marks that were taken.
use Rattle.std.specs.Prelude.{ℕ, ◌≡◌, List, [], Option, Some, None}
use Rattle.std.specs.List.{All}
use Rattle.la_base.specs.declared.wires.Mark.{Mark}
use Rattle.note_order.specs.declared.entry.Entry.{Entry}
use Rattle.stack_words.specs.Accepting.{Accepted}
use Rattle.annot_merge.specs.Bounds.{IsAllowed}
use Rattle.annot_merge.specs.Merging.{Merges}
use Rattle.note_lister.specs.Data.{bytes_in}
use Rattle.note_lister.specs.Lines.{shown_entries, shown_lines}

-- no note that is held may be given
abbrev pub NoneAllowed : ℕ → (ℕ → List Mark) → List Entry → Type 0
NoneAllowed count marks held = All (λ entry. ¬ IsAllowed count marks entry) held

-- the lines of the notes that a merge of these marks has given, where it holds none that it may
-- give; and those of these notes that are shown
pub record AreLines (accepted : Accepted) (count : ℕ) (marks : ℕ → List Mark) (out : List ℕ)
    (notes : List Entry) : Type 0 where
  pub given : List Entry
  pub held : List Entry
  pub merges : Merges count marks given held
  pub prompt : NoneAllowed count marks held
  pub lines : out ≡ shown_lines accepted given
  pub shown : notes ≡ shown_entries accepted given

-- or, where binary data is wanted, its bytes, and no notes
abbrev pub Prompts : Accepted → Option (ℕ × ℕ) → ℕ → (ℕ → List Mark) → List ℕ → List Entry → Type 0
Prompts accepted None count marks out notes = AreLines accepted count marks out notes
Prompts accepted (Some wanted) count marks out notes =
    (out ≡ bytes_in wanted.1 (marks wanted.0)) × (notes ≡ [])
