-- Runs over the parts of a capture, each with the word of the checkpoint that the run before wrote,
-- and what they write together.
use Rattle.std.specs.Prelude.{ℕ, ◌≡◌, ◌==◌, Bool, true, not, List, [], ◌∷◌, ◌++◌, codes, Option, Some}
use Rattle.std.specs.List.{flat_map, list_all}
use Rattle.std.specs.Io.KnownBytes.{Appends}
use Rattle.decoder_core.specs.Trees.{Node}
use Rattle.decoder_set.specs.declared.setup.Setup.{Setup}
use Rattle.note_lister.specs.Lines.{note_lines}
use Rattle.note_order.specs.Order.{in_order}
use Rattle.note_order.specs.declared.entry.Entry.{Entry}
use Rattle.stack_words.specs.Accepting.{Accepted}
use Rattle.run_asks.specs.Parting.{Saves}
use Rattle.ldecode.specs.Decoding.{decode_notes}
use Rattle.ldecode.specs.Parts.{CameBefore, IsCheckAt, WritesAll, part_listing}

-- a run over a part: its samples, the lines that it wrote of them, and the word behind these
pub record PartRun : Type 0 where
  pub samples : List ℕ
  pub lines : List ℕ
  pub word : List ℕ

-- all that it wrote: its last line tells the word
abbrev pub all_written : PartRun → List ℕ
all_written run = run.lines ++ (codes "checkpoint: " ++ (run.word ++ 10 ∷ []))

-- a word has no blank
abbrev pub is_one_word : List ℕ → Bool
is_one_word bytes = list_all (λ byte. not (byte == 32)) bytes

module _ (saves : Saves) (accepted : Accepted) (nodes : List (Node Setup)) where
  -- A run over a part that ended well: it was given this word, if any, and wrote what is promised
  -- of such a run (`Parted`), whichever samples came before.
  pub record IsPartRun (from : Option (List ℕ)) (run : PartRun) : Type 0 where
    pub says : (earlier : List ℕ) → CameBefore saves nodes from earlier
        → WritesAll (part_listing accepted nodes) (IsCheckAt saves nodes) earlier (Some [])
        (Some (all_written run)) Appends run.samples
    pub word : is_one_word run.word ≡ true

  -- runs over parts, each of which is given the word of the one before
  abbrev pub ArePartRuns : Option (List ℕ) → List PartRun → Type 0
  ArePartRuns from [] = Unit {0}
  ArePartRuns from (run ∷ runs) = IsPartRun from run × ArePartRuns (Some run.word) runs

-- their lines are together those of the whole: the lines of notes that, put into the order of a
-- listing, are just the notes of the listing of all samples
pub record WriteTheWhole (accepted : Accepted) (nodes : List (Node Setup)) (runs : List PartRun)
    : Type 0 where
  pub notes : List Entry
  pub lines : flat_map (λ run. run.lines) runs ≡ note_lines accepted.instances notes
  pub all : in_order notes ≡ decode_notes accepted nodes (flat_map (λ run. run.samples) runs)
