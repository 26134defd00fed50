-- What the instances of a tree read and give on samples, and the listing of their notes.
use Rattle.std.specs.Prelude.{ℕ, ◌≡◌, Bool, List, map, length, slice_get, Option, Some, None}
use Rattle.std.specs.List.{filter, range_with_len}
use Rattle.la_base.specs.declared.wires.Out.{Out}
use Rattle.note_order.specs.Order.{listed}
use Rattle.note_order.specs.declared.entry.Entry.{Entry}
use Rattle.decoder_core.specs.Inputs.{Item, Sample}
use Rattle.decoder_core.specs.Trees.{packets_of}
use Rattle.tree_runs.specs.Listings.{notes_of}

-- of entries, those of the instances that are shown
abbrev pub shown_alone : (ℕ → Bool) → List Entry → List Entry
shown_alone shown entries = filter (λ entry. shown entry.instance) entries

module _ (parents : List (Option ℕ)) (whole : ℕ → List Item → List Out) where
  -- what comes to an instance that stands on this one: the samples, or the packets of its parent
  abbrev pub comes_by : List ℕ → (ℕ → List Item) → Option ℕ → List Item
  comes_by samples input None = map Sample samples
  comes_by samples input (Some parent) = packets_of (whole parent (input parent))

  -- these are the inputs of all instances on samples
  abbrev pub AreInputs : List ℕ → (ℕ → List Item) → Type 0
  AreInputs samples input =
      (j : ℕ) (parent : Option ℕ) → slice_get parents j ≡ Some parent
      → input j ≡ comes_by samples input parent

  -- the notes of all instances on these inputs, in the order of a listing
  abbrev pub listing : (ℕ → List Item) → List Entry
  listing input =
      listed (map (λ j. notes_of (whole j (input j))) (range_with_len 0 (length parents)))
