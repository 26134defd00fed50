-- The state of a tree of decoders that runs: what each stage was sent, has consumed and has made,
-- and what the driver has read and printed.
use Rattle.std.specs.Prelude.{ℕ, Bool, true, false, ◌||◌, List, [], Option, Some, None}
use Rattle.la_base.specs.declared.samples.Run.{Run}
use Rattle.la_base.specs.declared.wires.Feed.{Feed}
use Rattle.la_base.specs.declared.wires.Mark.{Mark}
use Rattle.note_order.specs.declared.entry.Entry.{Entry}
use Rattle.decoder_core.specs.Inputs.{Item}
use Rattle.tree_runs.specs.Passing.{same_place}
use Rattle.stack_laws.specs.Links.{Link, no_link}

-- a stage, which runs one decoder: the link on which its input comes, what of that it has consumed,
-- whether a floor was told behind that, the link of its marks, and whether it has closed: it has
-- made End for each of its links
pub record Stage : Type 0 where
  pub input : Link Feed
  pub consumed : List Item
  pub told : Bool
  pub marks : Link Mark
  pub closed : Bool

-- the runs that were fed; the stages by their places; the notes that were printed; whether the feed
-- has ended by itself, whether the run was stopped, and whether the reader has heard of that
pub record State : Type 0 where
  pub fed : List Run
  pub stages : ℕ → Stage
  pub printed : List Entry
  pub ended : Bool
  pub stopped : Bool
  pub heard : Bool

-- a stage that has received and made nothing
abbrev pub opening_stage : Stage
opening_stage = record {
  input = no_link;
  consumed = [];
  told = true;
  marks = no_link;
  closed = false;
}

abbrev pub opening : State
opening = record {
  fed = [];
  stages = λ _. opening_stage;
  printed = [];
  ended = false;
  stopped = false;
  heard = false;
}

-- the feed is over: it has ended by itself, or the reader has heard that the run was stopped
abbrev pub is_over : State → Bool
is_over state = state.ended || state.heard

-- the instance at a place stands on `above`; None is the outside of the tree
abbrev pub stands_on : Option (Option ℕ) → Option ℕ → Bool
stands_on None above = false
stands_on (Some parent) above = same_place parent above
