-- The floors that are taken of an instance: one behind each feed that it was handed.
use Rattle.std.specs.Prelude.{ℕ, ◌≡◌, ◌≤◌, ◌⊎◌, Bool, true, List, [], ◌∷◌, ◌++◌}
use Rattle.la_base.specs.declared.wires.Mark.{Mark}
use Rattle.la_base.specs.declared.wires.Mark.TheVariants.{Note as NoteMark, Piece as PieceMark}
use Rattle.la_base.specs.declared.wires.Mark.TheVariants.{Floor as FloorMark, End as EndMark}
use Rattle.la_base.specs.declared.wires.Out.{Out}
use Rattle.tree_io.specs.Feeds.{together}
use Rattle.decoder_core.specs.Inputs.{Item}
use Rattle.tree_io.specs.Feeds.{marks_of}
use Rattle.tree_runs.specs.Reaching.{Reaches}

-- the marks of an instance that was handed these feeds behind an input, each one whole: of each
-- feed the notes and pieces that it adds, and then a floor, which is at least the near one
abbrev pub Floored : (List Item → List Out) → (List Item → ℕ) → List Item → List (List Item)
    → List Mark → Type 0
Floored whole near input [] marks = marks ≡ []
Floored whole near input (feed ∷ feeds) marks =
    (added : List Out) × (floor : ℕ) × (rest : List Mark)
    × (whole (input ++ feed) ≡ whole input ++ added) × (near (input ++ feed) ≤ floor)
    × (marks ≡ marks_of added ++ FloorMark floor ∷ rest)
    × Floored whole near (input ++ feed) feeds rest

-- such marks; or a front of them, where it was stopped on the way
abbrev pub FrontOfFloored : Bool → (List Item → List Out) → (List Item → ℕ) → List Item
    → List (List Item) → List Mark → Type 0
FrontOfFloored done whole near input feeds marks =
    (all : List Mark) × Reaches done marks all × Floored whole near input feeds all

-- the second marks are the first ones, with floors among them
abbrev pub WithFloors : List Mark → List Mark → Type 0
WithFloors marks [] = marks ≡ []
WithFloors marks (FloorMark floor ∷ all) =
    WithFloors marks all
    ⊎ ((rest : List Mark) × (marks ≡ FloorMark floor ∷ rest) × WithFloors rest all)
WithFloors marks (NoteMark note ∷ all) =
    (rest : List Mark) × (marks ≡ NoteMark note ∷ rest) × WithFloors rest all
WithFloors marks (PieceMark piece ∷ all) =
    (rest : List Mark) × (marks ≡ PieceMark piece ∷ rest) × WithFloors rest all
WithFloors marks (EndMark ∷ all) = ⊥

-- each item as a feed of its own
abbrev pub alone : List Item → List (List Item)
alone [] = []
alone (item ∷ items) = (item ∷ []) ∷ alone items

-- what an instance was handed: these feeds, which are what its input grew by; and the marks of them
pub record Handed (done : Bool) (whole : List Item → List Out) (near : List Item → ℕ)
    (before : List Item → Type 0) (grown : List Item) (feeds : List (List Item))
    (marks : List Mark) : Type 0 where
  pub cut : done ≡ true → together feeds ≡ grown
  pub front : (input : List Item) → before input → FrontOfFloored done whole near input feeds marks
