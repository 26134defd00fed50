-- What is given behind what was given before.
use Rattle.std.specs.Prelude.{ℕ, List, ◌++◌, drop, length}
use Rattle.la_base.specs.declared.wires.Out.{Out}
use Rattle.decoder_core.specs.Inputs.{Item}
use Rattle.tree_runs.specs.Machines.{Definitions}

-- what a decoder gives on more input, behind its outputs on the input that it had
abbrev pub whole_behind : (List Item → List Out) → List Item → List Item → List Out
whole_behind whole was more = drop (length (whole was)) (whole (was ++ more))

-- its near floor there
abbrev pub near_behind : (List Item → ℕ) → List Item → List Item → ℕ
near_behind near was more = near (was ++ more)

-- the definitions of a tree behind the inputs that its instances had
abbrev pub behind : Definitions → (ℕ → List Item) → Definitions
behind by was = record {
  whole = λ j. whole_behind (by.whole j) (was j);
  near = λ j. near_behind (by.near j) (was j);
}
