-- What a decoder of samples does on its walk through runs.
use Rattle.std.specs.Prelude.{ℕ, ◌≡◌, ◌-◌, List, ◌++◌, take, replicate, get_or, Some, Bool, true}
use Rattle.std.specs.Prelude.{false}
use Rattle.la_base.specs.Runs.{samples_of}
use Rattle.la_base.specs.declared.samples.Run.{Run}
use Rattle.la_base.specs.declared.wires.Out.{Out}
use Rattle.wait_cond.specs.Pairs.{Says}
use Rattle.wait_cond.specs.Watching.{NeverMet}
use Rattle.wait_cond.specs.declared.pair.Pair.{Pair}
use Rattle.wait_cond.specs.Walks.{Walks, walk_from}
use Rattle.wait_cond.specs.declared.alt.Alt.{Alt}
use Rattle.wait_cond.specs.declared.walk.Walk.{Walk}

-- a pair says these alternatives, none of which is met while a value stands
pub record SaysAlts (pair : Pair) (alts : List Alt) : Type 0 where
  pub says : Says pair alts
  pub stands : (value : ℕ) → NeverMet alts (Some value) value

-- the walk stands for all of these samples and the machine for those up to the last stop; behind
-- `list`, these outputs came
pub record OnWalk {L : Type 0} (outs : List ℕ → List Out) (stands : L → List ℕ → Type 0)
    (alts : List Alt) (machine : L) (walk : Walk) (list all : List ℕ)
    (into : List Out) : Type 0 where
  pub waits : Walks alts walk all
  pub machine_stands : stands machine (take (walk_from walk) all)
  pub gives : outs all ≡ outs list ++ into

-- so many runs were consumed, but of the last one the first sample alone where another wait begins
-- behind it
pub record Treads {L : Type 0} (outs : List ℕ → List Out) (stands : L → List ℕ → Type 0)
    (alts : List Alt) (pair : Pair) (old new : L) (walk_old walk_new : Walk)
    (runs : List Run) (count : ℕ) (anew : Bool) (into : List Out) : Type 0 where
  pub more : List ℕ
  pub whole : anew ≡ false → samples_of (take count runs) ≡ more
  pub front : anew ≡ true → (run : Run) → run ≡ get_or runs (count - 1) run
      → samples_of (take count runs) ≡ more ++ replicate (run.len - 1) run.value
  pub treads : SaysAlts pair alts → (list : List ℕ) → Walks alts walk_old list
      → stands old (take (walk_from walk_old) list)
      → OnWalk outs stands alts new walk_new list (list ++ more) into
