-- A wait in the midst of runs.
use Rattle.std.specs.Prelude.{ℕ, ◌≡◌, ◌+◌, ◌-◌, ◌≤◌, ◌<◌, ◌^◌, ◌++◌, max, min, length, List}
use Rattle.la_base.specs.Samples.{samples}
use Rattle.la_base.specs.declared.samples.Run.{Run}
use Rattle.wait_cond.specs.Stops.{IsStop, NoneMet}
use Rattle.wait_cond.specs.Waiting.{WaitsAt}
use Rattle.wait_cond.specs.declared.alt.Alt.{Alt}
use Rattle.wait_cond.specs.declared.walk.Walk.{Walk}

-- how many samples were consumed
abbrev pub walked : Walk → ℕ
walked walk = 2 ^ 60 - walk.room

-- a walk stands for a list of samples, where these alternatives are waited for
abbrev pub Walks : List Alt → Walk → List ℕ → Type 0
Walks alts walk list = WaitsAt alts (2 ^ 60 - walk.room) walk.from walk.last list

-- the sample that its wait began with
abbrev pub walk_from : Walk → ℕ
walk_from walk = walk.from

-- the last sample that was consumed
abbrev pub walk_last : Walk → ℕ
walk_last walk = walk.last

-- so many samples come before the first one at which a wait has skipped `skip`, of those that there
-- is room for
abbrev pub IsTimeLeft : Walk → ℕ → ℕ → Type 0
IsTimeLeft walk skip left =
    left ≡ min (max 1 (walk.from + skip - (2 ^ 60 - walk.room)) - 1) walk.room

-- where samples of this value follow what a walk stands for, there is no stop among the first
-- `left`, and the one behind them is one, which meets the first alternative alone; of those that
-- there is room for
pub record StopsBehind (alts : List Alt) (walk : Walk) (value left : ℕ) : Type 0 where
  pub fits : left ≤ walk.room
  pub none : (list : List ℕ) (run : Run) → Walks alts walk list → run.value ≡ value
      → run.len ≤ left → NoneMet (list ++ samples run) alts walk.from (length list + run.len)
  pub stop : (list : List ℕ) (run : Run) → Walks alts walk list → run.value ≡ value
      → run.len ≡ left + 1 → left < walk.room
      → IsStop (list ++ samples run) alts walk.from (length list + left) 1
