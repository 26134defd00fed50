-- How far the marks were gathered and taken.
use Rattle.std.specs.Prelude.{ℕ, ◌≡◌, ◌≤◌, not, Bool, true, false, List, [], ◌++◌, length, Some}
use Rattle.std.specs.Prelude.{slice_get, Result, map, vec_len}
use Rattle.std.specs.declared.vec.Vec.{Vec}
use Rattle.std.specs.declared.alloc.Global.{Global}
use Rattle.la_base.specs.declared.wires.Mark.{Mark}
use Rattle.la_base.specs.declared.wires.Mark.TheVariants.{End as EndMark}
use Rattle.la_io.specs.Causes.{Rose}
use Rattle.tree_io.specs.declared.feeds.MarkTake.{Ghosts as TakeGhosts}
use Rattle.tree_runs.specs.Passing.{Took}
use Rattle.tree_runs.specs.Reaching.{Reaches}
use Rattle.tree_runs.specs.Taking.{GoesOn}
use Rattle.stage_ring.specs.Link.{received, rx_link}
use Rattle.stage_ring.specs.declared.ends.Rx.{Rx}
use Rattle.stage_crew.specs.Driving.{EndsWith}
use Rattle.tree_io.specs.Feeds.{real}
use Rattle.stage_crew.specs.declared.gatherer.Gatherer.{Gatherer}

-- what was taken of each instance is what was gathered of it, or a front of that where it was
-- stopped
abbrev pub Fronts : Bool → (ℕ → List Mark) → List (List Mark) → Type 0
Fronts done taken gathered =
    (i : ℕ) (marks : List Mark) → slice_get gathered i ≡ Some marks
    → Reaches done (taken i) (real marks)

-- a flag tells that the end was gathered of its instance
abbrev pub Overs : List Bool → List (List Mark) → Type 0
Overs flags gathered =
    (i : ℕ) (marks : List Mark) → slice_get gathered i ≡ Some marks
    → slice_get flags i ≡ Some true → EndsWith EndMark marks

-- these are the marks of so many instances, of 24 at the most
abbrev pub AreMarksOf : ℕ → Vec (Rx Mark) Global → Type 0
AreMarksOf instances marks = (vec_len marks ≡ instances) × (vec_len marks ≤ 24)

module _ {A O : Type 0} (g : TakeGhosts A O) where
  -- a mark was handed to what takes them
  abbrev pub TakesOne : {R E : Type 0} → A → A → Result R E → Type 0
  TakesOne old new result = GoesOn g.instances g.origin g.stops g.going old new result

  -- marks were taken, and it was told of pauses, until it stopped, and nothing after that; each flag
  -- tells whether it has
  pub record TakesUntil (stopped_old stopped_new : Bool) (old new : A) : Type 0 where
    pub instances : g.instances new ≡ g.instances old
    pub origin : g.origin new ≡ g.origin old
    pub stays : stopped_old ≡ true → stopped_new ≡ true
    pub quiet : stopped_new ≡ false → g.stops new ≡ g.stops old
    pub still : stopped_old ≡ true → g.stops new ≡ g.stops old
    pub rose : stopped_old ≡ false → stopped_new ≡ true → Rose (g.stops old) (g.stops new)
    pub going : g.going old (not stopped_old) → g.going new (not stopped_new)

  -- more marks were gathered and taken
  pub record Gathers (old new : A) (state_old state_new : Gatherer)
      (gathered_old gathered_new : List (List Mark)) : Type 0 where
    pub change : ℕ → List Mark
    pub took : Took (g.took old) (g.took new) change
    pub fronts : (taken : ℕ → List Mark) → Fronts (not state_old.stopped) taken gathered_old
        → Fronts (not state_new.stopped) (λ i. taken i ++ change i) gathered_new
    pub overs : Overs state_old.over gathered_old → Overs state_new.over gathered_new
    pub count : length gathered_new ≡ length gathered_old
    pub others : (i : ℕ) → length gathered_old ≤ i → change i ≡ []
    pub takes : TakesUntil state_old.stopped state_new.stopped old new

  -- they were gathered from these links
  pub record GathersFrom (old new : A) (state_old state_new : Gatherer)
      (marks_old marks_new : Vec (Rx Mark) Global) : Type 0 where
    pub gathers : Gathers old new state_old state_new (map received marks_old.items)
        (map received marks_new.items)
    pub links : map rx_link marks_new.items ≡ map rx_link marks_old.items
    pub count : vec_len marks_new ≡ vec_len marks_old
