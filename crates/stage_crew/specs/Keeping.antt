-- What a driver keeps on its way, and what it did in the end.
use Rattle.std.specs.Prelude.{ℕ, ◌≡◌, ◌≤◌, nat_lt, not, Bool, true, false, if◌then◌else◌}
use Rattle.std.specs.Prelude.{List, [], ◌∷◌, ◌++◌, length, Some, slice_get}
use Rattle.la_base.specs.declared.wires.Mark.{Mark}
use Rattle.la_base.specs.declared.wires.Mark.TheVariants.{End as EndMark}
use Rattle.tree_io.specs.declared.feeds.MarkTake.{Ghosts as TakeGhosts}
use Rattle.decoder_core.specs.declared.end.RunEnd.{RunEnd}
use Rattle.decoder_core.specs.declared.end.RunEnd.TheVariants.{Ended}
use Rattle.tree_runs.specs.Passing.{Took}
use Rattle.tree_runs.specs.Trees.{TakesRun}
use Rattle.stage_crew.specs.Driving.{EndsWith}
use Rattle.stage_crew.specs.Gathering.{Fronts, Overs, TakesUntil}
use Rattle.stage_crew.specs.declared.gatherer.Gatherer.{Gatherer}

module _ {B Q : Type 0} (g : TakeGhosts B Q) where
  -- the marks that were gathered and taken; that no more is wanted is told only once it was stopped
  pub record Kept (take_old take_now : B) (state : Gatherer) (gathered : List (List Mark))
      (told : List Bool) : Type 0 where
    pub taken : ℕ → List Mark
    pub took : Took (g.took take_old) (g.took take_now) taken
    pub fronts : Fronts (not state.stopped) taken gathered
    pub others : (i : ℕ) → length gathered ≤ i → taken i ≡ []
    pub overs : Overs state.over gathered
    pub takes : TakesUntil g false state.stopped take_old take_now
    pub untold : state.stopped ≡ false → told ≡ []

  -- each instance's marks were gathered up to an end, and those that were taken are these, or a front
  -- of them where it was stopped; the ends were taken of the first instances, behind all other marks;
  -- where it wasn't stopped before the ends, the reader wasn't told that no more is wanted
  pub record Collects (take_old take_new : B) (result : RunEnd) (gathered : List (List Mark))
      (told : List Bool) : Type 0 where
    pub came : (i : ℕ) (marks : List Mark) → slice_get gathered i ≡ Some marks
        → EndsWith EndMark marks
    pub done : Bool
    pub taken : ℕ → List Mark
    pub fronts : Fronts done taken gathered
    pub others : (i : ℕ) → length gathered ≤ i → taken i ≡ []
    pub ends : ℕ
    pub took : Took (g.took take_old) (g.took take_new)
        (λ i. taken i ++ (if nat_lt i ends then EndMark ∷ [] else []))
    pub by_done : (i : ℕ) → nat_lt i ends ≡ true → done ≡ true
    pub closes : result ≡ Ended → (done ≡ true)
        × ((i : ℕ) (marks : List Mark) → slice_get gathered i ≡ Some marks → nat_lt i ends ≡ true)
    pub untold : done ≡ true → told ≡ []
    pub takes : TakesRun g result take_old take_new
