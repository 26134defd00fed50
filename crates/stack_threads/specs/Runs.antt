-- What a run of a tree gives, in whatever order its decoders ran.
use Rattle.std.specs.Prelude.{ℕ, ◌≡◌, ◌<◌, Bool, List, ◌++◌, length, map, Option}
use Rattle.la_base.specs.declared.samples.Run.{Run}
use Rattle.la_base.specs.declared.wires.Mark.{Mark}
use Rattle.la_base.specs.declared.wires.Out.{Out}
use Rattle.tree_io.specs.Feeds.{together}
use Rattle.tree_io.specs.declared.feeds.MarkTake.{Ghosts as TakeGhosts}
use Rattle.tree_io.specs.declared.feeds.RunFeed.{Ghosts as FeedGhosts}
use Rattle.decoder_core.specs.Inputs.{Item}
use Rattle.decoder_core.specs.declared.end.RunEnd.{RunEnd}
use Rattle.decoder_core.specs.declared.machine.Machine.{Ghosts as MachineGhosts}
use Rattle.tree_runs.specs.Machines.{Stand, near_of, whole_of}
use Rattle.tree_runs.specs.Passing.{Took}
use Rattle.tree_runs.specs.Runs.{StandOn, ToldOn, feeds_on, input_on, samples_in}
use Rattle.tree_runs.specs.Trees.{ReadsFeed, TakesRun}

module _ {S : Type 0} (outputs : S → List Item → List Out) (near : S → List Item → ℕ → ℕ)
    (setups : List S) (parents : List (Option ℕ)) where
  abbrev input : List ℕ → ℕ → List Item
  input samples j = input_on outputs setups parents samples j

  -- a run of the tree: the lists of runs that the feed gave, the marks that were taken, and what
  -- they are, behind any samples that the instances stood for
  pub record RunsBy (before : ℕ → List Item → Type 0) (gave_old gave_new : List (List Run) → Type 0)
      (took_old took_new : (ℕ → List Mark) → Type 0) (at_end : Bool) (result : RunEnd)
      : Type 0 where
    pub lists : List (List Run)
    pub marks : ℕ → List Mark
    pub gave : (earlier : List (List Run)) → gave_old earlier → gave_new (earlier ++ lists)
    pub took : Took took_old took_new marks
    pub told : (samples : List ℕ) → StandOn outputs setups parents before samples → (j : ℕ)
        → j < length parents
        → (feeds : List (List Item))
        × (input (samples ++ samples_in lists) j ≡ input samples j ++ together feeds)
        × ToldOn result at_end (whole_of outputs setups j) (near_of near setups j)
        (input samples j) (input (samples ++ samples_in lists) j)
        (λ more. input ((samples ++ samples_in lists) ++ more) j) feeds (marks j)

module _ {M S F O G Q : Type 0} (m : MachineGhosts M S) (f : FeedGhosts F O) (g : TakeGhosts G Q)
    (parents : List (Option ℕ)) (machines : List M) (feed_old feed_new : F) (take_old take_new : G)
    (end : RunEnd) where
  -- what a run of machines gives
  abbrev pub TreeRunsBy : Type 0
  TreeRunsBy =
      RunsBy m.outputs m.near (map m.setup machines) parents (Stand m.consumed machines)
      (f.gave feed_old) (f.gave feed_new) (g.took take_old) (g.took take_new)
      (f.at_end feed_new) end

  -- the whole of such a run
  pub record RunsTree : Type 0 where
    pub tree : TreeRunsBy
    pub reads : ReadsFeed f end feed_old feed_new
    pub takes : TakesRun g end take_old take_new

-- behind samples, what comes to an instance with more lists of runs are its feeds
abbrev pub InputsGrow : {S : Type 0} → (S → List Item → List Out) → List S → List (Option ℕ)
    → Type 0
InputsGrow outputs setups parents =
    (samples : List ℕ) (lists : List (List Run)) (j : ℕ) → j < length parents
    → input_on outputs setups parents (samples ++ samples_in lists) j
    ≡ input_on outputs setups parents samples j
    ++ together (feeds_on outputs setups parents samples lists j)
