-- What a run of a tree of decoders does: what it gives, and what becomes of its feed and of what takes
-- its marks.
use Rattle.std.specs.Prelude.{ℕ, ◌≡◌, true, List, map, Option}
use Rattle.la_io.specs.Causes.{Rose}
use Rattle.tree_io.specs.declared.feeds.MarkTake.{Ghosts as TakeGhosts}
use Rattle.tree_io.specs.declared.feeds.RunFeed.{Ghosts as FeedGhosts}
use Rattle.decoder_core.specs.declared.end.RunEnd.{RunEnd}
use Rattle.decoder_core.specs.declared.end.RunEnd.TheVariants.{Ended, Stopped}
use Rattle.decoder_core.specs.declared.machine.Machine.{Ghosts as MachineGhosts}
use Rattle.tree_runs.specs.Machines.{Stand}
use Rattle.tree_runs.specs.Runs.{RunsOn, is_ended}

-- a feed was read: a run that ended has come to its end; and what it was made over stays
pub record ReadsFeed {A O : Type 0} (f : FeedGhosts A O) (end : RunEnd) (old new : A) : Type 0 where
  pub at_end : end ≡ Ended → f.at_end new ≡ true
  pub origin : f.origin new ≡ f.origin old

-- the marks of a run were taken: it has stopped more often exactly where the run was stopped, and then
-- in the last call; of how many instances it takes marks, and what it was made over, stays
pub record TakesRun {A O : Type 0} (g : TakeGhosts A O) (end : RunEnd) (old new : A) : Type 0 where
  pub instances : g.instances new ≡ g.instances old
  pub origin : g.origin new ≡ g.origin old
  pub ended : end ≡ Ended → g.stops new ≡ g.stops old
  pub stopped : end ≡ Stopped → Rose (g.stops old) (g.stops new)
  pub going : g.going old true → g.going new (is_ended end)

module _ {M S F O G Q : Type 0} (m : MachineGhosts M S) (f : FeedGhosts F O) (g : TakeGhosts G Q)
    (parents : List (Option ℕ)) (machines_old machines_new : List M) (feed_old feed_new : F)
    (take_old take_new : G) (end : RunEnd) where
  -- what a run of machines gives, of which each feed is told
  abbrev pub TreeRunsOn : Type 0
  TreeRunsOn =
      RunsOn m.outputs m.near (map m.setup machines_old) parents (Stand m.consumed machines_old)
      (Stand m.consumed machines_new) (f.gave feed_old) (f.gave feed_new) (g.took take_old)
      (g.took take_new) (f.at_end feed_new) end

  -- the whole of such a run
  pub record RunsExactly : Type 0 where
    pub tree : TreeRunsOn
    pub reads : ReadsFeed f end feed_old feed_new
    pub takes : TakesRun g end take_old take_new
