-- What a run of a tree leaves as it was, whether it ran or did nothing.
use Rattle.std.proofs.Common.{◌≡◌, ℕ, List, Option, Result, Ok, Err, ap}
use Rattle.std.specs.Prelude.{IfOk, OnErr}
use Rattle.la_base.specs.declared.names.NoMemory.{NoMemory}
use Rattle.tree_io.specs.declared.feeds.MarkTake.{Ghosts as TakeGhosts}
use Rattle.tree_io.specs.declared.feeds.RunFeed.{Ghosts as FeedGhosts}
use Rattle.decoder_core.specs.declared.end.RunEnd.{RunEnd}
use Rattle.decoder_core.specs.declared.machine.Machine.{Ghosts as MachineGhosts}
use Rattle.stack_threads.specs.Runs.{RunsTree}

module _ {M S F O G Q : Type 0} (m : MachineGhosts M S) (f : FeedGhosts F O) (g : TakeGhosts G Q) (parents : List (Option ℕ)) (machines : List M) (feed_old feed_new : F) (take_old take_new : G) where
  pub same_origins : (ran : Result RunEnd NoMemory) → IfOk ran (λ end. RunsTree m f g parents machines feed_old feed_new take_old take_new end) → OnErr ran ((feed_new ≡ feed_old) × (take_new ≡ take_old))
      → (f.origin feed_new ≡ f.origin feed_old) × (g.origin take_new ≡ g.origin take_old) × (g.instances take_new ≡ g.instances take_old)
  same_origins (Ok end) runs none = (runs.reads.origin, runs.takes.origin, runs.takes.instances)
  same_origins (Err why) runs none = (ap f.origin none.0, ap g.origin none.1, ap g.instances none.1)
