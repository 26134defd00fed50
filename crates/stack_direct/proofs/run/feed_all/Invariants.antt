use Rattle.std.proofs.Common.{◌≡◌, ◌-◌, ◌^◌, [], length, map, true}
use Rattle.tree_runs.specs.Runs.{FedRuns}
use Rattle.stack_direct.specs.Trees.{GoesStill, SameTree, TakesAll, machines_of, parents_of, stand_in}
use Rattle.stack_direct.proofs.run.feed_all.Given as goal

abbrev pub invariant-loop-tree : goal.invariant-loop-tree
invariant-loop-tree g l =
    let m = g.M.Machine in
    let f = g.F.RunFeed in
    let t = g.G.MarkTake in
    record {
      all : TakesAll t l.tree l.take;
      same : SameTree m l.fn.tree l.tree;
      feeds : FedRuns m.outputs m.near (map m.setup (machines_of l.fn.tree)) (parents_of l.fn.tree) true (stand_in m l.fn.tree) (stand_in m l.tree) (f.gave l.fn.feed) (f.gave l.feed) (t.took l.fn.take) (t.took l.take);
      empty : l.outs ≡ [];
      room : length l.floors ≡ 24;
      feed_origin : f.origin l.feed ≡ f.origin l.fn.feed;
      takes : GoesStill t l.fn.take l.take;
    }

abbrev pub decreases-loop-tree : goal.decreases-loop-tree
decreases-loop-tree g l = 2 ^ 60 - g.F.RunFeed.given l.feed
