use Rattle.std.proofs.Common.{◌≡◌, length, ◌++◌, [], List, true, map}
use Rattle.la_base.specs.Samples.{samples}
use Rattle.decoder_core.specs.Inputs.{Item, Sample, left_feed, left_items}
use Rattle.tree_runs.specs.Passing.{Consumes}
use Rattle.tree_runs.specs.Machines.{left_work}
use Rattle.stack_direct.specs.Trees.{GoesStill, SameTree, TakesAll, defined_in, parents_of, stand_in}
use Rattle.stack_direct.proofs.tree.Tree.pass_rest.Given as goal

abbrev pub invariant-loop-rest : goal.invariant-loop-rest
invariant-loop-rest g l =
    let m = g.M.Machine in
    let k = g.G.MarkTake in
    record {
      all : TakesAll k l.self l.take;
      count : length (parents_of l.self) ≡ length (parents_of l.fn.self);
      same : SameTree m l.fn.self l.self;
      feeds : (front : List Item) × (map Sample (samples l.fn.run) ≡ front ++ left_items (left_feed l.rest)) × Consumes true (defined_in m l.fn.self) (stand_in m l.fn.self) (stand_in m l.self) (parents_of l.fn.self) (k.took l.fn.take) (k.took l.take) l.instance front;
      empty : l.outs ≡ [];
      takes : GoesStill k l.fn.take l.take;
    }

abbrev pub decreases-loop-rest : goal.decreases-loop-rest
decreases-loop-rest g l = left_work (left_feed l.rest)
