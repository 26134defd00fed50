use Rattle.std.proofs.Common.{◌≡◌, ◌≤◌, ◌-◌, [], true, length, map, take}
use Rattle.la_base.specs.Runs.{samples_of}
use Rattle.decoder_core.specs.Inputs.{Sample}
use Rattle.tree_runs.specs.Passing.{Consumes}
use Rattle.stack_direct.specs.Trees.{GoesStill, SameTree, TakesAll, defined_in, parents_of, stand_in}
use Rattle.stack_direct.proofs.tree.Tree.pass_all.Given as goal

abbrev pub invariant-loop-at : goal.invariant-loop-at
invariant-loop-at g l =
    let m = g.M.Machine in
    let k = g.G.MarkTake in
    record {
      within : l.at ≤ length l.runs;
      all : TakesAll k l.self l.take;
      count : length (parents_of l.self) ≡ length (parents_of l.fn.self);
      same : SameTree m l.fn.self l.self;
      feeds : Consumes true (defined_in m l.fn.self) (stand_in m l.fn.self) (stand_in m l.self) (parents_of l.fn.self) (k.took l.fn.take) (k.took l.take) l.instance (map Sample (samples_of (take l.at l.runs)));
      empty : l.outs ≡ [];
      takes : GoesStill k l.fn.take l.take;
    }

abbrev pub decreases-loop-at : goal.decreases-loop-at
decreases-loop-at g l = length l.runs - l.at
