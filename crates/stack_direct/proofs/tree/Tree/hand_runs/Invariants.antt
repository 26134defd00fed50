use Rattle.std.proofs.Common.{◌≡◌, length, ◌∷◌, [], None, true}
use Rattle.tree_runs.specs.Passing.{Hands, up_to}
use Rattle.tree_runs.specs.Runs.{run_items}
use Rattle.stack_direct.specs.Trees.{GoesStill, SameTree, TakesAll, defined_in, parents_of, stand_in}
use Rattle.stack_direct.proofs.tree.Tree.hand_runs.Given as goal

abbrev pub invariant-loop-place : goal.invariant-loop-place
invariant-loop-place g l =
    let m = g.M.Machine in
    let k = g.G.MarkTake in
    record {
      all : TakesAll k l.self l.take;
      count : length (parents_of l.self) ≡ length (parents_of l.fn.self);
      same : SameTree m l.fn.self l.self;
      hands : Hands true (defined_in m l.fn.self) (stand_in m l.fn.self) (stand_in m l.self) (parents_of l.fn.self) (k.took l.fn.take) (k.took l.take) None (up_to l.place (run_items l.runs)) (up_to l.place (run_items l.runs ∷ []));
      empty : l.outs ≡ [];
      takes : GoesStill k l.fn.take l.take;
    }
