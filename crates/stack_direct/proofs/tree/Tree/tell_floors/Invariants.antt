use Rattle.std.proofs.Common.{◌≡◌, ◌≤◌, length, true}
use Rattle.stack_direct.specs.Trees.{GoesStill, TakesAll, TreeKnows, TreeTellsTo, parents_of}
use Rattle.stack_direct.proofs.tree.Tree.tell_floors.Given as goal

abbrev pub invariant-loop-place : goal.invariant-loop-place
invariant-loop-place g l =
    let m = g.M.Machine in
    let t = g.G.MarkTake in
    record {
      all : TakesAll t l.fn.self l.take;
      len : length l.floors ≡ length l.fn.floors;
      known : TreeKnows m l.fn.self l.floors l.place;
      tells : TreeTellsTo m l.fn.self true (t.took l.fn.take) (t.took l.take) l.floors l.place;
      takes : GoesStill t l.fn.take l.take;
    }
