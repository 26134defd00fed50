use Rattle.std.proofs.Common.{◌∷◌, [], ◌+◌, None, refl, sym, ◌∙◌, arith}
use Rattle.tree_runs.specs.Runs.{run_items}
use Rattle.stack_direct.specs.Trees.{defined_in, parents_of, stand_in}
use Rattle.tree_runs.proofs.Joining.{hands_none, hands_front, hands_all}
use Rattle.stack_direct.proofs.Trees.{hands_more, hands_past, same_count, same_still, same_then, still, still_then, takes_all}
use Rattle.stack_direct.proofs.tree.Tree.hand_runs.Goals as goal

pub loop-place-init : goal.loop-place-init
loop-place-init g c =
    let m = g.M.Machine in
    let k = g.G.MarkTake in
    let tree = c.args.self.now in
    let xs = run_items c.args.runs.now in
    record {
      all = c.requires.all;
      count = refl;
      same = same_still m tree;
      hands = hands_none (defined_in m tree) (stand_in m tree) (parents_of tree) (k.took c.args.take.now) None xs (xs ∷ []);
      empty = c.requires.empty;
      takes = still k c.args.take.now;
    }

pub loop-place-preserved-then-not-same_place : goal.loop-place-preserved-then-not-same_place
loop-place-preserved-then-not-same_place g c =
    let i = c.loop-place.invariant in
    let xs = run_items c.args.runs.now in
    record {
      all = i.all;
      count = i.count;
      same = i.same;
      hands = hands_past (parents_of c.args.self.now) c.loop-place.place None _ c.loop-place-test.true xs (xs ∷ []) (sym c.if-not-same_place.ensures) i.hands;
      empty = i.empty;
      takes = i.takes;
    }

pub loop-place-preserved : goal.loop-place-preserved
loop-place-preserved g c =
    let m = g.M.Machine in
    let k = g.G.MarkTake in
    let i = c.loop-place.invariant in
    let e = c.in-Ok.ensures in
    record {
      all = takes_all k m i.all e.same e.takes;
      count = same_count m e.same ∙ i.count;
      same = same_then m i.same e.same;
      hands = hands_more m i.same c.loop-place.place None _ c.loop-place-test.true (run_items c.args.runs.now) (sym c.if-not-same_place.ensures) i.hands e.feeds;
      empty = e.empty;
      takes = still_then k i.takes e.takes;
    }

pub returns-in-Err-clause-same : goal.returns-in-Err-clause-same
returns-in-Err-clause-same g c = same_then g.M.Machine c.loop-place.invariant.same c.in-Err.ensures.same

pub returns-in-Err-clause-hands : goal.returns-in-Err-clause-hands
returns-in-Err-clause-hands g c =
    let m = g.M.Machine in
    let i = c.loop-place.invariant in
    let e = c.in-Err.ensures in
    let xs = run_items c.args.runs.now in
    hands_front (c.loop-place.place + 1) xs (xs ∷ []) (hands_more m i.same c.loop-place.place None _ c.loop-place-test.true xs (sym c.if-not-same_place.ensures) i.hands e.feeds)

pub returns-in-Err-clause-takes : goal.returns-in-Err-clause-takes
returns-in-Err-clause-takes g c = still_then g.G.MarkTake c.loop-place.invariant.takes c.in-Err.ensures.takes

pub returns-clause-hands : goal.returns-clause-hands
returns-clause-hands g c =
    let xs = run_items c.args.runs.now in
    hands_all c.loop-place.place xs (xs ∷ []) (omega arith) c.loop-place.invariant.hands
