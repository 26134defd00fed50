use Rattle.std.proofs.Common.{◌≤◌, ◌≡◌, ◌++◌, ◌∷◌, ◌+◌, ◌<◌, [], List, true, false, refl, sym, ◌∙◌, ap, subst, take, drop, map, length, arith, take-append-drop}
use Rattle.std.specs.Result.{is_ok}
use Rattle.std.proofs.lemmas.List.{take_all}
use Rattle.la_base.specs.declared.wires.Out.{Out}
use Rattle.la_base.specs.declared.wires.Out.TheVariants.{Packet as PacketOut}
use Rattle.decoder_core.specs.Inputs.{Pack}
use Rattle.decoder_core.specs.Promises.{IsFloor}
use Rattle.tree_runs.specs.Passing.{Gives}
use Rattle.tree_runs.specs.Reaching.{Reaches}
use Rattle.tree_runs.specs.Machines.{Stand, whole_of, defined, near_of}
use Rattle.stack_direct.specs.Trees.{defined_in, handed_of, parents_of, stand_in}
use Rattle.tree_runs.proofs.Joining.{gives_nothing, gives_then, gives_as, gives_marks, gives_reach, gives_packet, consumes_reach, step_moves, stepped, hands_none, hands_front, hands_all, floored, cut_off}
use Rattle.tree_runs.proofs.Lists.{reaches_weaker}
use Rattle.stack_direct.proofs.Feeding.{whole_packet}
use Rattle.stack_direct.proofs.Going.{goes_then}
use Rattle.stack_direct.proofs.Handing.{handed_front, handed_next, marks_both, packets_both, packets_told, told_front, told_of}
use Rattle.stack_direct.proofs.Trees.{behind_above, gives_of, gives_stepped, hands_more, hands_past, same_count, same_still, same_then, still, still_then, takes_all}
use Rattle.tree_runs.proofs.Ending.{keeps_at}
use Rattle.stack_direct.proofs.tree.Tree.+tree.Goals as goal

pub hand_one-returns-in-Note-clause-gives : goal.hand_one-returns-in-Note-clause-gives
hand_one-returns-in-Note-clause-gives g t c =
    let m = g.M.Machine in
    let by = defined_in m c.args.self.now in
    let now = stand_in m c.args.self.now in
    let places = parents_of c.args.self.now in
    let took = g.G.MarkTake.took c.args.take.now in
    subst (λ (o : Out). Gives true by now now places took took c.args.instance (handed_of (o ∷ []))) (sym c.in-Note.is) (gives_nothing by now places took c.args.instance)

pub hand_one-returns-in-Note-clause-takes : goal.hand_one-returns-in-Note-clause-takes
hand_one-returns-in-Note-clause-takes g t c = still g.G.MarkTake c.args.take.now

pub hand_one-returns-in-Piece-clause-gives : goal.hand_one-returns-in-Piece-clause-gives
hand_one-returns-in-Piece-clause-gives g t c =
    let m = g.M.Machine in
    let by = defined_in m c.args.self.now in
    let now = stand_in m c.args.self.now in
    let places = parents_of c.args.self.now in
    let took = g.G.MarkTake.took c.args.take.now in
    subst (λ (o : Out). Gives true by now now places took took c.args.instance (handed_of (o ∷ []))) (sym c.in-Piece.is) (gives_nothing by now places took c.args.instance)

pub hand_one-returns-in-Piece-clause-takes : goal.hand_one-returns-in-Piece-clause-takes
hand_one-returns-in-Piece-clause-takes g t c = still g.G.MarkTake c.args.take.now

pub hand_one-returns-in-Packet-clause-gives : goal.hand_one-returns-in-Packet-clause-gives
hand_one-returns-in-Packet-clause-gives g t c =
    let m = g.M.Machine in
    let k = g.G.MarkTake in
    let tree = c.args.self.now in
    let packet = c.in-Packet.packet in
    subst (λ (o : Out). Gives (is_ok c.hand.result) (defined_in m tree) (stand_in m tree) (stand_in m c.hand.new.self) (parents_of tree) (k.took c.args.take.now) (k.took c.hand.new.take) c.args.instance (handed_of (o ∷ []))) (sym c.in-Packet.is)
    (gives_packet c.args.instance (PacketOut packet) (λ j. refl) (λ j. refl) refl c.hand.ensures.hands)

pub hand_each-loop-out-init : goal.hand_each-loop-out-init
hand_each-loop-out-init g t c =
    let m = g.M.Machine in
    let k = g.G.MarkTake in
    let tree = c.args.self.now in
    record {
      all = c.requires.all;
      count = refl;
      same = same_still m tree;
      gives = gives_nothing (defined_in m tree) (stand_in m tree) (parents_of tree) (k.took c.args.take.now) c.args.instance;
      takes = still k c.args.take.now;
    }

pub hand_each-loop-out-preserved : goal.hand_each-loop-out-preserved
hand_each-loop-out-preserved g t c =
    let m = g.M.Machine in
    let k = g.G.MarkTake in
    let i = c.loop-out.invariant in
    let e = c.in-Ok.ensures in
    let n = c.loop-out.out-index in
    record {
      all = takes_all k m i.all e.same e.takes;
      count = same_count m e.same ∙ i.count;
      same = same_then m i.same e.same;
      gives = gives_reach (handed_of (take (n + 1) c.args.outs.now)) (handed_next c.args.outs.now n c.out-item.result c.loop-out-test.true c.out-item.is) (gives_then i.gives (gives_of m i.same e.gives));
      takes = still_then k i.takes e.takes;
    }

pub hand_each-returns-in-Err-clause-same : goal.hand_each-returns-in-Err-clause-same
hand_each-returns-in-Err-clause-same g t c = same_then g.M.Machine c.loop-out.invariant.same c.in-Err.ensures.same

pub hand_each-returns-in-Err-clause-gives : goal.hand_each-returns-in-Err-clause-gives
hand_each-returns-in-Err-clause-gives g t c =
    let m = g.M.Machine in
    let i = c.loop-out.invariant in
    let n = c.loop-out.out-index in
    gives_reach (handed_of c.args.outs.now) (handed_front c.args.outs.now n c.out-item.result c.loop-out-test.true c.out-item.is) (gives_then i.gives (gives_of m i.same c.in-Err.ensures.gives))

pub hand_each-returns-in-Err-clause-takes : goal.hand_each-returns-in-Err-clause-takes
hand_each-returns-in-Err-clause-takes g t c = still_then g.G.MarkTake c.loop-out.invariant.takes c.in-Err.ensures.takes

pub hand_each-returns-clause-gives : goal.hand_each-returns-clause-gives
hand_each-returns-clause-gives g t c =
    let m = g.M.Machine in
    let k = g.G.MarkTake in
    let tree = c.args.self.now in
    let l = c.loop-out in
    subst (λ (outs : List Out). Gives true (defined_in m tree) (stand_in m tree) (stand_in m l.self) (parents_of tree) (k.took c.args.take.now) (k.took l.take) c.args.instance (handed_of outs)) (take_all l.out-index c.args.outs.now c.loop-out-test.false) l.invariant.gives

pub give-returns-else-not-has_child-clause-gives : goal.give-returns-else-not-has_child-clause-gives
give-returns-else-not-has_child-clause-gives g t c =
    let m = g.M.Machine in
    let k = g.G.MarkTake in
    let tree = c.args.self.now in
    let outs = c.args.outs.now in
    gives_as outs (packets_both outs) (marks_both outs)
    (gives_then (gives_marks (defined_in m tree) (stand_in m tree) (parents_of tree) (k.took c.args.take.now) c.args.instance (told_of outs) (told_front outs c.in-Ok.ensures.took) (λ j at. packets_told outs)) c.hand_each.ensures.gives)

pub give-returns-else-not-has_child-clause-takes : goal.give-returns-else-not-has_child-clause-takes
give-returns-else-not-has_child-clause-takes g t c = goes_then g.G.MarkTake.instances g.G.MarkTake.origin g.G.MarkTake.stops g.G.MarkTake.going c.in-Ok.ensures.takes c.hand_each.ensures.takes

pub give-returns-then-not-has_child-clause-gives : goal.give-returns-then-not-has_child-clause-gives
give-returns-then-not-has_child-clause-gives g t c =
    let m = g.M.Machine in
    let k = g.G.MarkTake in
    let tree = c.args.self.now in
    let outs = c.args.outs.now in
    gives_marks (defined_in m tree) (stand_in m tree) (parents_of tree) (k.took c.args.take.now) c.args.instance outs c.in-Ok.ensures.took (λ j at. absurd (c.if-not-has_child.ensures j at))

pub give-returns-in-Err-clause-gives : goal.give-returns-in-Err-clause-gives
give-returns-in-Err-clause-gives g t c =
    let m = g.M.Machine in
    let k = g.G.MarkTake in
    let tree = c.args.self.now in
    let outs = c.args.outs.now in
    gives_as outs (packets_both outs) (marks_both outs)
    (gives_reach (told_of outs ++ handed_of outs) (handed_of outs, refl) (gives_marks (defined_in m tree) (stand_in m tree) (parents_of tree) (k.took c.args.take.now) c.args.instance (told_of outs) (told_front outs c.in-Err.ensures.took) (λ j at. packets_told outs)))

pub pass_in-returns-in-Err-clause-feeds : goal.pass_in-returns-in-Err-clause-feeds
pass_in-returns-in-Err-clause-feeds g t c =
    let m = g.M.Machine in
    let k = g.G.MarkTake in
    let tree = c.args.self.now in
    let s = c.step_packet_at.ensures.step in
    let gave = gives_stepped m (same_still m tree) c.step_packet_at.new.machines c.step_packet_at.ensures.setups (subst (λ (l : List Out). Gives false (defined m.outputs m.near (map m.setup c.step_packet_at.new.machines)) (Stand m.consumed c.step_packet_at.new.machines) (stand_in m c.give.new.self) (parents_of tree) (k.took c.args.take.now) (k.took c.give.new.take) c.args.instance l) c.list.ensures.list c.in-Err.ensures.gives) in
    let keeps = keeps_at m.setup m.outputs g.met.M.Machine.prefix tree.machines.now c.args.instance (omega (arith, c.requires.within, tree.each)) in
    cut_off keeps (consumes_reach (Pack c.args.packet.now ∷ []) (reaches_weaker false s.here.front (Pack c.args.packet.now ∷ []) (whole_packet c.args.packet.now s.here)) (stepped tree.forest (step_moves s) gave))

pub pass_in-returns-clause-feeds : goal.pass_in-returns-clause-feeds
pass_in-returns-clause-feeds g t c =
    let m = g.M.Machine in
    let k = g.G.MarkTake in
    let tree = c.args.self.now in
    let s = c.step_packet_at.ensures.step in
    let now = stand_in m c.give.new.self in
    let setups = c.in-Ok.ensures.same.setups ∙ c.step_packet_at.ensures.setups in
    let floor = c.floor_of-floor.result in
    let gave = gives_stepped m (same_still m tree) c.step_packet_at.new.machines c.step_packet_at.ensures.setups (subst (λ (l : List Out). Gives true (defined m.outputs m.near (map m.setup c.step_packet_at.new.machines)) (Stand m.consumed c.step_packet_at.new.machines) now (parents_of tree) (k.took c.args.take.now) (k.took c.give.new.take) c.args.instance l) c.list.ensures.list c.in-Ok.ensures.gives) in
    let consumed = consumes_reach (Pack c.args.packet.now ∷ []) (whole_packet c.args.packet.now s.here) (stepped tree.forest (step_moves s) gave) in
    floored (is_ok c.mark.result) (k.took c.mark.new.take) floor consumed c.mark.ensures.took
    (λ input b. subst (λ (l : List g.row.M-Setup.Denot). IsFloor (whole_of m.outputs l c.args.instance) input floor) setups (c.floor_of-floor.ensures.floor input b))
    (λ input b. subst (λ (l : List g.row.M-Setup.Denot). near_of m.near l c.args.instance input ≤ floor) setups (c.floor_of-floor.ensures.near input b))

pub hand-loop-place-init : goal.hand-loop-place-init
hand-loop-place-init g t c =
    let m = g.M.Machine in
    let k = g.G.MarkTake in
    let tree = c.args.self.now in
    let xs = Pack c.args.packet.now ∷ [] in
    let fs = xs ∷ [] in
    record {
      all = c.requires.all;
      count = refl;
      same = same_still m tree;
      hands = hands_none (defined_in m tree) (stand_in m tree) (parents_of tree) (k.took c.args.take.now) c.args.above xs fs;
      takes = still k c.args.take.now;
    }

pub hand-loop-place-preserved-then-not-same_place :
    goal.hand-loop-place-preserved-then-not-same_place
hand-loop-place-preserved-then-not-same_place g t c =
    let i = c.loop-place.invariant in
    let xs = Pack c.args.packet.now ∷ [] in
    let fs = xs ∷ [] in
    record { all = i.all; count = i.count; same = i.same; hands = hands_past (parents_of c.args.self.now) c.loop-place.place c.args.above _ c.loop-place-test.true xs (xs ∷ []) (sym c.if-not-same_place.ensures) i.hands; takes = i.takes }

pub hand-loop-place-preserved : goal.hand-loop-place-preserved
hand-loop-place-preserved g t c =
    let m = g.M.Machine in
    let k = g.G.MarkTake in
    let i = c.loop-place.invariant in
    let e = c.in-Ok.ensures in
    let xs = Pack c.args.packet.now ∷ [] in
    let fs = xs ∷ [] in
    record {
      all = takes_all k m i.all e.same e.takes;
      count = same_count m e.same ∙ i.count;
      same = same_then m i.same e.same;
      hands = hands_more m i.same c.loop-place.place c.args.above _ c.loop-place-test.true xs (sym c.if-not-same_place.ensures) i.hands e.feeds;
      takes = still_then k i.takes e.takes;
    }

pub hand-returns-in-Err-clause-same : goal.hand-returns-in-Err-clause-same
hand-returns-in-Err-clause-same g t c = same_then g.M.Machine c.loop-place.invariant.same c.in-Err.ensures.same

pub hand-returns-in-Err-clause-hands : goal.hand-returns-in-Err-clause-hands
hand-returns-in-Err-clause-hands g t c =
    let m = g.M.Machine in
    let i = c.loop-place.invariant in
    let e = c.in-Err.ensures in
    let xs = Pack c.args.packet.now ∷ [] in
    let fs = xs ∷ [] in
    hands_front (c.loop-place.place + 1) xs (xs ∷ []) (hands_more m i.same c.loop-place.place c.args.above _ c.loop-place-test.true xs (sym c.if-not-same_place.ensures) i.hands e.feeds)

pub hand-returns-in-Err-clause-takes : goal.hand-returns-in-Err-clause-takes
hand-returns-in-Err-clause-takes g t c = still_then g.G.MarkTake c.loop-place.invariant.takes c.in-Err.ensures.takes

pub hand-returns-clause-hands : goal.hand-returns-clause-hands
hand-returns-clause-hands g t c =
    let xs = Pack c.args.packet.now ∷ [] in
    let fs = xs ∷ [] in
    hands_all c.loop-place.place xs fs (omega arith) c.loop-place.invariant.hands

pub hand-pass-requires : goal.hand-pass-requires
hand-pass-requires g t c κs within =
    let i = c.loop-place.invariant in
    let places = parents_of c.args.self.now in
    let low = behind_above places c.loop-place.place c.args.above _ c.loop-place-test.true c.args.self.now.forest (sym c.if-not-same_place.ensures) in
    (omega (arith, low, i.count, c.loop-place-test.true, c.decreases), (within.0, (within.1.0, (within.1.1.0, (within.1.1.1, (i.all, omega (arith, i.count, c.loop-place-test.true)))))))
