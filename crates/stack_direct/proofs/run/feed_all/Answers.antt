use Rattle.std.proofs.Common.{◌∷◌, [], ◌++◌, ◌∙◌, ℕ, Bool, List, None, true, false, map, refl, sym, subst, arith}
use Rattle.std.proofs.lemmas.List.{length-map}
use Rattle.la_base.specs.declared.samples.Run.{Run}
use Rattle.tree_io.specs.Feeds.{given_now}
use Rattle.tree_runs.specs.Passing.{Hands}
use Rattle.tree_runs.specs.Runs.{run_items}
use Rattle.stack_direct.specs.Trees.{TreeKnows, defined_in, machines_of, parents_of, stand_in}
use Rattle.tree_runs.proofs.Ending.{keeps_at}
use Rattle.tree_runs.proofs.Fed.{fed_cut, fed_held, fed_none, fed_nothing, fed_paused, fed_runs}
use Rattle.stack_direct.proofs.Going.{goes_then}
use Rattle.stack_direct.proofs.Trees.{hands_of, knows_of, same_count, same_still, same_then, still, stopped_as, takes_all, tells_of}
use Rattle.stack_direct.proofs.run.feed_all.Goals as goal

pub loop-tree-init : goal.loop-tree-init
loop-tree-init g c =
    let m = g.M.Machine in
    let k = g.G.MarkTake in
    let old = c.args.tree.now in
    let ms = machines_of old in
    record {
      all = c.requires.all;
      same = same_still m old;
      feeds = fed_nothing m.outputs m.near (map m.setup ms) (parents_of old) old.forest (length-map ms m.setup ∙ old.each) (λ j within. keeps_at m.setup m.outputs g.met.M.Machine.prefix ms j (omega (arith, within, old.each))) (stand_in m old) (g.F.RunFeed.gave c.args.feed.now) (k.took c.args.take.now);
      empty = c.new-outs.ensures;
      room = refl;
      feed_origin = refl;
      takes = still k c.args.take.now;
    }

pub loop-tree-preserved : goal.loop-tree-preserved
loop-tree-preserved g c =
    let m = g.M.Machine in
    let k = g.G.MarkTake in
    let old = c.args.tree.now in
    let ms = machines_of old in
    let i = c.loop-tree.invariant in
    let e = c.in-Ok.ensures in
    let n = c.in-Ok-true.ensures in
    let t = c.in-Ok-tell_floors.ensures in
    let tree = c.loop-tree.tree in
    let held = g.F.RunFeed.held c.next_list.new.feed in
    let handed = hands_of m i.same
    (subst (λ (l : List Run). Hands true (defined_in m tree) (stand_in m tree) (stand_in m c.hand_runs.new.self) (parents_of tree) (k.took c.next_list.new.take) (k.took c.hand_runs.new.take) None (λ _. run_items l) (λ _. run_items l ∷ [])) c.runs.ensures e.hands) in
    let same = same_then m i.same e.same in
    record {
      all = t.takes.instances ∙ takes_all k m (n.takes.instances ∙ i.all) e.same e.takes;
      same = same;
      feeds = fed_runs m.outputs m.near (map m.setup ms) (parents_of old) old.forest (length-map ms m.setup ∙ old.each) (λ j within. keeps_at m.setup m.outputs g.met.M.Machine.prefix ms j (omega (arith, within, old.each))) (g.F.RunFeed.gave c.next_list.new.feed) held (fed_paused m.outputs m.near (map m.setup ms) (parents_of old) old.forest (length-map ms m.setup ∙ old.each) (λ j within. keeps_at m.setup m.outputs g.met.M.Machine.prefix ms j (omega (arith, within, old.each))) (k.took c.next_list.new.take) n.took i.feeds) (subst (λ (b : Bool). (earlier : List (List Run)) → g.F.RunFeed.gave c.loop-tree.feed earlier → g.F.RunFeed.gave c.next_list.new.feed (earlier ++ given_now b held)) c.in-Ok-true.field-0-test n.gives.gave) handed refl true (k.took c.tell_floors.new.take) c.tell_floors.new.floors t.tells.0 (tells_of m same t.tells.2) (λ e. knows_of m same (stand_in m c.hand_runs.new.self) c.tell_floors.new.floors t.tells.0 (subst (λ (n : ℕ). TreeKnows m c.hand_runs.new.self c.tell_floors.new.floors n) (sym (t.tells.1 refl)) t.known)) (λ e. t.tells.1 refl ∙ same_count m same);
      empty = e.empty;
      room = t.len ∙ i.room;
      feed_origin = n.origin ∙ i.feed_origin;
      takes = goes_then k.instances k.origin k.stops k.going (goes_then k.instances k.origin k.stops k.going (goes_then k.instances k.origin k.stops k.going i.takes n.takes) e.takes) t.takes;
    }

pub returns-in-Err-hand_runs-clause-feeds : goal.returns-in-Err-hand_runs-clause-feeds
returns-in-Err-hand_runs-clause-feeds g c =
    let m = g.M.Machine in
    let k = g.G.MarkTake in
    let old = c.args.tree.now in
    let ms = machines_of old in
    let i = c.loop-tree.invariant in
    let e = c.in-Err-hand_runs.ensures in
    let n = c.in-Ok-true.ensures in
    let tree = c.loop-tree.tree in
    let held = g.F.RunFeed.held c.next_list.new.feed in
    let handed = hands_of m i.same
    (subst (λ (l : List Run). Hands false (defined_in m tree) (stand_in m tree) (stand_in m c.hand_runs.new.self) (parents_of tree) (k.took c.next_list.new.take) (k.took c.hand_runs.new.take) None (λ _. run_items l) (λ _. run_items l ∷ [])) c.runs.ensures e.hands) in
    fed_cut m.outputs m.near (map m.setup ms) (parents_of old) old.forest (length-map ms m.setup ∙ old.each) (λ j within. keeps_at m.setup m.outputs g.met.M.Machine.prefix ms j (omega (arith, within, old.each))) (g.F.RunFeed.gave c.next_list.new.feed) held (fed_paused m.outputs m.near (map m.setup ms) (parents_of old) old.forest (length-map ms m.setup ∙ old.each) (λ j within. keeps_at m.setup m.outputs g.met.M.Machine.prefix ms j (omega (arith, within, old.each))) (k.took c.next_list.new.take) n.took i.feeds) (subst (λ (b : Bool). (earlier : List (List Run)) → g.F.RunFeed.gave c.loop-tree.feed earlier → g.F.RunFeed.gave c.next_list.new.feed (earlier ++ given_now b held)) c.in-Ok-true.field-0-test n.gives.gave) handed refl

pub returns-in-Err-tell_floors-clause-same : goal.returns-in-Err-tell_floors-clause-same
returns-in-Err-tell_floors-clause-same g c = same_then g.M.Machine c.loop-tree.invariant.same c.in-Ok.ensures.same

pub returns-in-Err-tell_floors-clause-feeds : goal.returns-in-Err-tell_floors-clause-feeds
returns-in-Err-tell_floors-clause-feeds g c =
    let m = g.M.Machine in
    let k = g.G.MarkTake in
    let old = c.args.tree.now in
    let ms = machines_of old in
    let i = c.loop-tree.invariant in
    let e = c.in-Ok.ensures in
    let n = c.in-Ok-true.ensures in
    let t = c.in-Err-tell_floors.ensures in
    let tree = c.loop-tree.tree in
    let held = g.F.RunFeed.held c.next_list.new.feed in
    let handed = hands_of m i.same
    (subst (λ (l : List Run). Hands true (defined_in m tree) (stand_in m tree) (stand_in m c.hand_runs.new.self) (parents_of tree) (k.took c.next_list.new.take) (k.took c.hand_runs.new.take) None (λ _. run_items l) (λ _. run_items l ∷ [])) c.runs.ensures e.hands) in
    fed_runs m.outputs m.near (map m.setup ms) (parents_of old) old.forest (length-map ms m.setup ∙ old.each) (λ j within. keeps_at m.setup m.outputs g.met.M.Machine.prefix ms j (omega (arith, within, old.each))) (g.F.RunFeed.gave c.next_list.new.feed) held (fed_paused m.outputs m.near (map m.setup ms) (parents_of old) old.forest (length-map ms m.setup ∙ old.each) (λ j within. keeps_at m.setup m.outputs g.met.M.Machine.prefix ms j (omega (arith, within, old.each))) (k.took c.next_list.new.take) n.took i.feeds) (subst (λ (b : Bool). (earlier : List (List Run)) → g.F.RunFeed.gave c.loop-tree.feed earlier → g.F.RunFeed.gave c.next_list.new.feed (earlier ++ given_now b held)) c.in-Ok-true.field-0-test n.gives.gave) handed refl false (k.took c.tell_floors.new.take) c.tell_floors.new.floors t.tells.0 (tells_of m (same_then m i.same e.same) t.tells.2) (λ e. absurd cc) (λ e. absurd cc)

pub returns-in-Err-tell_floors-clause-takes : goal.returns-in-Err-tell_floors-clause-takes
returns-in-Err-tell_floors-clause-takes g c =
    let k = g.G.MarkTake in
    stopped_as k (goes_then k.instances k.origin k.stops k.going (goes_then k.instances k.origin k.stops k.going (goes_then k.instances k.origin k.stops k.going c.loop-tree.invariant.takes c.in-Ok-true.ensures.takes) c.in-Ok.ensures.takes) c.in-Err-tell_floors.ensures.takes)

pub returns-in-Ok-false-clause-feeds : goal.returns-in-Ok-false-clause-feeds
returns-in-Ok-false-clause-feeds g c =
    let m = g.M.Machine in
    let k = g.G.MarkTake in
    let old = c.args.tree.now in
    let ms = machines_of old in
    let n = c.in-Ok-false.ensures in
    let held = g.F.RunFeed.held c.next_list.new.feed in
    fed_none m.outputs m.near (map m.setup ms) (parents_of old) old.forest (length-map ms m.setup ∙ old.each) (λ j within. keeps_at m.setup m.outputs g.met.M.Machine.prefix ms j (omega (arith, within, old.each))) (g.F.RunFeed.gave c.next_list.new.feed) (fed_paused m.outputs m.near (map m.setup ms) (parents_of old) old.forest (length-map ms m.setup ∙ old.each) (λ j within. keeps_at m.setup m.outputs g.met.M.Machine.prefix ms j (omega (arith, within, old.each))) (k.took c.next_list.new.take) n.took c.loop-tree.invariant.feeds) (subst (λ (b : Bool). (earlier : List (List Run)) → g.F.RunFeed.gave c.loop-tree.feed earlier → g.F.RunFeed.gave c.next_list.new.feed (earlier ++ given_now b held)) c.in-Ok-false.field-0-test n.gives.gave)

pub returns-in-Err-clause-feeds : goal.returns-in-Err-clause-feeds
returns-in-Err-clause-feeds g c =
    let m = g.M.Machine in
    let k = g.G.MarkTake in
    let old = c.args.tree.now in
    let ms = machines_of old in
    let n = c.in-Err.ensures in
    fed_held m.outputs m.near (map m.setup ms) (parents_of old) old.forest (length-map ms m.setup ∙ old.each) (λ j within. keeps_at m.setup m.outputs g.met.M.Machine.prefix ms j (omega (arith, within, old.each))) (g.F.RunFeed.gave c.next_list.new.feed) (fed_paused m.outputs m.near (map m.setup ms) (parents_of old) old.forest (length-map ms m.setup ∙ old.each) (λ j within. keeps_at m.setup m.outputs g.met.M.Machine.prefix ms j (omega (arith, within, old.each))) (k.took c.next_list.new.take) n.took c.loop-tree.invariant.feeds) n.none
