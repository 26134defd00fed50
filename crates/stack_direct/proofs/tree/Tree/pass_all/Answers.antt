use Rattle.std.proofs.Common.{◌++◌, ◌+◌, length, length-drop, ◌-◌, List, false, refl, ◌∙◌, ap, take, drop, map, arith, take-append-drop}
use Rattle.std.proofs.lemmas.List.{take_all}
use Rattle.la_base.specs.declared.samples.Run.{Run}
use Rattle.la_base.specs.Runs.{samples_of}
use Rattle.la_base.proofs.RunLemmas.{runs_from}
use Rattle.decoder_core.specs.Inputs.{Sample}
use Rattle.stack_direct.specs.Trees.{defined_in, parents_of, stand_in}
use Rattle.tree_runs.proofs.Joining.{consumes_nothing, consumes_then, consumes_reach}
use Rattle.tree_runs.proofs.Lists.{reaches_weaker}
use Rattle.tree_runs.proofs.Running.{items_further, more_items}
use Rattle.stack_direct.proofs.Going.{goes_ok}
use Rattle.stack_direct.proofs.Trees.{consumes_of, same_count, same_still, same_then, still, still_then, stopped_too, takes_all}
use Rattle.stack_direct.proofs.tree.Tree.pass_all.Goals as goal

pub loop-at-init : goal.loop-at-init
loop-at-init g c =
    let m = g.M.Machine in
    let k = g.G.MarkTake in
    record {
      within = omega arith;
      all = c.requires.all;
      count = refl;
      same = same_still m c.args.self.now;
      feeds = consumes_nothing (defined_in m c.args.self.now) (stand_in m c.args.self.now) (parents_of c.args.self.now) (k.took c.args.take.now) c.args.instance;
      empty = c.requires.empty;
      takes = still k c.args.take.now;
    }

pub loop-at-preserved : goal.loop-at-preserved
loop-at-preserved g c =
    let m = g.M.Machine in
    let k = g.G.MarkTake in
    let i = c.loop-at.invariant in
    let e = c.in-Ok.ensures in
    let runs = c.args.runs.now in
    let at = c.loop-at.at in
    let n = c.in-Ok.count in
    record {
      within = omega (arith, e.count.1, length-drop at runs);
      all = takes_all k m i.all e.same e.takes;
      count = same_count m e.same ∙ i.count;
      same = same_then m i.same e.same;
      feeds = consumes_reach (map Sample (samples_of (take (at + n) runs))) (items_further runs at n) (consumes_then i.feeds (consumes_of m i.same e.consumes));
      empty = e.empty;
      takes = goes_ok k.instances k.origin k.stops k.going (still_then k i.takes e.takes);
    }

pub returns-in-Err-clause-consumes : goal.returns-in-Err-clause-consumes
returns-in-Err-clause-consumes g c =
    let m = g.M.Machine in
    let k = g.G.MarkTake in
    let i = c.loop-at.invariant in
    let e = c.in-Err.ensures in
    let runs = c.args.runs.now in
    let at = c.loop-at.at in
    let rest = runs_from runs at in
    let all = more_items (take at runs) rest ∙ ap (λ (l : List Run). map Sample (samples_of (take at runs ++ l))) (take_all (length runs - at) (drop at runs) (omega (arith, length-drop at runs))) ∙ ap (λ (l : List Run). map Sample (samples_of l)) (take-append-drop at runs) in
    consumes_reach (map Sample (samples_of runs)) (reaches_weaker false (map Sample (samples_of (take at runs)) ++ map Sample (samples_of rest)) (map Sample (samples_of runs)) all) (consumes_then i.feeds (consumes_of m i.same e.consumes))

pub returns-clause-consumes : goal.returns-clause-consumes
returns-clause-consumes g c =
    let i = c.loop-at.invariant in
    let runs = c.args.runs.now in
    consumes_reach (map Sample (samples_of runs)) (ap (λ (l : List Run). map Sample (samples_of l)) (take_all c.loop-at.at runs (omega (arith, c.loop-at-test.false)))) i.feeds

pub returns-in-Err-clause-same : goal.returns-in-Err-clause-same
returns-in-Err-clause-same g c = same_then g.M.Machine c.loop-at.invariant.same c.in-Err.ensures.same

pub returns-in-Err-clause-takes : goal.returns-in-Err-clause-takes
returns-in-Err-clause-takes g c = let k = g.G.MarkTake in stopped_too k (still_then k c.loop-at.invariant.takes c.in-Err.ensures.takes)
