use Rattle.std.proofs.Common.{◌≡◌, ◌++◌, [], List, Option, refl, sym, ◌∙◌, ap, subst, map, append_assoc}
use Rattle.std.proofs.lemmas.List.{append-nil}
use Rattle.la_base.specs.Samples.{samples}
use Rattle.la_base.specs.declared.samples.Run.{Run}
use Rattle.la_base.specs.declared.wires.Feed.TheVariants.{Run as RunFeed}
use Rattle.decoder_core.specs.Inputs.{Item, Sample, left_feed, left_items}
use Rattle.tree_runs.specs.Machines.{Stand, StepsAt, whole_of}
use Rattle.stack_direct.specs.Trees.{defined_in, parents_of, stand_in}
use Rattle.tree_runs.proofs.Joining.{consumes_nothing, consumes_then, consumes_reach, step_moves, stepped}
use Rattle.stack_direct.proofs.Trees.{gives_stepped, same_count, same_still, still, still_then, takes_all}
use Rattle.stack_direct.proofs.tree.Tree.pass_rest.Goals as goal

pub loop-rest-init : goal.loop-rest-init
loop-rest-init g c =
    let m = g.M.Machine in
    let k = g.G.MarkTake in
    record {
      all = c.requires.all;
      count = refl;
      same = same_still m c.args.self.now;
      feeds = ([], refl, consumes_nothing (defined_in m c.args.self.now) (stand_in m c.args.self.now) (parents_of c.args.self.now) (k.took c.args.take.now) c.args.instance);
      empty = c.requires.empty;
      takes = still k c.args.take.now;
    }

pub loop-rest-preserved : goal.loop-rest-preserved
loop-rest-preserved g c =
    let m = g.M.Machine in
    let k = g.G.MarkTake in
    let i = c.loop-rest.invariant in
    let e = c.in-Ok.ensures in
    let mid = c.step_run_at-rest.new.machines in
    let s = subst (λ (l : List g.row.M-Setup.Denot). StepsAt c.args.instance (whole_of m.outputs l) (stand_in m c.loop-rest.self) (Stand m.consumed mid) (RunFeed c.in-Some.run') (left_feed c.step_run_at-rest.result) c.step_run_at-rest.new.outs) i.same.setups c.step_run_at-rest.ensures.step in
    let gave = gives_stepped m i.same mid c.step_run_at-rest.ensures.setups e.gives in
    let split : map Sample (samples c.args.run) ≡ (i.feeds.0 ++ s.here.front) ++ left_items (left_feed c.step_run_at-rest.result) =
    i.feeds.1 ∙ ap (λ (r : Option Run). i.feeds.0 ++ left_items (left_feed r)) c.in-Some.is ∙ ap (λ (l : List Item). i.feeds.0 ++ l) s.here.split ∙ sym (append_assoc i.feeds.0 s.here.front (left_items (left_feed c.step_run_at-rest.result))) in
    record {
      all = takes_all k m i.all e.same e.takes;
      count = same_count m e.same ∙ i.count;
      same = record { machines = e.same.machines ∙ i.same.machines; parents = e.same.parents ∙ i.same.parents; setups = e.same.setups ∙ c.step_run_at-rest.ensures.setups ∙ i.same.setups };
      feeds = (i.feeds.0 ++ s.here.front, split, consumes_then i.feeds.2 (stepped c.args.self.now.forest (step_moves s) gave));
      empty = e.empty;
      takes = still_then k i.takes e.takes;
    }

pub returns-in-Err-clause-consumes : goal.returns-in-Err-clause-consumes
returns-in-Err-clause-consumes g c =
    let m = g.M.Machine in
    let k = g.G.MarkTake in
    let i = c.loop-rest.invariant in
    let e = c.in-Err.ensures in
    let mid = c.step_run_at-rest.new.machines in
    let s = subst (λ (l : List g.row.M-Setup.Denot). StepsAt c.args.instance (whole_of m.outputs l) (stand_in m c.loop-rest.self) (Stand m.consumed mid) (RunFeed c.in-Some.run') (left_feed c.step_run_at-rest.result) c.step_run_at-rest.new.outs) i.same.setups c.step_run_at-rest.ensures.step in
    let gave = gives_stepped m i.same mid c.step_run_at-rest.ensures.setups e.gives in
    let split : map Sample (samples c.args.run) ≡ (i.feeds.0 ++ s.here.front) ++ left_items (left_feed c.step_run_at-rest.result) =
    i.feeds.1 ∙ ap (λ (r : Option Run). i.feeds.0 ++ left_items (left_feed r)) c.in-Some.is ∙ ap (λ (l : List Item). i.feeds.0 ++ l) s.here.split ∙ sym (append_assoc i.feeds.0 s.here.front (left_items (left_feed c.step_run_at-rest.result))) in
    consumes_reach (map Sample (samples c.args.run)) (left_items (left_feed c.step_run_at-rest.result), sym split) (consumes_then i.feeds.2 (stepped c.args.self.now.forest (step_moves s) gave))

pub returns-clause-consumes : goal.returns-clause-consumes
returns-clause-consumes g c =
    let i = c.loop-rest.invariant in
    let all : i.feeds.0 ≡ map Sample (samples c.args.run) = sym (i.feeds.1 ∙ ap (λ (r : Option Run). i.feeds.0 ++ left_items (left_feed r)) c.in_default.is ∙ append-nil i.feeds.0) in
    consumes_reach (map Sample (samples c.args.run)) all i.feeds.2
