use Rattle.std.proofs.Common.{◌≡◌, ◌++◌, [], Option, sym, ◌∙◌, ap, map, take}
use Rattle.std.proofs.lemmas.List.{append-nil}
use Rattle.la_base.specs.Samples.{samples}
use Rattle.la_base.specs.Runs.{samples_of}
use Rattle.la_base.specs.declared.samples.Run.{Run}
use Rattle.decoder_core.specs.Inputs.{Sample, left_feed, left_items}
use Rattle.stack_direct.specs.Trees.{SameTree}
use Rattle.tree_runs.proofs.Joining.{consumes_then, consumes_reach, runs_move, stepped}
use Rattle.tree_runs.proofs.Running.{taken_reach}
use Rattle.stack_direct.proofs.Trees.{consumes_of, gives_stepped, same_still}
use Rattle.stack_direct.proofs.tree.Tree.pass_some.Goals as goal

pub returns-in-Err-clause-consumes : goal.returns-in-Err-clause-consumes
returns-in-Err-clause-consumes g c =
    let m = g.M.Machine in
    let step = c.step_runs_at-taken.ensures in
    let mid = c.step_runs_at-taken.new.machines in
    let taken = c.step_runs_at-taken.result in
    let gave = gives_stepped m (same_still m c.args.self.now) mid step.setups c.in-Err.ensures.gives in
    consumes_reach (map Sample (samples_of c.args.runs.now)) (taken_reach c.args.runs.now taken.count step.steps.here.front (left_items (left_feed taken.rest)) step.steps.here.split) (stepped c.args.self.now.forest (runs_move step.steps) gave)

pub returns-in-Ok-pass_rest-clause-consumes : goal.returns-in-Ok-pass_rest-clause-consumes
returns-in-Ok-pass_rest-clause-consumes g c =
    let m = g.M.Machine in
    let step = c.step_runs_at-taken.ensures in
    let mid = c.step_runs_at-taken.new.machines in
    let given = c.give_all.new.self in
    let front = step.steps.here.front in
    let rest = map Sample (samples c.in-Some.rest) in
    let gave = gives_stepped m (same_still m c.args.self.now) mid step.setups c.in-Ok.ensures.gives in
    let same : SameTree m c.args.self.now given = record { machines = c.in-Ok.ensures.same.machines; parents = c.in-Ok.ensures.same.parents; setups = c.in-Ok.ensures.same.setups ∙ step.setups } in
    let more = consumes_of m same c.in-Ok-pass_rest.ensures.consumes in
    let all : front ++ rest ≡ map Sample (samples_of (take c.step_runs_at-taken.result.count c.args.runs.now)) = sym (step.steps.here.split ∙ ap (λ (r : Option Run). front ++ left_items (left_feed r)) c.in-Some.is) in
    consumes_reach (map Sample (samples_of (take c.step_runs_at-taken.result.count c.args.runs.now))) all (consumes_then (stepped c.args.self.now.forest (runs_move step.steps) gave) more)

pub returns-in-Err-pass_rest-clause-consumes : goal.returns-in-Err-pass_rest-clause-consumes
returns-in-Err-pass_rest-clause-consumes g c =
    let m = g.M.Machine in
    let step = c.step_runs_at-taken.ensures in
    let mid = c.step_runs_at-taken.new.machines in
    let given = c.give_all.new.self in
    let front = step.steps.here.front in
    let rest = map Sample (samples c.in-Some.rest) in
    let gave = gives_stepped m (same_still m c.args.self.now) mid step.setups c.in-Ok.ensures.gives in
    let same : SameTree m c.args.self.now given = record { machines = c.in-Ok.ensures.same.machines; parents = c.in-Ok.ensures.same.parents; setups = c.in-Ok.ensures.same.setups ∙ step.setups } in
    let more = consumes_of m same c.in-Err-pass_rest.ensures.consumes in
    let all : map Sample (samples_of (take c.step_runs_at-taken.result.count c.args.runs.now)) ≡ (front ++ rest) ++ [] = step.steps.here.split ∙ ap (λ (r : Option Run). front ++ left_items (left_feed r)) c.in-Some.is ∙ sym (append-nil (front ++ rest)) in
    consumes_reach (map Sample (samples_of c.args.runs.now)) (taken_reach c.args.runs.now c.step_runs_at-taken.result.count (front ++ rest) [] all) (consumes_then (stepped c.args.self.now.forest (runs_move step.steps) gave) more)

pub returns-in-None-clause-consumes : goal.returns-in-None-clause-consumes
returns-in-None-clause-consumes g c =
    let m = g.M.Machine in
    let step = c.step_runs_at-taken.ensures in
    let mid = c.step_runs_at-taken.new.machines in
    let front = step.steps.here.front in
    let gave = gives_stepped m (same_still m c.args.self.now) mid step.setups c.in-Ok.ensures.gives in
    let all : front ≡ map Sample (samples_of (take c.step_runs_at-taken.result.count c.args.runs.now)) = sym (step.steps.here.split ∙ ap (λ (r : Option Run). front ++ left_items (left_feed r)) c.in-None.is ∙ append-nil front) in
    consumes_reach (map Sample (samples_of (take c.step_runs_at-taken.result.count c.args.runs.now))) all (stepped c.args.self.now.forest (runs_move step.steps) gave)
