use Rattle.std.proofs.Common.{◌-◌, [], List, Some, length, map, replicate, refl, sym, ◌∙◌, ap, arith, subst}
use Rattle.std.proofs.lemmas.List.{append-nil, length-replicate}
use Rattle.la_base.specs.Samples.{samples}
use Rattle.decoder_core.specs.Inputs.{Item, Sample, counted_samples, left_feed, left_items}
use Rattle.decoder_core.specs.Driving.{Drives, StepsRuns}
use Rattle.decoder_core.specs.declared.driver.Driver.{Driver}
use Rattle.decoder_core.proofs.Counting.{map_equal}
use Rattle.decoder_core.proofs.Trodden.{rests_runs}
use Rattle.decoder_core.proofs.driver.Driver.pass_behind.Goals as goal

pub returns-then-pass_rest-clause-steps : goal.returns-then-pass_rest-clause-steps
returns-then-pass_rest-clause-steps g c =
    let m = g.L.LogicMachine in
    let run = c.args.run in
    let rest = map Sample (samples c.in-Some.rest) in
    let passes = c.if-pass_rest.ensures.passes refl in
    record {
      front = rest;
      split = map_equal (run.len - 1) run.value ∙ sym c.behind.ensures.rest ∙ ap (λ o. left_items (left_feed o)) c.in-Some.is ∙ sym (append-nil rest);
      consumes = λ input d. (passes input d).0;
      gives = λ input d. (passes input d).1 ∙ sym (append-nil (m.outs (g.L.Configured.setup c.args.self.now.machine) (counted_samples input)));
    }

pub returns-else-pass_rest-clause-steps : goal.returns-else-pass_rest-clause-steps
returns-else-pass_rest-clause-steps g c =
    let m = g.L.LogicMachine in
    let s = c.args.self.now in
    let run = c.args.run in
    subst (λ (d : Driver g.row.L.Denot g.row.L-Setup.Denot). StepsRuns (Drives m.stands m.alts s.machine s.waiter) (Drives m.stands m.alts d.machine d.waiter) (λ input. m.outs (g.L.Configured.setup s.machine) (counted_samples input))
    (replicate (run.len - 1) run.value) (Some c.in-Some.rest) []) (sym (c.pass_rest.ensures.kept c.if-pass_rest.false))
    (rests_runs (map_equal (run.len - 1) run.value ∙ sym c.behind.ensures.rest ∙ ap (λ o. left_items (left_feed o)) c.in-Some.is))

pub returns-in-None-clause-steps : goal.returns-in-None-clause-steps
returns-in-None-clause-steps g c =
    let run = c.args.run in
    rests_runs (map_equal (run.len - 1) run.value ∙ sym c.behind.ensures.rest ∙ ap (λ o. left_items (left_feed o)) c.in-None.is)

pub returns-else-pass_rest-clause-few : goal.returns-else-pass_rest-clause-few
returns-else-pass_rest-clause-few g c =
    let run = c.args.run in
    let same = ap (λ (l : List Item). length l) (sym (ap (λ o. left_items (left_feed o)) c.in-Some.is) ∙ c.behind.ensures.rest) in
    omega (arith, same, length-replicate (run.len - 1) (Sample run.value))
