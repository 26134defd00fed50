use Rattle.std.proofs.Common.{◌<◌, ◌++◌, List, ℕ, length, take, refl, sym, ◌∙◌, ap, subst, arith, append_assoc}
use Rattle.std.proofs.lemmas.List.{append-nil}
use Rattle.la_base.specs.Samples.{samples}
use Rattle.la_base.specs.Runs.{samples_of}
use Rattle.la_base.proofs.RunLemmas.{count_more, samples_more}
use Rattle.wait_cond.specs.Waiting.{Waits}
use Rattle.wait_cond.proofs.scan.Waiter.pass_runs.Goals as goal

pub loop-place-init : goal.loop-place-init
loop-place-init c = record {
  waits = λ list w. subst (λ (l : List ℕ). Waits c.args.self.now l) (sym (append-nil list)) w;
  count = omega arith;
  from = refl;
  alts = refl;
}

pub loop-place-preserved : goal.loop-place-preserved
loop-place-preserved c =
    let i = c.loop-place.invariant in
    let runs = c.args.runs.now in
    let at = c.loop-place.place in
    let run = c.index-runs-place.result in
    let within : at < length runs = omega (arith, c.loop-place-test.true) in
    record {
      waits = λ list w.
          let so_far = list ++ samples_of (take at runs) in
          let waits = i.waits list w in
          subst (λ (l : List ℕ). Waits c.pass.new.self l) (append_assoc list (samples_of (take at runs)) (samples run) ∙ ap (λ (l : List ℕ). list ++ l) (sym (samples_more runs at run within c.index-runs-place.is)))
          (c.pass.ensures.waits so_far waits (c.passes.ensures.none c.if-not-passes.false so_far waits));
      count = omega (arith, i.count, c.pass.ensures.counts.consumed, count_more runs at run within c.index-runs-place.is);
      from = c.pass.ensures.counts.from ∙ i.from;
      alts = c.pass.ensures.alts ∙ i.alts;
    }
