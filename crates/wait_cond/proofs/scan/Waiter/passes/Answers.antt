use Rattle.std.proofs.Common.{refl, ◌+◌, ◌-◌, subst, ℕ, Option, arith, length}
use Rattle.la_base.specs.Samples.{samples}
use Rattle.wait_cond.specs.Watching.{NeverMet}
use Rattle.wait_cond.proofs.Passing.{all_passed}
use Rattle.wait_cond.proofs.Runs.{none_skipped, samples_are}
use Rattle.wait_cond.proofs.scan.Waiter.passes.Goals as goal

pub returns-then-is_still : goal.returns-then-is_still
returns-then-is_still c = record {
  none = λ is list w.
      let s = c.args.self.now in
      let run = c.args.run in
      let alts = s.cond in
      all_passed list run alts s.consumed s.from s.last w
      (subst (λ (b : Option ℕ). NeverMet alts b run.value) c.before-2.ensures (c.if-is_still.ensures.now refl)) (c.if-is_still.ensures.stands refl);
}

pub returns : goal.returns
returns c = record {
  none = λ is list w.
      let s = c.args.self.now in
      let run = c.args.run in
      none_skipped list (samples run) run.value run.len (samples_are run) s.cond s.from (length list + run.len) (s.consumed + run.len - s.from) (c.skips_more.ensures.skips is) (omega (arith, w.count));
}
