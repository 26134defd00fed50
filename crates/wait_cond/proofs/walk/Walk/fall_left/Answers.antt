use Rattle.std.proofs.Common.{◌^◌, ◌%◌, ℕ, subst}
use Rattle.wait_cond.specs.Meets.{AllFall}
use Rattle.wait_cond.proofs.FallLemmas.{fall_here, fall_nowhere}
use Rattle.wait_cond.proofs.walk.Walk.fall_left.Goals as goal

pub returns-then-all_fall : goal.returns-then-all_fall
returns-then-all_fall c = λ alts wait.
    let walk = c.args.self.now in
    fall_here alts c.args.lines wait walk c.args.value c.requires
    (subst (λ (n : ℕ). AllFall c.args.lines n (c.args.value % 2 ^ 64)) c.low_half-before.ensures
    (subst (λ (n : ℕ). AllFall c.args.lines c.low_half-before.result n) c.low_half-now.ensures c.if-all_fall.ensures))

pub returns-else-all_fall : goal.returns-else-all_fall
returns-else-all_fall c = λ alts wait.
    let walk = c.args.self.now in
    fall_nowhere alts c.args.lines wait walk c.args.value c.requires
    (subst (λ (n : ℕ). ¬ AllFall c.args.lines n (c.args.value % 2 ^ 64)) c.low_half-before.ensures
    (subst (λ (n : ℕ). ¬ AllFall c.args.lines c.low_half-before.result n) c.low_half-now.ensures c.if-all_fall.ensures))
