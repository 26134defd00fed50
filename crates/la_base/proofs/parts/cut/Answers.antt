use Rattle.std.proofs.Common.{ap, arith, ◌∙◌, ◌≡◌, ◌+◌, ◌-◌, ℕ, replicate}
use Rattle.std.proofs.lemmas.List.{replicate-append-replicate}
use Rattle.la_base.specs.Samples.{samples}
use Rattle.la_base.proofs.parts.cut.Goals as goal

pub returns-clause-same : goal.returns-clause-same
unfolding samples
returns-clause-same c =
    let whole : c.args.n + (c.args.run.len - c.args.n) ≡ c.args.run.len = omega arith in
    replicate-append-replicate c.args.n (c.args.run.len - c.args.n) c.args.run.value ∙ ap (λ (k : ℕ). replicate k c.args.run.value) whole
