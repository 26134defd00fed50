use Rattle.std.proofs.Common.{refl, ◌+◌, ◌∙◌, ap, Option, None, Some, ℕ}
use Rattle.std.proofs.lemmas.Option.{slice_get-get_or}
use Rattle.annot_merge.proofs.LimitLemmas.{next_same}
use Rattle.annot_merge.proofs.limits.next_of.Goals as goal

pub returns-then-is_at : goal.returns-then-is_at
returns-then-is_at c = λ is.
    let now = c.args.bounds.now in
    let next = c.args.first.instance + 1 in
    next_same now c.args.first next refl
    (slice_get-get_or now next None c.if-next-bounds.true ∙ ap (λ (b : Option ℕ). Some b) c.if-is_at.ensures) is
