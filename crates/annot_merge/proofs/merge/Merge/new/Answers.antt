use Rattle.std.proofs.Common.{sym, ◌∙◌, ap, subst, List, [], Some, ℕ, Option, arith}
use Rattle.std.proofs.lemmas.Option.{slice_get-get_or}
use Rattle.annot_merge.specs.Limits.{IsLimit}
use Rattle.annot_merge.specs.Merging.{Merges}
use Rattle.annot_merge.proofs.MergeLemmas.{merges_nothing}
use Rattle.annot_merge.proofs.merge.Merge.new.Goals as goal

pub returns-clause-stands : goal.returns-clause-stands
returns-clause-stands c =
    let bounds = c.in-Ok.bounds.items in
    let many = c.in-Ok.ensures.0 in
    record {
      many = many;
      bounds_are = λ j within. slice_get-get_or bounds j (Some 0) (omega (arith, within, many)) ∙ ap (λ b. Some b) (c.in-Ok.ensures.1 j (Some 0) (omega (arith, within, many)));
      limit_is = subst (λ (l : List (Option ℕ)). IsLimit l c.limit_of-limit.result) c.deref.ensures.value c.limit_of-limit.ensures;
      merges = subst (Merges c.args.instances (λ _. []) []) (sym c.in-Ok-new.ensures.none) (merges_nothing c.args.instances);
    }
