use Rattle.std.proofs.Common.{◌∙◌, sym, ap, subst, List, Option, ℕ, length, arith}
use Rattle.annot_merge.specs.Limits.{Leads}
use Rattle.annot_merge.proofs.HoldLemmas.{arranged_empty, empty_queues_hold}
use Rattle.annot_merge.proofs.queues.Queues.new.Goals as goal

pub invariant_of-result : goal.invariant_of-result
invariant_of-result c =
    let queues = c.in-Ok.queues.items in
    let heads = c.in-Ok-same_bounds.heads.items in
    let many = c.in-Ok.ensures.0 in
    let wide = c.in-Ok-same_bounds.ensures.0 in
    record {
      arranged = arranged_empty queues heads c.lead_of-lead.result c.in-Ok.ensures.1 c.in-Ok-same_bounds.ensures.1 (wide ∙ sym many) (omega (arith, many, c.ranges.count.fits))
          (subst (λ (l : List (Option ℕ)). Leads l c.lead_of-lead.result) c.deref.ensures.value c.lead_of-lead.ensures);
      many_are = ap length (sym (empty_queues_hold queues c.in-Ok.ensures.1));
    }
