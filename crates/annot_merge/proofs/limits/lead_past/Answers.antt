use Rattle.std.proofs.Common.{◌≡◌, ◌∙◌, sym, ap, subst, ℕ, Option, None, Some, set}
use Rattle.std.proofs.lemmas.Option.{same_Some, slice_get-get_or}
use Rattle.annot_merge.specs.Limits.{IsBelow}
use Rattle.annot_merge.proofs.LimitLemmas.{leads_on, now_here}
use Rattle.annot_merge.proofs.limits.lead_past.Goals as goal

pub returns-then-is_lower : goal.returns-then-is_lower
returns-then-is_lower c = λ before bound is was.
    let now = c.args.bounds.now in
    let i = c.args.lead.least.instance in
    let here : bound ≡ Some c.in-Some.start = same_Some bound (Some c.in-Some.start) (sym (now_here before now i bound is c.requires.within) ∙ (slice_get-get_or now i None c.requires.within ∙ ap (λ (b : Option ℕ). Some b) c.in-Some.is)) in
    leads_on before now c.in-Some.start c.args.lead (is ∙ ap (λ (b : Option ℕ). set before i b) here) c.requires.within c.if-is_lower.ensures was

pub lead_gone-requires-clause-past : goal.lead_gone-requires-clause-past
lead_gone-requires-clause-past c = λ bound at.
    let now = c.args.bounds.now in
    let i = c.args.lead.least.instance in
    subst (λ (b : Option ℕ). IsBelow c.args.lead.others b i) (same_Some (Some c.in-Some.start) bound (sym (slice_get-get_or now i None c.requires.within ∙ ap (λ (b : Option ℕ). Some b) c.in-Some.is) ∙ at)) c.if-is_lower.ensures

pub lead_gone-requires-in-None-clause-past : goal.lead_gone-requires-in-None-clause-past
lead_gone-requires-in-None-clause-past c = λ bound at.
    let now = c.args.bounds.now in
    let i = c.args.lead.least.instance in
    subst (λ (b : Option ℕ). IsBelow c.args.lead.others b i) (same_Some None bound (sym (slice_get-get_or now i None c.requires.within ∙ ap (λ (b : Option ℕ). Some b) c.in-None.is) ∙ at)) tt
