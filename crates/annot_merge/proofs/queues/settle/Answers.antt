use Rattle.std.proofs.Common.{◌∙◌, refl, sym, ap, subst, Some, List, ℕ, Option, arith, ◌≡◌, slice_get, set}
use Rattle.std.proofs.lemmas.Option.{same_Some, slice_get-get_or}
use Rattle.std.proofs.lemmas.List.{get_or-set_same}
use Rattle.annot_merge.specs.Limits.{Leads}
use Rattle.annot_merge.specs.Queues.{Fits, head_of, live}
use Rattle.annot_merge.specs.declared.queue.Queue.{Queue}
use Rattle.annot_merge.proofs.HoldLemmas.{fits_of, same_option}
use Rattle.annot_merge.proofs.QueueLemmas.{set_same}
use Rattle.annot_merge.proofs.queues.settle.Goals as goal

pub returns-then-eq : goal.returns-then-eq
returns-then-eq c =
    let queues = c.args.queues.now.items in
    let heads = c.args.heads.now.items in
    let i = c.args.instance in
    let q = c.index_mut.result.now in
    let after = c.settle.new.self in
    let now : c.index.result.now ≡ after = c.index.ensures ∙ get_or-set_same queues i after c.index.result.now c.requires.within in
    let head : c.head-head.result ≡ head_of (live after) = c.head-head.ensures.head ∙ ap (λ (x : Queue). head_of (live x)) now in
    let same : c.index-2.result.now ≡ c.head-head.result = same_option c.index-2.result.now c.head-head.result c.if-eq.ensures in
    let kept : slice_get heads i ≡ Some (head_of (live after)) = slice_get-get_or heads i c.index-2.result.now (omega (arith, c.requires.within, c.requires.each)) ∙ ap (λ (h : Option ℕ). Some h) (sym c.index-2.ensures ∙ (same ∙ head)) in
    record {
      after = after;
      set_is = refl;
      puts = λ queue before entry at is ordered. c.settle.ensures before entry (ap live (same_Some q queue (sym (slice_get-get_or queues i q c.requires.within ∙ ap (λ (x : Queue). Some x) (sym c.index_mut.ensures.value)) ∙ at)) ∙ is) ordered;
      heads_are = sym (set_same heads i (head_of (live after)) kept);
      fits = subst Fits head (fits_of c.head-head.result c.head-head.ensures.fits);
      leads = λ l. l;
    }

pub returns : goal.returns
returns c =
    let queues = c.args.queues.now.items in
    let heads = c.args.heads.now.items in
    let i = c.args.instance in
    let q = c.index_mut.result.now in
    let after = c.settle.new.self in
    let now : c.index.result.now ≡ after = c.index.ensures ∙ get_or-set_same queues i after c.index.result.now c.requires.within in
    let head : c.head-head.result ≡ head_of (live after) = c.head-head.ensures.head ∙ ap (λ (x : Queue). head_of (live x)) now in
    record {
      after = after;
      set_is = refl;
      puts = λ queue before entry at is ordered. c.settle.ensures before entry (ap live (same_Some q queue (sym (slice_get-get_or queues i q c.requires.within ∙ ap (λ (x : Queue). Some x) (sym c.index_mut.ensures.value)) ∙ at)) ∙ is) ordered;
      heads_are = ap (λ (h : Option ℕ). set heads i h) head;
      fits = subst Fits head (fits_of c.head-head.result c.head-head.ensures.fits);
      leads = λ l. subst (λ (b : List (Option ℕ)). Leads b c.lead_behind.result) c.deref.ensures.value (c.lead_behind.ensures heads c.deref.ensures.value l);
    }
