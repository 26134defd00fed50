use Rattle.std.proofs.Common.{◌∙◌, refl, sym, ap, subst, Some, List, arith, ◌≡◌, [], ◌∷◌, ◌++◌, length, slice_get, set}
use Rattle.std.proofs.lemmas.Option.{same_Some, slice_get-get_or}
use Rattle.note_order.specs.Order.{entry_of, in_order}
use Rattle.note_order.specs.declared.entry.Entry.{Entry}
use Rattle.annot_merge.specs.Merging.{InOrder, PutsIn}
use Rattle.annot_merge.specs.Queues.{Arranged, all_of, head_of, listing_of, lists_of, live}
use Rattle.annot_merge.specs.declared.queue.Queue.{Queue}
use Rattle.annot_merge.proofs.HoldLemmas.{arranged_last, arranged_more, fits_back, many_more, put_listing, same_lists}
use Rattle.annot_merge.proofs.LimitLemmas.{get_set_here}
use Rattle.annot_merge.proofs.RunLemmas.{set_set}
use Rattle.annot_merge.proofs.queues.Queues.put.Goals as goal

pub invariant_of-self : goal.invariant_of-self
invariant_of-self c =
    let m = c.args.self.now in
    let q = c.index_mut.result.now in
    let at : slice_get m.queues.items c.args.instance ≡ Some q = slice_get-get_or m.queues.items c.args.instance q (omega (arith, c.requires, m.queues.ok.0)) ∙ ap (λ (x : Queue). Some x) (sym c.index_mut.ensures.value) in
    let same = same_lists m.queues.items m.heads.items m.lead m.arranged c.args.instance q c.push.new.self at c.in-Err.ensures.kept in
    record {
      arranged = subst (λ (l : List (List Entry)). ∥ Arranged l m.heads.items m.lead ∥₁) (sym same) m.arranged;
      many_are = m.many_are ∙ ap (λ (l : List (List Entry)). length (in_order (all_of l))) (sym same);
    }

pub returns-in-Err-clause-kept : goal.returns-in-Err-clause-kept
returns-in-Err-clause-kept c =
    let m = c.args.self.now in
    let q = c.index_mut.result.now in
    let at : slice_get m.queues.items c.args.instance ≡ Some q = slice_get-get_or m.queues.items c.args.instance q (omega (arith, c.requires, m.queues.ok.0)) ∙ ap (λ (x : Queue). Some x) (sym c.index_mut.ensures.value) in
    ap (λ (l : List (List Entry)). in_order (all_of l)) (same_lists m.queues.items m.heads.items m.lead m.arranged c.args.instance q c.push.new.self at c.in-Err.ensures.kept)

pub invariant_of-self-then-not-goes_last : goal.invariant_of-self-then-not-goes_last
invariant_of-self-then-not-goes_last c =
    let m = c.args.self.now in
    let i = c.args.instance in
    let e = entry_of i c.args.note in
    let q = c.index_mut.result.now in
    let pushed = c.push.new.self in
    let s = c.settle.ensures in
    let at : slice_get m.queues.items i ≡ Some q = slice_get-get_or m.queues.items i q (omega (arith, c.requires, m.queues.ok.0)) ∙ ap (λ (x : Queue). Some x) (sym c.index_mut.ensures.value) in
    let puts : InOrder (live q) → PutsIn e (live q) (live s.after) = λ ordered. s.puts pushed (live q) e (get_set_here m.queues.items i pushed (omega (arith, c.requires, m.queues.ok.0))) c.in-Ok.ensures.last ordered in
    let is : set m.queues.items i s.after ≡ c.settle.new.queues.items = sym (s.set_is ∙ set_set m.queues.items i pushed s.after) in
    record {
      arranged = subst (λ (l : List Queue). ∥ Arranged (lists_of l) c.settle.new.heads.items c.settle.new.lead ∥₁) is
          (arranged_more m.queues.items m.heads.items m.lead m.arranged i e q s.after at refl puts (head_of (live s.after)) c.settle.new.heads.items c.settle.new.lead refl (fits_back (head_of (live s.after)) s.fits) s.heads_are s.leads);
      many_are = many_more m.queues.items m.heads.items m.lead m.arranged i e q s.after at refl puts m.many m.many_are ∙ ap (λ (l : List Queue). length (listing_of l)) is;
    }

pub returns-then-not-goes_last-clause-puts : goal.returns-then-not-goes_last-clause-puts
returns-then-not-goes_last-clause-puts c =
    let m = c.args.self.now in
    let i = c.args.instance in
    let e = entry_of i c.args.note in
    let q = c.index_mut.result.now in
    let pushed = c.push.new.self in
    let s = c.settle.ensures in
    let at : slice_get m.queues.items i ≡ Some q = slice_get-get_or m.queues.items i q (omega (arith, c.requires, m.queues.ok.0)) ∙ ap (λ (x : Queue). Some x) (sym c.index_mut.ensures.value) in
    let puts : InOrder (live q) → PutsIn e (live q) (live s.after) = λ ordered. s.puts pushed (live q) e (get_set_here m.queues.items i pushed (omega (arith, c.requires, m.queues.ok.0))) c.in-Ok.ensures.last ordered in
    let is : set m.queues.items i s.after ≡ c.settle.new.queues.items = sym (s.set_is ∙ set_set m.queues.items i pushed s.after) in
    subst (λ (l : List Queue). PutsIn e (listing_of m.queues.items) (listing_of l)) is (put_listing m.queues.items m.heads.items m.lead m.arranged i e q s.after at refl puts)

pub invariant_of-self-else-not-goes_last : goal.invariant_of-self-else-not-goes_last
invariant_of-self-else-not-goes_last c =
    let m = c.args.self.now in
    let i = c.args.instance in
    let e = entry_of i c.args.note in
    let q = c.index_mut.result.now in
    let pushed = c.push.new.self in
    let at : slice_get m.queues.items i ≡ Some q = slice_get-get_or m.queues.items i q (omega (arith, c.requires, m.queues.ok.0)) ∙ ap (λ (x : Queue). Some x) (sym c.index_mut.ensures.value) in
    let there : slice_get m.queues.items i ≡ Some c.index.result.now = slice_get-get_or m.queues.items i c.index.result.now (omega (arith, c.requires, m.queues.ok.0)) ∙ ap (λ (x : Queue). Some x) (sym c.index.ensures) in
    let same : c.index.result.now ≡ q = same_Some c.index.result.now q (sym there ∙ at) in
    let last = c.in-Ok.ensures.last in
    let puts : InOrder (live q) → PutsIn e (live q) (live pushed) = λ ordered. subst (PutsIn e (live q)) (sym last) (subst (λ (x : Queue). InOrder (live x) → PutsIn e (live x) (live x ++ e ∷ [])) same (c.if-not-goes_last.ensures.puts refl) ordered) in
    let head : head_of (live pushed) ≡ head_of (live q) = ap head_of last ∙ subst (λ (x : Queue). head_of (live x ++ e ∷ []) ≡ head_of (live x)) same (c.if-not-goes_last.ensures.head refl) in
    record {
      arranged = arranged_last m.queues.items m.heads.items m.lead m.arranged i e q pushed at refl puts head;
      many_are = many_more m.queues.items m.heads.items m.lead m.arranged i e q pushed at refl puts m.many m.many_are;
    }

pub returns-else-not-goes_last-clause-puts : goal.returns-else-not-goes_last-clause-puts
returns-else-not-goes_last-clause-puts c =
    let m = c.args.self.now in
    let i = c.args.instance in
    let e = entry_of i c.args.note in
    let q = c.index_mut.result.now in
    let pushed = c.push.new.self in
    let at : slice_get m.queues.items i ≡ Some q = slice_get-get_or m.queues.items i q (omega (arith, c.requires, m.queues.ok.0)) ∙ ap (λ (x : Queue). Some x) (sym c.index_mut.ensures.value) in
    let there : slice_get m.queues.items i ≡ Some c.index.result.now = slice_get-get_or m.queues.items i c.index.result.now (omega (arith, c.requires, m.queues.ok.0)) ∙ ap (λ (x : Queue). Some x) (sym c.index.ensures) in
    let same : c.index.result.now ≡ q = same_Some c.index.result.now q (sym there ∙ at) in
    let puts : InOrder (live q) → PutsIn e (live q) (live pushed) = λ ordered. subst (PutsIn e (live q)) (sym c.in-Ok.ensures.last) (subst (λ (x : Queue). InOrder (live x) → PutsIn e (live x) (live x ++ e ∷ [])) same (c.if-not-goes_last.ensures.puts refl) ordered) in
    put_listing m.queues.items m.heads.items m.lead m.arranged i e q pushed at refl puts
