use Rattle.std.proofs.Common.{◌≡◌, ◌<◌, ◌≤◌, ◌-◌, ◌∙◌, ◌∷◌, ◌++◌, [], sym, ap, subst, List, length, drop, true, false, arith}
use Rattle.std.specs.List.{HoldsAt}
use Rattle.std.proofs.lemmas.List.{drop-append-le, length-append}
use Rattle.note_order.specs.Order.{is_before}
use Rattle.note_order.specs.declared.entry.Entry.{Entry}
use Rattle.annot_merge.specs.Merging.{InOrder, PutsIn}
use Rattle.annot_merge.proofs.PutLemmas.{last_same, puts_in}
use Rattle.annot_merge.proofs.place.settle_last.Goals as goal

pub returns-in-Ok-clause-puts : goal.returns-in-Ok-clause-puts
returns-in-Ok-clause-puts c = λ before entry is ordered.
    let first = c.args.first in
    let old = c.args.entries.now.items in
    let popped = c.pop.new.self.items in
    let e = c.in-Some.entry in
    let all : old ≡ popped ++ e ∷ [] = c.in-Some.ensures.items in
    let within : first ≤ length popped = omega (arith, c.requires, ap length all, length-append popped (e ∷ [])) in
    let s = last_same before (drop first popped) entry e (sym is ∙ (ap (drop first) all ∙ drop-append-le first popped (e ∷ []) within)) in
    let p = c.place_of-at.ensures in
    let items = c.deref.ensures.value in
    let new = c.insert.new.self.items in
    subst (λ (l : List Entry). PutsIn entry l (drop first new)) (sym s.0)
    (subst (λ (x : Entry). PutsIn x (drop first popped) (drop first new)) (sym s.1)
    (puts_in first c.place_of-at.result popped e p.least (subst (λ (l : List Entry). c.place_of-at.result ≤ length l) items p.most)
    (subst (λ (l : List Entry). c.place_of-at.result < length l → HoldsAt (λ x. is_before e x ≡ true) l c.place_of-at.result) items p.behind)
    (subst (λ (l : List Entry). first < c.place_of-at.result → HoldsAt (λ x. is_before e x ≡ false) l (c.place_of-at.result - 1)) items p.before) new c.in-Ok.ensures.items
    (subst InOrder s.0 ordered)))
