use Rattle.std.proofs.Common.{◌≡◌, ◌<◌, ◌+◌, ◌∙◌, ◌∷◌, sym, ap, subst, List, length, take, drop, get_or, arith, take-append-drop, length-take}
use Rattle.std.proofs.lemmas.List.{get_or-drop, get_or-take, length-drop}
use Rattle.note_order.specs.declared.entry.Entry.{Entry}
use Rattle.annot_merge.specs.Places.{GoesOn, StopsAt}
use Rattle.annot_merge.proofs.queue.Queue.front.Goals as goal

pub returns-clause-parts : goal.returns-clause-parts
returns-clause-parts c =
    let n = c.front_of-count.result in
    let held = c.held-held.result.now in
    (drop n held, sym (take-append-drop n held ∙ c.held-held.ensures))

pub returns-clause-before : goal.returns-clause-before
returns-clause-before c = λ k d low.
    let n = c.front_of-count.result in
    let held = c.held-held.result.now in
    let within : 1 + k < n = omega (arith, low, length-drop 1 (take n held), length-take n held) in
    let here : get_or (drop 1 (take n held)) k d ≡ get_or held (1 + k) d = get_or-drop 1 (take n held) k d ∙ get_or-take n held (1 + k) d within in
    subst (λ (e : Entry). GoesOn c.args.others.now e) (sym here) (c.front_of-count.ensures.before (1 + k) (omega arith) within d)

pub returns-clause-none : goal.returns-clause-none
returns-clause-none c = λ none entry rest is.
    let n = c.front_of-count.result in
    let held = c.held-held.result.now in
    let whole : held ≡ entry ∷ rest = c.held-held.ensures ∙ is in
    let zero : n ≡ 0 = omega (arith, ap length none, length-take n held, ap length whole) in
    subst (λ (l : List Entry). StopsAt c.args.limit.now (get_or l 0 entry)) whole (c.front_of-count.ensures.none zero (omega (arith, ap length whole)) entry)
