use Rattle.std.proofs.Common.{◌≡◌, List, ℕ, Some, length, take, refl, sym, ◌∙◌, ap, subst}
use Rattle.std.specs.List.{slice_get}
use Rattle.std.proofs.lemmas.Option.{slice_get_read}
use Rattle.la_base.specs.declared.samples.TheConstants.{MOST_PINS}
use Rattle.cond_words.specs.Binding.{Distinct}
use Rattle.cond_words.specs.Words.{alt_terms, meaning_of}
use Rattle.cond_words.specs.declared.words.Term.{Term}
use Rattle.cond_words.proofs.BoundLemmas.{none_bound, step_done, step_fault, meaning_at}
use Rattle.cond_words.proofs.bind.bind_alt.Goals as goal

pub loop-item-init : goal.loop-item-init
loop-item-init c = none_bound MOST_PINS c.args.names.now c.args.pins.now.items (alt_terms c.args.words.now) c.no_terms-alt.result c.requires c.no_terms-alt.ensures.masks c.no_terms-alt.ensures.skip

pub returns-in-Err-clause-binds : goal.returns-in-Err-clause-binds
returns-in-Err-clause-binds c =
    let items = c.deref-term-items.result.now in
    let terms = c.args.words.now.terms.items in
    let there = slice_get_read items (length items) c.loop-item.item c.term-item.result refl c.loop-item-test.true c.term-item.is in
    let term : slice_get terms c.loop-item.item ≡ Some c.term-item.result = subst (λ (l : List Term). slice_get l c.loop-item.item ≡ Some c.term-item.result) c.deref-term-items.ensures.value there in
    let fault = step_fault MOST_PINS c.args.names.now c.args.pins.now.items (alt_terms c.args.words.now) c.loop-item.item c.loop-item.pins.items c.bind_term.new.pins.items c.loop-item.alt c.bind_term.new.alt (meaning_of c.term-item.result) c.in-Err.why
    c.loop-item.invariant (meaning_at terms c.loop-item.item c.term-item.result term) c.in-Err.ensures in
    (fault.0, c.truncate.ensures.items ∙ ap (λ (n : ℕ). take n c.bind_term.new.pins.items) c.len-known.ensures.value ∙ fault.1)

pub returns-in-Err-clause-distinct : goal.returns-in-Err-clause-distinct
returns-in-Err-clause-distinct c =
    let items = c.deref-term-items.result.now in
    let terms = c.args.words.now.terms.items in
    let there = slice_get_read items (length items) c.loop-item.item c.term-item.result refl c.loop-item-test.true c.term-item.is in
    let term : slice_get terms c.loop-item.item ≡ Some c.term-item.result = subst (λ (l : List Term). slice_get l c.loop-item.item ≡ Some c.term-item.result) c.deref-term-items.ensures.value there in
    let fault = step_fault MOST_PINS c.args.names.now c.args.pins.now.items (alt_terms c.args.words.now) c.loop-item.item c.loop-item.pins.items c.bind_term.new.pins.items c.loop-item.alt c.bind_term.new.alt (meaning_of c.term-item.result) c.in-Err.why
    c.loop-item.invariant (meaning_at terms c.loop-item.item c.term-item.result term) c.in-Err.ensures in
    subst Distinct (sym (c.truncate.ensures.items ∙ ap (λ (n : ℕ). take n c.bind_term.new.pins.items) c.len-known.ensures.value ∙ fault.1)) c.requires

pub loop-item-preserved : goal.loop-item-preserved
loop-item-preserved c =
    let items = c.deref-term-items.result.now in
    let terms = c.args.words.now.terms.items in
    let there = slice_get_read items (length items) c.loop-item.item c.term-item.result refl c.loop-item-test.true c.term-item.is in
    let term : slice_get terms c.loop-item.item ≡ Some c.term-item.result = subst (λ (l : List Term). slice_get l c.loop-item.item ≡ Some c.term-item.result) c.deref-term-items.ensures.value there in
    step_done MOST_PINS c.args.names.now c.args.pins.now.items (alt_terms c.args.words.now) c.loop-item.item c.loop-item.pins.items c.bind_term.new.pins.items c.loop-item.alt c.bind_term.new.alt (meaning_of c.term-item.result) c.in-Ok.field-0
    c.loop-item.invariant (meaning_at terms c.loop-item.item c.term-item.result term) c.in-Ok.ensures
