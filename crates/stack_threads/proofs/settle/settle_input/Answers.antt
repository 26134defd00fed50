use Rattle.std.proofs.Common.{◌≡◌, ◌∙◌, ◌<◌, ℕ, Option, Some, None, ap, sym, map, length, slice_get, arith}
use Rattle.std.proofs.lemmas.List.{length-map}
use Rattle.std.proofs.lemmas.Option.{slice_get_within}
use Rattle.stage_ring.specs.Link.{tx_link}
use Rattle.stage_run.specs.Stages.{Links, parts_links}
use Rattle.stack_threads.specs.Ties.{sent_on}
use Rattle.stack_threads.specs.Trees.{children_in, place_of}
use Rattle.stack_threads.proofs.Tying.{get_first, none_some, some_some}
use Rattle.stack_threads.proofs.settle.settle_input.Goals as goal

pub settle_root-requires-clause-link : goal.settle_root-requires-clause-link
settle_root-requires-clause-link g c = λ s at_s.
    let ps = c.args.parents.now in
    let at : slice_get ps c.args.instance ≡ Some None = c.requires.parent ∙ ap (λ (o : Option ℕ). Some o) c.in-None.is in
    let place : c.place_among-place.result ≡ place_of ps c.args.instance None = c.place_among-place.ensures ∙ ap (place_of ps c.args.instance) c.in-None.is in
    let r = c.requires.inputs None s at at_s in
    (ap (slice_get (map tx_link c.args.feeds.now)) place ∙ r.0, r.1)

pub settle_root-requires-clause-within : goal.settle_root-requires-clause-within
settle_root-requires-clause-within g c =
    let low : c.args.instance < length c.args.parts.now = omega (arith, c.requires.within.0, c.requires.within.1) in
    let r = settle_root-requires-clause-link g c _ (get_first parts_links c.args.parts.now c.args.instance low).1 in
    (low, omega (arith, slice_get_within (map tx_link c.args.feeds.now) c.place_among-place.result _ r.0, length-map c.args.feeds.now tx_link))

pub settle_below-requires-clause-within : goal.settle_below-requires-clause-within
settle_below-requires-clause-within g c =
    let ps = c.args.parents.now in
    let at : slice_get ps c.args.instance ≡ Some (Some c.in-Some.above) = c.requires.parent ∙ ap (λ (o : Option ℕ). Some o) c.in-Some.is in
    (c.requires.forest c.args.instance c.in-Some.above at, omega (arith, c.requires.within.0, c.requires.within.1))

pub settle_below-requires-clause-link : goal.settle_below-requires-clause-link
settle_below-requires-clause-link g c = λ s above at_s at_above.
    let ps = c.args.parents.now in
    let at : slice_get ps c.args.instance ≡ Some (Some c.in-Some.above) = c.requires.parent ∙ ap (λ (o : Option ℕ). Some o) c.in-Some.is in
    let place : c.place_among-place.result ≡ place_of ps c.args.instance (Some c.in-Some.above) = c.place_among-place.ensures ∙ ap (place_of ps c.args.instance) c.in-Some.is in
    let r = c.requires.inputs (Some c.in-Some.above) s at at_s in
    (ap (slice_get above.children) place ∙ ap (λ (o : Option Links). slice_get (children_in o) (place_of ps c.args.instance (Some c.in-Some.above))) (sym at_above) ∙ r.0, r.1)

pub returns-in-None-clause-root : goal.returns-in-None-clause-root
returns-in-None-clause-root g c = λ at_none h s at_h at_s.
    let ps = c.args.parents.now in
    let place : c.place_among-place.result ≡ place_of ps c.args.instance None = c.place_among-place.ensures ∙ ap (place_of ps c.args.instance) c.in-None.is in
    c.settle_root.ensures.tied h s at_h (ap (slice_get (map sent_on c.args.feeds.now)) place ∙ at_s)

pub returns-in-None-clause-child : goal.returns-in-None-clause-child
returns-in-None-clause-child g c = λ p at_p.
    none_some (c.requires.parent ∙ ap (λ (o : Option ℕ). Some o) c.in-None.is) at_p

pub returns-in-Some-clause-root : goal.returns-in-Some-clause-root
returns-in-Some-clause-root g c = λ at_none.
    none_some at_none (c.requires.parent ∙ ap (λ (o : Option ℕ). Some o) c.in-Some.is)

pub returns-in-Some-clause-child : goal.returns-in-Some-clause-child
returns-in-Some-clause-child g c = λ p at_p h above s at_h at_above at_s.
    let ps = c.args.parents.now in
    let at : slice_get ps c.args.instance ≡ Some (Some c.in-Some.above) = c.requires.parent ∙ ap (λ (o : Option ℕ). Some o) c.in-Some.is in
    let same : p ≡ c.in-Some.above = some_some (sym at_p ∙ at) in
    let place : c.place_among-place.result ≡ place_of ps c.args.instance (Some c.in-Some.above) = c.place_among-place.ensures ∙ ap (place_of ps c.args.instance) c.in-Some.is in
    c.settle_below.ensures.tied h above s at_h (ap (slice_get _) (sym same) ∙ at_above) (ap (slice_get above.children) (place ∙ ap (λ (q : ℕ). place_of ps c.args.instance (Some q)) (sym same)) ∙ at_s)
