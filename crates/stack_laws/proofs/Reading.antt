-- What the instances of a tree have consumed is a front of what they read on what was fed.
use Rattle.std.proofs.Common.{◌≡◌, ℕ, zero, suc, ◌<◌, Bool, true, false, List, [], ◌∷◌, ◌++◌, map, length, get_or, slice_get, Option, Some, None, refl, sym, ◌∙◌, ap, subst, arith, append_assoc, append-nil}
use Rattle.std.proofs.lemmas.List.{append_cancel_left, map-append}
use Rattle.std.proofs.lemmas.Option.{slice_get-get_or}
use Rattle.la_base.specs.Runs.{samples_of}
use Rattle.la_base.specs.Samples.{samples}
use Rattle.la_base.specs.declared.samples.Run.{Run}
use Rattle.la_base.specs.declared.wires.Feed.TheVariants.{Run as RunFeed}
use Rattle.la_base.specs.declared.wires.Feed.{Feed}
use Rattle.decoder_core.specs.Inputs.{Item, Sample}
use Rattle.decoder_core.specs.Trees.{packets_of}
use Rattle.tree_runs.proofs.Lists.{packets-append}
use Rattle.tree_runs.specs.Machines.{Definitions}
use Rattle.stack_laws.specs.Links.{EndsLast, some}
use Rattle.stack_laws.specs.Running.{State, Stage, is_over}
use Rattle.stack_laws.specs.Feeds.{ends_feed, feed_end, items_in}
use Rattle.stack_laws.specs.Heeding.{Heeds}
use Rattle.stack_laws.specs.Legal.{Fits, due}
use Rattle.stack_laws.specs.Listings.{AreInputs}
use Rattle.stack_laws.specs.Laws.{IsLawful}
use Rattle.stack_laws.proofs.Lists.{some_front, none_behind}
use Rattle.stack_laws.proofs.Heeding.{heeds_front, heeds_samples, items_of_end, made_items, plain_items}
use Rattle.stack_laws.proofs.Wires.{items-append}
use Rattle.stack_laws.proofs.Coming.{parent_closed, received_made}

pub items_of_runs : (runs : List Run) → items_in (map RunFeed runs) ≡ map Sample (samples_of runs)
items_of_runs [] = refl
items_of_runs (run ∷ runs) = ap (λ (l : List Item). map Sample (samples run) ++ l) (items_of_runs runs) ∙ sym (map-append Sample (samples run) (samples_of runs))

module _ (parents : List (Option ℕ)) (by : Definitions) (slots : ℕ) (lawful : IsLawful parents by) (state : State) (fits : Fits parents by slots state)
    (more : List ℕ) (input : ℕ → List Item) (reads : AreInputs parents by.whole (samples_of state.fed ++ more) input) where
  abbrev at : ℕ → Stage
  at j = state.stages j

  -- the input of an instance goes on from what it has consumed; where it has closed, by nothing but what comes after all that was fed; and it heeds what it was told
  abbrev Goes : ℕ → Type 0
  Goes j = (rest : List Item) × (input j ≡ (at j).consumed ++ rest) × (more ≡ [] → (at j).closed ≡ true → rest ≡ []) × Heeds (at j).input.received (input j)

  -- so it is where the input begins with all that was made for it
  goes_by : (j : ℕ) (tail : List Item) → input j ≡ items_in (at j).input.made ++ tail → (more ≡ [] → some ends_feed (at j).input.made ≡ true → tail ≡ []) → Heeds (at j).input.made (input j) → Goes j
  goes_by j tail is done heeds =
      let link = fits.inputs j in
      let stage = at j in
      let takes = fits.takes j in
      let made = received_made ends_feed slots stage.input link in
      let made_items : items_in stage.input.made ≡ items_in stage.input.received ++ items_in made.0 = ap items_in made.1 ∙ items-append stage.input.received made.0 in (
        takes.front.0 ++ (items_in made.0 ++ tail),
        is ∙ ap (λ (l : List Item). l ++ tail) (made_items ∙ ap (λ (l : List Item). l ++ items_in made.0) takes.front.1)
            ∙ append_assoc (stage.consumed ++ takes.front.0) (items_in made.0) tail ∙ append_assoc stage.consumed takes.front.0 (items_in made.0 ++ tail),
        λ none closed.
            let came = takes.all closed in
            let has = some_front ends_feed stage.input.received stage.input.made made came.0 in
            let no_rest : takes.front.0 ≡ [] = append_cancel_left stage.consumed takes.front.0 [] (sym takes.front.1 ∙ sym came.1 ∙ sym (append-nil stage.consumed)) in
            let no_more : made.0 ≡ [] = none_behind ends_feed stage.input.received made.0 (subst (EndsLast ends_feed) made.1 link.last) came.0 in
            let no_tail = done none has in
            λ i. no_rest i ++ (items_in (no_more i) ++ no_tail i),
        heeds_front stage.input.received made.0 (input j) (subst (λ (l : List Feed). Heeds l (input j)) made.1 heeds),
      )

  goes_root : (j : ℕ) → slice_get parents j ≡ Some None → Goes j
  goes_root j on =
      let items : items_in (at j).input.made ≡ map Sample (samples_of state.fed) =
      sym (plain_items (at j).input.made) ∙ ap items_in (fits.hands j ∙ ap (due by.whole state) on) ∙ items-append (map RunFeed state.fed) (feed_end (is_over state)) ∙ (λ i. items_of_runs state.fed i ++ items_of_end (is_over state) i)
      ∙ append-nil (map Sample (samples_of state.fed)) in
      goes_by j (map Sample more) (reads j None on ∙ map-append Sample (samples_of state.fed) more ∙ ap (λ (l : List Item). l ++ map Sample more) (sym items)) (λ none has. ap (map Sample) none)
      (subst (Heeds (at j).input.made) (sym (reads j None on)) (heeds_samples (at j).input.made (samples_of state.fed ++ more)))

  goes_child : (j p : ℕ) → slice_get parents j ≡ Some (Some p) → Goes p → Goes j
  goes_child j p on goes =
      let outs = by.whole p (at p).consumed in
      let grows = lawful.prefix p (at p).consumed goes.0 in
      let items : items_in (at j).input.made ≡ packets_of outs =
      made_items outs (at p).closed (at j).input.made (fits.hands j ∙ ap (due by.whole state) on) in
      goes_by j (packets_of grows.0)
      (reads j (Some p) on ∙ ap (λ (l : List Item). packets_of (by.whole p l)) goes.1 ∙ ap packets_of grows.1 ∙ packets-append outs grows.0 ∙ ap (λ (l : List Item). l ++ packets_of grows.0) (sym items))
      (λ none has.
      let no_rest = goes.2 none (sym (parent_closed parents by slots state fits j p on) ∙ has) in
      let no_new : grows.0 ≡ [] =
      append_cancel_left outs grows.0 [] (sym grows.1 ∙ ap (λ (l : List Item). by.whole p ((at p).consumed ++ l)) no_rest ∙ ap (by.whole p) (append-nil (at p).consumed) ∙ sym (append-nil outs)) in
      ap packets_of no_new)
      (subst (Heeds (at j).input.made) (sym (reads j (Some p) on ∙ ap (λ (l : List Item). packets_of (by.whole p l)) goes.1))
      (fits.places j p on goes.0 (subst (Heeds (at p).input.received) goes.1 goes.3)))

  goes_below : (n j : ℕ) → j < n → j < length parents → Goes j
  goes_below zero j low within = absurd (omega (arith, low))
  goes_below (suc n) j low within = way (λ p less. goes_below n p (omega (arith, less, low)) (omega (arith, less, within))) (get_or parents j None) (slice_get-get_or parents j None within)
    where
      way : ((p : ℕ) → p < j → Goes p) → (parent : Option ℕ) → slice_get parents j ≡ Some parent → Goes j
      way earlier None on = goes_root j on
      way earlier (Some p) on = goes_child j p on (earlier p (lawful.forest j p on))

  pub goes : (j : ℕ) → j < length parents → Goes j
  goes j within = goes_below (suc j) j (omega arith) within
