-- What the stages of a tree have consumed heeds what they were told.
use Rattle.std.proofs.Common.{◌≡◌, ℕ, zero, suc, ◌<◌, List, [], ◌++◌, map, length, get_or, slice_get, Option, Some, None, sym, ◌∙◌, ap, subst, arith, append_assoc, append-nil}
use Rattle.std.proofs.lemmas.Option.{slice_get-get_or}
use Rattle.la_base.specs.Runs.{samples_of}
use Rattle.la_base.specs.declared.wires.Feed.{Feed}
use Rattle.la_base.specs.declared.wires.Feed.TheVariants.{Run as RunFeed}
use Rattle.decoder_core.specs.Inputs.{Item, Sample}
use Rattle.decoder_core.specs.Trees.{packets_of}
use Rattle.tree_runs.specs.Machines.{Definitions}
use Rattle.tree_runs.specs.Passing.{IsForest}
use Rattle.stack_laws.specs.Running.{State, Stage, is_over}
use Rattle.stack_laws.specs.Feeds.{ends_feed, feed_end, items_in}
use Rattle.stack_laws.specs.Heeding.{Heeds}
use Rattle.stack_laws.specs.Legal.{Fits, due}
use Rattle.stack_laws.proofs.Coming.{received_made}
use Rattle.stack_laws.proofs.Heeding.{heeds_front, heeds_less, heeds_samples, items_of_end, made_items, plain_items}
use Rattle.stack_laws.proofs.Reading.{items_of_runs}
use Rattle.stack_laws.proofs.Wires.{items-append}

module _ (parents : List (Option ℕ)) (by : Definitions) (slots : ℕ) (state : State) (fits : Fits parents by slots state) (forest : IsForest parents) where
  abbrev at : ℕ → Stage
  at j = state.stages j

  abbrev HeedsOwn : ℕ → Type 0
  HeedsOwn j = Heeds (at j).input.received (at j).consumed

  -- so it is where the items that were made for it heed it
  by_made : (j : ℕ) → Heeds (at j).input.made (items_in (at j).input.made) → HeedsOwn j
  by_made j heeds =
      let stage = at j in
      let made = received_made ends_feed slots stage.input (fits.inputs j) in
      let front = (fits.takes j).front in
      let left = front.0 ++ items_in made.0 in
      let items : items_in stage.input.made ≡ stage.consumed ++ left =
      ap items_in made.1 ∙ items-append stage.input.received made.0 ∙ ap (λ (l : List Item). l ++ items_in made.0) front.1 ∙ append_assoc stage.consumed front.0 (items_in made.0) in
      heeds_less stage.input.received stage.consumed left
      (heeds_front stage.input.received made.0 (stage.consumed ++ left) (subst (λ (l : List Feed). Heeds l (stage.consumed ++ left)) made.1 (subst (Heeds stage.input.made) items heeds)))

  of_root : (j : ℕ) → slice_get parents j ≡ Some None → HeedsOwn j
  of_root j on =
      let items : items_in (at j).input.made ≡ map Sample (samples_of state.fed) =
      sym (plain_items (at j).input.made) ∙ ap items_in (fits.hands j ∙ ap (due by.whole state) on) ∙ items-append (map RunFeed state.fed) (feed_end (is_over state))
      ∙ (λ i. items_of_runs state.fed i ++ items_of_end (is_over state) i) ∙ append-nil (map Sample (samples_of state.fed)) in
      by_made j (subst (Heeds (at j).input.made) (sym items) (heeds_samples (at j).input.made (samples_of state.fed)))

  of_child : (j p : ℕ) → slice_get parents j ≡ Some (Some p) → HeedsOwn p → HeedsOwn j
  of_child j p on heeds =
      let ate = (at p).consumed in
      let told = fits.places j p on [] (subst (Heeds (at p).input.received) (sym (append-nil ate)) heeds) in
      let items : packets_of (by.whole p (ate ++ [])) ≡ items_in (at j).input.made =
      ap (λ (l : List Item). packets_of (by.whole p l)) (append-nil ate) ∙ sym (made_items (by.whole p ate) (at p).closed (at j).input.made (fits.hands j ∙ ap (due by.whole state) on)) in
      by_made j (subst (Heeds (at j).input.made) items told)

  heeds_below : (n j : ℕ) → j < n → j < length parents → HeedsOwn j
  heeds_below zero j low within = absurd (omega (arith, low))
  heeds_below (suc n) j low within = way (λ p less. heeds_below n p (omega (arith, less, low)) (omega (arith, less, within))) (get_or parents j None) (slice_get-get_or parents j None within)
    where
      way : ((p : ℕ) → p < j → HeedsOwn p) → (parent : Option ℕ) → slice_get parents j ≡ Some parent → HeedsOwn j
      way earlier None on = of_root j on
      way earlier (Some p) on = of_child j p on (earlier p (forest j p on))

  pub all_heed : (j : ℕ) → j < length parents → HeedsOwn j
  all_heed j within = heeds_below (suc j) j (omega arith) within
