-- A tree of machines: its definitions make a tree, and its listing is that of its instances.
use Rattle.std.proofs.Common.{◌≡◌, ℕ, zero, suc, ◌+◌, ◌<◌, Bool, true, false, List, [], ◌∷◌, ◌++◌, map, length, slice_get, Option, Some, None, refl, sym, ◌∙◌, ap, subst, arith}
use Rattle.std.specs.List.{range_with_len}
use Rattle.std.proofs.lemmas.Option.{slice_get_within}
use Rattle.la_base.specs.Runs.{samples_of}
use Rattle.la_base.specs.declared.wires.Out.{Out}
use Rattle.note_order.specs.Order.{listed}
use Rattle.decoder_core.specs.Inputs.{Item}
use Rattle.decoder_core.specs.Promises.{GivesNothing, KeepsFront}
use Rattle.decoder_core.specs.Trees.{given}
use Rattle.tree_runs.specs.Listings.{notes_of}
use Rattle.tree_runs.specs.Machines.{defined, whole_of}
use Rattle.tree_runs.specs.Passing.{IsForest}
use Rattle.tree_runs.specs.Runs.{input_on, nodes_of}
use Rattle.tree_runs.proofs.Telling.{root_input, child_input, given_at, given_len}
use Rattle.stack_laws.specs.Links.{IsFront}
use Rattle.stack_laws.specs.Running.{State, opening}
use Rattle.stack_laws.specs.Events.{after_all}
use Rattle.stack_laws.specs.Legal.{Legal}
use Rattle.stack_laws.specs.Listings.{AreInputs, listing, shown_alone}
use Rattle.stack_laws.specs.Laws.{IsLawful, PrintsListing, LegalPrintsListing, EventsPrintListing, listing_of}
use Rattle.stack_laws.proofs.Keeping.{events_keep}
use Rattle.stack_laws.proofs.Listing.{ended_all, ended_front, printed_front}
use Rattle.stack_laws.proofs.Shown.{shown_listing, shown_front}

-- a law of each machine holds at every place, also where there is none
everywhere : {M S : Type 0} (setup : M → S) (outputs : S → List Item → List Out) (P : (List Item → List Out) → Type 0) → P (λ input. []) → ((m : M) → P (outputs (setup m))) → (ms : List M) (j : ℕ) → P (whole_of outputs (map setup ms) j)
everywhere setup outputs P none law [] j = none
everywhere setup outputs P none law (m ∷ ms) zero = law m
everywhere setup outputs P none law (m ∷ ms) (suc j) = everywhere setup outputs P none law ms j

pub is_lawful : {M S : Type 0} (setup : M → S) (outputs : S → List Item → List Out) (near : S → List Item → ℕ → ℕ) → ((m : M) → GivesNothing (outputs (setup m))) → ((m : M) → KeepsFront (outputs (setup m)))
    → (ms : List M) (parents : List (Option ℕ)) → IsForest parents → IsLawful parents (defined outputs near (map setup ms))
is_lawful setup outputs near nothing prefix ms parents forest = record {
  forest = forest;
  nothing = everywhere setup outputs GivesNothing refl nothing ms;
  prefix = everywhere setup outputs KeepsFront (λ input more. ([], refl)) prefix ms;
}

some_eq : {X : Type 0} (x y : X) → Some x ≡ Some y → x ≡ y
some_eq x y e = cc

-- a list is that of its elements by their places
by_places : {X Y : Type 0} (f : X → Y) (xs : List X) (g : ℕ → Y) (a : ℕ) → ((j : ℕ) (x : X) → slice_get xs j ≡ Some x → f x ≡ g (a + j)) → map f xs ≡ map g (range_with_len a (length xs))
by_places f [] g a same = refl
by_places {X} {Y} f (x ∷ xs) g a same =
    let here : f x ≡ g a = same 0 x refl ∙ ap g (let n : a + 0 ≡ a = omega arith in n) in
    let rest = by_places f xs g (a + 1) (λ j y at. same (suc j) y at ∙ ap g (let n : a + suc j ≡ (a + 1) + j = omega arith in n)) in
    λ i. here i ∷ rest i

module _ {S : Type 0} (outputs : S → List Item → List Out) (near : S → List Item → ℕ → ℕ) (setups : List S) (parents : List (Option ℕ)) (forest : IsForest parents) (count : length setups ≡ length parents) where
  abbrev whole : ℕ → List Item → List Out
  whole = whole_of outputs setups

  abbrev input : List ℕ → ℕ → List Item
  input samples = input_on outputs setups parents samples

  pub inputs_of : (samples : List ℕ) → AreInputs parents whole samples (input samples)
  inputs_of samples j None at = root_input outputs setups parents forest count samples j at
  inputs_of samples j (Some p) at = child_input outputs setups parents forest count samples j p at (forest j p at)

  listing_is : (samples : List ℕ) → listing parents whole (input samples) ≡ listed (map notes_of (given outputs samples (nodes_of setups parents)))
  listing_is samples =
      let all = given outputs samples (nodes_of setups parents) in
      let len = given_len outputs setups parents forest count samples in
      ap listed (sym (by_places notes_of all (λ j. notes_of (whole j (input samples j))) 0 (λ j outs at.
      let within : j < length parents = let w = slice_get_within all j outs at in omega (arith, w, len) in
      let there = given_at outputs setups parents forest count samples j within in
      let same : outs ≡ whole j (input samples j) = some_eq outs (whole j (input samples j)) (sym at ∙ there) in
      ap notes_of same ∙ ap (λ (k : ℕ). notes_of (whole k (input samples k))) (let n : j ≡ 0 + j = omega arith in n))
      ∙ ap (λ (n : ℕ). map (λ j. notes_of (whole j (input samples j))) (range_with_len 0 n)) len))

  module _ (lawful : IsLawful parents (defined outputs near setups)) (slots : ℕ) (shown : ℕ → Bool) (state : State) (legal : Legal parents (defined outputs near setups) slots state) where
    of_listing : (samples : List ℕ) → shown_alone shown (listing parents whole (input samples)) ≡ listing_of outputs near setups parents shown samples
    of_listing samples = ap (shown_alone shown) (listing_is samples) ∙ shown_listing shown (map notes_of (given outputs samples (nodes_of setups parents)))

    front_of : (samples : List ℕ) → IsFront state.printed (listing parents whole (input samples)) → IsFront (shown_alone shown state.printed) (listing_of outputs near setups parents shown samples)
    front_of samples front = subst (IsFront (shown_alone shown state.printed)) (of_listing samples) (shown_front shown state.printed _ front)

    prints_listing : PrintsListing outputs near setups parents shown state
    prints_listing = record {
      going = λ going more.
          let samples = samples_of state.fed ++ more in
          front_of samples (printed_front parents (defined outputs near setups) slots lawful state legal more (input samples) (inputs_of samples) (λ ended. let no : true ≡ false = sym ended ∙ going in absurd cc));
      ended = λ ended.
          let samples = samples_of state.fed in
          front_of samples (ended_front parents (defined outputs near setups) slots lawful state legal (input samples) (inputs_of samples));
      done = λ done.
          let samples = samples_of state.fed in
          ap (shown_alone shown) (ended_all parents (defined outputs near setups) slots lawful state legal (input samples) (inputs_of samples) done) ∙ of_listing samples;
    }

  pub legal_prints : IsLawful parents (defined outputs near setups) → LegalPrintsListing outputs near setups parents
  legal_prints lawful slots shown state legal = prints_listing lawful slots shown state legal

  pub events_print : IsLawful parents (defined outputs near setups) → EventsPrintListing outputs near setups parents
  events_print lawful slots shown events may = prints_listing lawful slots shown (after_all parents events opening) (events_keep parents (defined outputs near setups) slots lawful events may)
