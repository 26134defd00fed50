-- Lists of runs that were handed down a tree, with floors after each of them.
use Rattle.std.proofs.Common.{◌≡◌, ◌≢◌, ◌<◌, ◌≤◌, ◌+◌, ◌⊎◌, inl, inr, ℕ, zero, suc, Bool, true, false, List, [], ◌∷◌, ◌++◌, map, drop, take, length, length-append, slice_get, get_or, Option, Some, None, refl, sym, ◌∙◌, ap, subst, append_assoc, arith}
use Rattle.std.specs.Prelude.{nat_lt}
use Rattle.std.proofs.lemmas.Bool.{true≢false}
use Rattle.std.proofs.lemmas.Bool.Decides.{nat_tests}
use Rattle.la_base.specs.declared.wires.Mark.TheVariants.{Floor as FloorMark}
use Rattle.decoder_core.specs.Marks.{shown}
use Rattle.tree_io.specs.Feeds.{marks_of}
use Rattle.tree_runs.specs.Reaching.{Reaches}
use Rattle.std.proofs.lemmas.List.{append-nil}
use Rattle.std.proofs.lemmas.Option.{slice_get-get_or}
use Rattle.std.proofs.Math.Seq.{drop-append_seam}
use Rattle.la_base.specs.Runs.{samples_of}
use Rattle.la_base.specs.declared.samples.Run.{Run}
use Rattle.la_base.specs.declared.wires.Mark.{Mark}
use Rattle.la_base.specs.declared.wires.Out.{Out}
use Rattle.tree_io.specs.Feeds.{together}
use Rattle.decoder_core.specs.Inputs.{Item, Sample}
use Rattle.decoder_core.specs.Promises.{KeepsFront}
use Rattle.tree_runs.specs.Floors.{Floored, WithFloors, alone}
use Rattle.tree_runs.specs.Lows.{KnowsLow, TellsLow, floor_in}
use Rattle.tree_runs.specs.Machines.{defined, near_of, whole_of}
use Rattle.tree_runs.specs.Passing.{Hands, IsForest}
use Rattle.tree_runs.specs.Runs.{FedRuns, StandOn, ToldOf, feeds_of, feeds_on, input_on, run_items, samples_in, RestsAt}
use Rattle.tree_runs.proofs.Batches.{told_low, told_then, with_none}
use Rattle.tree_runs.proofs.Ending.{floored_by, grown, told_by}
use Rattle.tree_runs.proofs.Flooring.{alone-append, some_behind}
use Rattle.tree_runs.proofs.Joining.{hands_reach, took_then, took_nothing}
use Rattle.tree_runs.proofs.Lists.{reaches_weaker}
use Rattle.tree_runs.proofs.Lowing.{input_grows, root_grows}
use Rattle.tree_runs.proofs.Running.{lists_feeds, lists_items, samples_in-append}

either : (k n : ℕ) → k ≤ n → (k < n) ⊎ ((true ≡ true) × (k ≡ n))
either k n most = by (nat_lt k n) refl
  where
    by : (b : Bool) → nat_lt k n ≡ b → (k < n) ⊎ ((true ≡ true) × (k ≡ n))
    by true is = let less : k < n = grind (arith, nat_tests) in inl less
    by false is = let past : n ≤ k = grind (arith, nat_tests) in inr (refl, omega (arith, past, most))

take_front : {X : Type 0} (k : ℕ) (xs ys : List X) → k ≤ length xs → take k (xs ++ ys) ≡ take k xs
take_front zero xs ys within = refl
take_front (suc k) [] ys within = absurd (omega (arith, within))
take_front (suc k) (x ∷ xs) ys within = ap (λ l. x ∷ l) (take_front k xs ys (omega (arith, within)))

take_all : {X : Type 0} (k : ℕ) (xs : List X) → length xs ≤ k → take k xs ≡ xs
take_all zero [] most = refl
take_all zero (x ∷ xs) most = absurd (omega (arith, most))
take_all (suc k) [] most = refl
take_all (suc k) (x ∷ xs) most = ap (λ l. x ∷ l) (take_all k xs (omega (arith, most)))

-- what items one by one are together
alone_all : (items : List Item) → together (alone items) ≡ items
alone_all [] = refl
alone_all (item ∷ items) = ap (λ (l : List Item). item ∷ l) (alone_all items)

runs_all : (lists : List (List Run)) → together (map run_items lists) ≡ map Sample (samples_in lists)
runs_all [] = refl
runs_all (runs ∷ lists) = ap (λ (l : List Item). run_items runs ++ l) (runs_all lists) ∙ first
  where
    first : run_items runs ++ map Sample (samples_in lists) ≡ map Sample (samples_in (runs ∷ lists))
    first = (λ i. map Sample (samples_of (sym (append-nil runs) i)) ++ map Sample (samples_in lists)) ∙ lists_items (runs ∷ []) lists

module _ {S : Type 0} (outputs : S → List Item → List Out) (near : S → List Item → ℕ → ℕ) (setups : List S) (parents : List (Option ℕ)) (forest : IsForest parents) (count : length setups ≡ length parents)
    (keeps : (j : ℕ) → j < length parents → KeepsFront (whole_of outputs setups j)) where
  abbrev input : List ℕ → ℕ → List Item
  input samples j = input_on outputs setups parents samples j

  abbrev feeds : List ℕ → List (List Run) → ℕ → List (List Item)
  feeds samples lists j = feeds_on outputs setups parents samples lists j

  behind : (was more now : List Item) → now ≡ was ++ more → drop (length was) now ≡ more
  behind was more now is = ap (drop (length was)) is ∙ drop-append_seam was more

  -- what comes to an instance with lists of runs are its feeds
  feeds_cut : (samples : List ℕ) (lists : List (List Run)) (j : ℕ) → j < length parents → input (samples ++ samples_in lists) j ≡ input samples j ++ together (feeds samples lists j)
  feeds_cut samples lists j within = by (get_or parents j None) (slice_get-get_or parents j None within)
    where
      was : List Item
      was = input samples j

      now : List Item
      now = input (samples ++ samples_in lists) j

      by : (parent : Option ℕ) → slice_get parents j ≡ Some parent → now ≡ was ++ together (feeds_of lists (slice_get parents j) was now)
      by None at =
          root_grows outputs setups parents forest count keeps samples (samples_in lists) j at
          ∙ ap (λ (l : List Item). was ++ l) (sym (runs_all lists))
          ∙ ap (λ (o : Option (Option ℕ)). was ++ together (feeds_of lists o was now)) (sym at)
      by (Some p) at =
          let g = input_grows outputs setups parents forest count keeps samples (samples_in lists) j within in
          g.1 ∙ ap (λ (l : List Item). was ++ l) (sym (behind was g.0 now g.1) ∙ sym (alone_all (drop (length was) now)))
          ∙ ap (λ (o : Option (Option ℕ)). was ++ together (feeds_of lists o was now)) (sym at)

  -- the feeds of lists after lists
  feeds_more : (samples : List ℕ) (lists more : List (List Run)) (j : ℕ) → j < length parents → feeds samples lists j ++ feeds (samples ++ samples_in lists) more j ≡ feeds samples (lists ++ more) j
  feeds_more samples lists more j within = by (get_or parents j None) (slice_get-get_or parents j None within)
    where
      was : List Item
      was = input samples j

      mid : List Item
      mid = input (samples ++ samples_in lists) j

      now : List Item
      now = input ((samples ++ samples_in lists) ++ samples_in more) j

      far : List Item
      far = input (samples ++ samples_in (lists ++ more)) j

      same : now ≡ far
      same = ap (λ (l : List ℕ). input l j) (append_assoc samples (samples_in lists) (samples_in more) ∙ ap (λ (l : List ℕ). samples ++ l) (sym (samples_in-append lists more)))

      by : (parent : Option ℕ) → slice_get parents j ≡ Some parent → feeds_of lists (slice_get parents j) was mid ++ feeds_of more (slice_get parents j) mid now ≡ feeds_of (lists ++ more) (slice_get parents j) was far
      by None at =
          ap (λ (o : Option (Option ℕ)). feeds_of lists o was mid ++ feeds_of more o mid now) at ∙ lists_feeds lists more
          ∙ ap (λ (o : Option (Option ℕ)). feeds_of (lists ++ more) o was far) (sym at)
      by (Some p) at =
          let one = input_grows outputs setups parents forest count keeps samples (samples_in lists) j within in
          let two = input_grows outputs setups parents forest count keeps (samples ++ samples_in lists) (samples_in more) j within in
          let all : far ≡ was ++ (one.0 ++ two.0) = sym same ∙ two.1 ∙ ap (λ (l : List Item). l ++ two.0) one.1 ∙ append_assoc was one.0 two.0 in
          ap (λ (o : Option (Option ℕ)). feeds_of lists o was mid ++ feeds_of more o mid now) at
          ∙ (λ i. alone (behind was one.0 mid one.1 i) ++ alone (behind mid two.0 now two.1 i))
          ∙ sym (alone-append one.0 two.0) ∙ ap alone (sym (behind was (one.0 ++ two.0) far all))
          ∙ ap (λ (o : Option (Option ℕ)). feeds_of (lists ++ more) o was far) (sym at)

  -- no list yet
  no_feeds : (samples : List ℕ) (j : ℕ) → j < length parents → feeds samples [] j ≡ []
  no_feeds samples j within = by (get_or parents j None) (slice_get-get_or parents j None within)
    where
      was : List Item
      was = input samples j

      now : List Item
      now = input (samples ++ []) j

      by : (parent : Option ℕ) → slice_get parents j ≡ Some parent → feeds_of [] (slice_get parents j) was now ≡ []
      by None at = ap (λ (o : Option (Option ℕ)). feeds_of [] o was now) at
      by (Some p) at = ap (λ (o : Option (Option ℕ)). feeds_of [] o was now) at ∙ ap alone (behind was [] now (ap (λ (l : List ℕ). input l j) (append-nil samples) ∙ sym (append-nil was)))

  told_nothing : (samples : List ℕ) (j : ℕ) → j < length parents
      → ToldOf true (whole_of outputs setups j) (near_of near setups j) (input samples j) (input (samples ++ []) j) (λ more. input ((samples ++ []) ++ more) j) (feeds samples [] j) []
  told_nothing samples j within =
      subst (λ (fs : List (List Item)). ToldOf true (whole_of outputs setups j) (near_of near setups j) (input samples j) (input (samples ++ []) j) (λ more. input ((samples ++ []) ++ more) j) fs []) (sym (no_feeds samples j within))
      (subst (λ (l : List ℕ). ToldOf true (whole_of outputs setups j) (near_of near setups j) (input samples j) (input l j) (λ more. input (l ++ more) j) [] []) (sym (append-nil samples))
      (told_low outputs near setups parents true samples j [] tt))

  pub fed_nothing : (now : ℕ → List Item → Type 0) (gave : List (List Run) → Type 0) (took : (ℕ → List Mark) → Type 0) → FedRuns outputs near setups parents true now now gave gave took took
  fed_nothing now gave took = record {
    lists = [];
    marks = λ j. [];
    gave = λ earlier had. subst gave (sym (append-nil earlier)) had;
    took = took_nothing took;
    told = λ samples stood j within. told_nothing samples j within;
    stand = λ d samples stood. subst (StandOn outputs setups parents now) (sym (append-nil samples)) stood;
    rested = λ samples stood k some way. elim way [ inl less ↦ absurd (omega (arith, less)) | inr all ↦ let is = all.1 in absurd (omega (arith, some, is)) ];
    broken = λ stopped. absurd cc;
  }

  -- what takes the marks was told of a pause, which leaves what it has taken
  pub fed_paused : {before after : ℕ → List Item → Type 0} {g0 g1 : List (List Run) → Type 0} {t0 t1 : (ℕ → List Mark) → Type 0} (t2 : (ℕ → List Mark) → Type 0) → ((marks : ℕ → List Mark) → t1 marks → t2 marks)
      → FedRuns outputs near setups parents true before after g0 g1 t0 t1 → FedRuns outputs near setups parents true before after g0 g1 t0 t2
  fed_paused t2 paused f = record { lists = f.lists; marks = f.marks; gave = f.gave; took = λ earlier later had is. paused later (f.took earlier later had is); told = f.told; stand = f.stand; rested = f.rested; broken = λ stopped. absurd cc }

  -- the feed has given its last list
  pub fed_none : {before after : ℕ → List Item → Type 0} {g0 g1 : List (List Run) → Type 0} {t0 t1 : (ℕ → List Mark) → Type 0} (g2 : List (List Run) → Type 0) → FedRuns outputs near setups parents true before after g0 g1 t0 t1 → ((earlier : List (List Run)) → g1 earlier → g2 (earlier ++ []))
      → FedRuns outputs near setups parents true before after g0 g2 t0 t1
  fed_none g2 f gave = record { lists = f.lists; marks = f.marks; gave = λ earlier had. subst g2 (append-nil (earlier ++ f.lists)) (gave (earlier ++ f.lists) (f.gave earlier had)); took = f.took; told = f.told; stand = f.stand; rested = f.rested; broken = f.broken }

  -- it was stopped in a pause, and the feed gave nothing
  pub fed_held : {before after : ℕ → List Item → Type 0} {g0 g1 : List (List Run) → Type 0} {t0 t1 : (ℕ → List Mark) → Type 0} (g2 : List (List Run) → Type 0) → FedRuns outputs near setups parents true before after g0 g1 t0 t1 → ((earlier : List (List Run)) → g1 earlier → g2 earlier)
      → FedRuns outputs near setups parents true before after g0 g2 t0 t1
  fed_held g2 f gave = record { lists = f.lists; marks = f.marks; gave = λ earlier had. gave (earlier ++ f.lists) (f.gave earlier had); took = f.took; told = f.told; stand = f.stand; rested = f.rested; broken = f.broken }

  -- one list more
  module _ {done : Bool} {before mid after : ℕ → List Item → Type 0} {g0 g1 : List (List Run) → Type 0} {t0 t1 t2 : (ℕ → List Mark) → Type 0} (g2 : List (List Run) → Type 0) (runs : List Run) (f : FedRuns outputs near setups parents true before mid g0 g1 t0 t1)
      (gave : (earlier : List (List Run)) → g1 earlier → g2 (earlier ++ runs ∷ [])) (hands : Hands done (defined outputs near setups) mid after parents t1 t2 None (λ _. run_items runs) (λ _. run_items runs ∷ [])) where
    one_is : run_items runs ≡ map Sample (samples_in (runs ∷ []))
    one_is = ap run_items (sym (append-nil runs))

    abbrev h : Hands done (defined outputs near setups) mid after parents t1 t2 None (λ _. map Sample (samples_in (runs ∷ []))) (λ _. map run_items (runs ∷ []))
    h = hands_reach (λ _. map Sample (samples_in (runs ∷ []))) (λ _. map run_items (runs ∷ [])) (λ j parent at on. reaches_weaker done (run_items runs) (map Sample (samples_in (runs ∷ []))) one_is) (λ j parent at on. reaches_weaker done (run_items runs ∷ []) (run_items runs ∷ []) refl) hands

    abbrev marks_here : ℕ → List Mark
    marks_here = h.change.marks

    abbrev all_lists : List (List Run)
    all_lists = f.lists ++ runs ∷ []

    module _ (samples : List ℕ) (stood : StandOn outputs setups parents before samples) where
      abbrev reached : List ℕ
      reached = samples ++ samples_in f.lists

      abbrev added : List ℕ
      added = samples_in (runs ∷ [])

      there : reached ++ added ≡ samples ++ samples_in all_lists
      there = append_assoc samples (samples_in f.lists) added ∙ ap (λ (l : List ℕ). samples ++ l) (sym (samples_in-append f.lists (runs ∷ [])))

      stood_mid : StandOn outputs setups parents mid reached
      stood_mid = f.stand refl samples stood

      gives : (j : ℕ) (list : List Item) → mid j list → whole_of outputs setups j (list ++ h.change.grown j) ≡ whole_of outputs setups j list ++ h.change.added j
      gives j list m = (h.each j).gives list m

      told_here : (j : ℕ) → j < length parents
          → ToldOf done (whole_of outputs setups j) (near_of near setups j) (input reached j) (input (reached ++ added) j) (λ more. input ((reached ++ added) ++ more) j) (feeds reached (runs ∷ []) j) (marks_here j)
      told_here j within =
          let t = told_by outputs near setups parents forest count keeps reached stood_mid (runs ∷ []) h.change h.down gives h.each j within in
          record {
            new = t.0;
            no_end = (h.each j).no_end;
            adds = t.1;
            shows = t.2;
            floors = λ more rest is. let g = input_grows outputs setups parents forest count keeps (reached ++ added) more j within in t.3 g.0 rest (ap (whole_of outputs setups j) (sym g.1) ∙ is);
            plain = marks_here j;
            more_floors = with_none (marks_here j) (h.each j).no_end;
            floored = floored_by outputs near setups parents forest count keeps reached stood_mid (runs ∷ []) h.change h.down gives h.handed j within;
          }

      told_more : (j : ℕ) → j < length parents
          → ToldOf done (whole_of outputs setups j) (near_of near setups j) (input samples j) (input (samples ++ samples_in all_lists) j) (λ more. input ((samples ++ samples_in all_lists) ++ more) j) (feeds samples all_lists j) (f.marks j ++ marks_here j)
      told_more j within =
          subst (λ (l : List ℕ). ToldOf done (whole_of outputs setups j) (near_of near setups j) (input samples j) (input l j) (λ more. input (l ++ more) j) (feeds samples all_lists j) (f.marks j ++ marks_here j)) there
          (subst (λ (fs : List (List Item)). ToldOf done (whole_of outputs setups j) (near_of near setups j) (input samples j) (input (reached ++ added) j) (λ more. input ((reached ++ added) ++ more) j) fs (f.marks j ++ marks_here j)) (feeds_more samples f.lists (runs ∷ []) j within)
          (told_then (whole_of outputs setups j) (near_of near setups j) (input samples j) (input reached j) (input (reached ++ added) j) (λ more. input (reached ++ more) j) (λ more. input ((reached ++ added) ++ more) j) added
          (feeds samples f.lists j) (feeds reached (runs ∷ []) j) (f.marks j) (marks_here j) (feeds_cut samples f.lists j within) (λ more. ap (λ (l : List ℕ). input l j) (sym (append_assoc reached added more)))
          (f.told samples stood j within) (told_here j within)))

      stand_more : done ≡ true → StandOn outputs setups parents after (samples ++ samples_in all_lists)
      stand_more d j within =
          let g = grown outputs near setups parents forest count keeps reached stood_mid (runs ∷ []) h.change h.down gives j within in
          let whole : input reached j ++ h.change.grown j ≡ input (reached ++ added) j = sym (g.1 ∙ ap (λ (l : List Item). (input reached j ++ h.change.grown j) ++ l) (g.2 d) ∙ append-nil (input reached j ++ h.change.grown j)) in
          subst (λ (l : List ℕ). after j (input l j)) there (subst (after j) whole ((h.each j).consumes d (input reached j) (stood_mid j within)))

      -- what was handed on whole before
      handed_before : (j : ℕ) → j < length parents → (plain : List Mark) × WithFloors plain (f.marks j) × Floored (whole_of outputs setups j) (near_of near setups j) (input samples j) (feeds samples f.lists j) plain
      handed_before j within =
          let t = f.told samples stood j within in
          (t.plain, t.more_floors, subst (Floored (whole_of outputs setups j) (near_of near setups j) (input samples j) (feeds samples f.lists j)) (sym t.floored.1) t.floored.2)

    given : (earlier : List (List Run)) → g0 earlier → g2 (earlier ++ all_lists)
    given earlier had = subst g2 (append_assoc earlier f.lists (runs ∷ [])) (gave (earlier ++ f.lists) (f.gave earlier had))

    marks_more : ℕ → List Mark
    marks_more j = f.marks j ++ marks_here j

    -- after the lists before
    rested_more : (extra : ℕ → List Mark) (samples : List ℕ) → StandOn outputs setups parents before samples → (k : ℕ) → 0 < k → k ≤ length f.lists → RestsAt outputs near setups parents samples (samples ++ samples_in (take k all_lists)) (λ j. f.marks j ++ extra j)
    rested_more extra samples stood k some within =
        let r = f.rested samples stood k some (either k (length f.lists) within) in
        let same : take k f.lists ≡ take k all_lists = sym (take_front k f.lists (runs ∷ []) within) in
        subst (λ (l : List (List Run)). RestsAt outputs near setups parents samples (samples ++ samples_in l) (λ j. f.marks j ++ extra j)) same
        (record {
          floors = r.floors;
          least = r.least;
          told = λ j low. let t = r.told j low in (t.0, t.1 ++ extra j, t.2, ap (λ (l : List Mark). l ++ extra j) t.3 ∙ append_assoc t.0 (FloorMark (r.floors j) ∷ t.1) (extra j), t.4, t.5);
        })

    length_more : length all_lists ≡ length f.lists + 1
    length_more = length-append f.lists (runs ∷ [])

    -- it was stopped
    pub fed_cut : done ≡ false → FedRuns outputs near setups parents done before after g0 g2 t0 t2
    fed_cut stops = record {
      lists = all_lists;
      marks = λ j. f.marks j ++ marks_here j;
      gave = given;
      took = took_then t0 t1 t2 f.marks marks_here f.took h.took;
      told = told_more;
      stand = λ d samples stood. stand_more samples stood d;
      rested = λ samples stood k some way. elim way [ inl less ↦ rested_more marks_here samples stood k some (omega (arith, less, length_more)) | inr all ↦ absurd (true≢false (sym all.0 ∙ stops)) ];
      broken = λ stopped samples stood. record { done = f.lists; last = runs; split = refl; front = f.marks; back = marks_here; made = λ j. refl; handed = handed_before samples stood; some = h.some stopped };
    }

    -- floors were told after it
    module _ (whole_list : done ≡ true) (way : Bool) (t3 : (ℕ → List Mark) → Type 0) (floors : List ℕ) (place : ℕ) (tells : TellsLow outputs setups parents near after way t2 t3 floors place) (knows : way ≡ true → KnowsLow outputs setups parents near after floors place) (all_places : way ≡ true → place ≡ length parents) where
      told_floors : (samples : List ℕ) → StandOn outputs setups parents before samples → (j : ℕ) → j < length parents
          → ToldOf way (whole_of outputs setups j) (near_of near setups j) (input samples j) (input (samples ++ samples_in all_lists) j) (λ more. input ((samples ++ samples_in all_lists) ++ more) j) (feeds samples all_lists j) (f.marks j ++ (marks_here j ++ tells.marks j))
      told_floors samples stood j within =
          let reached = samples ++ samples_in all_lists in
          let first = subst (λ (b : Bool). ToldOf b (whole_of outputs setups j) (near_of near setups j) (input samples j) (input reached j) (λ more. input (reached ++ more) j) (feeds samples all_lists j) (f.marks j ++ marks_here j)) whole_list (told_more samples stood j within) in
          subst (λ (ms : List Mark). ToldOf way (whole_of outputs setups j) (near_of near setups j) (input samples j) (input reached j) (λ more. input (reached ++ more) j) (feeds samples all_lists j) ms) (append_assoc (f.marks j) (marks_here j) (tells.marks j))
          (subst (λ (fs : List (List Item)). ToldOf way (whole_of outputs setups j) (near_of near setups j) (input samples j) (input reached j) (λ more. input (reached ++ more) j) fs ((f.marks j ++ marks_here j) ++ tells.marks j)) (append-nil (feeds samples all_lists j))
          (told_then (whole_of outputs setups j) (near_of near setups j) (input samples j) (input reached j) (input reached j) (λ more. input (reached ++ more) j) (λ more. input (reached ++ more) j) []
          (feeds samples all_lists j) [] (f.marks j ++ marks_here j) (tells.marks j) (feeds_cut samples all_lists j within) (λ more. refl)
          first (told_low outputs near setups parents way reached j (tells.marks j) (tells.low reached (stand_more samples stood whole_list) j))))

      rests_here : (samples : List ℕ) → StandOn outputs setups parents before samples → way ≡ true → RestsAt outputs near setups parents samples (samples ++ samples_in all_lists) (λ j. f.marks j ++ (marks_here j ++ tells.marks j))
      rests_here samples stood goes = record {
        floors = floor_in floors;
        least = λ j low. (knows goes (samples ++ samples_in all_lists) (stand_more samples stood whole_list) j (let n = all_places goes in omega (arith, low, n))).1;
        told = λ j low.
            let t = told_more samples stood j low in
            let shows = subst (λ (b : Bool). Reaches b (shown (f.marks j ++ marks_here j)) (marks_of t.new)) whole_list t.shows in
            let n = all_places goes in (
              f.marks j ++ marks_here j,
              [],
              t.new,
              sym (append_assoc (f.marks j) (marks_here j) (tells.marks j)) ∙ ap (λ (l : List Mark). (f.marks j ++ marks_here j) ++ l) (tells.these j (omega (arith, low, n))),
              t.adds,
              shows,
            );
      }

      pub fed_runs : FedRuns outputs near setups parents way before after g0 g2 t0 t3
      fed_runs = record {
        lists = all_lists;
        marks = λ j. f.marks j ++ (marks_here j ++ tells.marks j);
        gave = given;
        took = took_then t0 t1 t3 f.marks (λ j. marks_here j ++ tells.marks j) f.took (took_then t1 t2 t3 marks_here tells.marks h.took tells.took);
        told = told_floors;
        stand = λ d samples stood. stand_more samples stood whole_list;
        rested = λ samples stood k some ways. elim ways [
          | inl less ↦ rested_more (λ j. marks_here j ++ tells.marks j) samples stood k some (omega (arith, less, length_more))
          | inr all ↦
              subst (λ (l : List (List Run)). RestsAt outputs near setups parents samples (samples ++ samples_in l) (λ j. f.marks j ++ (marks_here j ++ tells.marks j)))
              (sym (take_all k all_lists (let is = all.1 in omega (arith, is)))) (rests_here samples stood all.0)
        ];
        broken = λ stopped samples stood. record {
          done = f.lists;
          last = runs;
          split = refl;
          front = f.marks;
          back = λ j. marks_here j ++ tells.marks j;
          made = λ j. refl;
          handed = handed_before samples stood;
          some = let s = tells.some stopped in (s.0, some_behind (marks_here s.0) (tells.marks s.0) s.1);
        };
      }
