-- Floors that go down a tree are low.
use Rattle.std.proofs.Common.{◌≡◌, ◌≢◌, ◌<◌, ◌+◌, nat_eq, ℕ, zero, suc, Bool, true, false, if◌then◌else◌, List, [], ◌∷◌, ◌++◌, map, length, slice_get, get_or, set, Option, Some, None, refl, sym, ◌∙◌, ap, subst, arith, ◌≤◌}
use Rattle.std.proofs.lemmas.Bool.Decides.{nat_tests}
use Rattle.std.proofs.lemmas.Bool.{true≢false}
use Rattle.std.proofs.lemmas.List.{append-nil, get_or-set_same, get_or-set_other}
use Rattle.std.proofs.lemmas.Option.{slice_get-get_or}
use Rattle.la_base.specs.declared.wires.Mark.{Mark}
use Rattle.la_base.specs.declared.wires.Mark.TheVariants.{Note as NoteMark, Piece as PieceMark, Floor as FloorMark, End as EndMark}
use Rattle.la_base.specs.declared.wires.Out.{Out}
use Rattle.la_base.specs.declared.wires.Out.TheVariants.{Note as NoteOut, Piece as PieceOut, Packet as PacketOut}
use Rattle.decoder_core.specs.Inputs.{Item, Sample}
use Rattle.decoder_core.specs.Packets.{IsFloorOver, ItemsFrom}
use Rattle.decoder_core.specs.Promises.{KeepsFront, PacketsFrom}
use Rattle.decoder_core.specs.Trees.{packets_of}
use Rattle.decoder_core.specs.laws.PacketLaws.{from_nought}
use Rattle.tree_runs.specs.Lows.{AreLow, IsLow, KnowsLow, TellsLow, floor_in}
use Rattle.tree_runs.specs.Machines.{near_at, whole_of}
use Rattle.tree_runs.specs.Passing.{IsForest, Took, only}
use Rattle.tree_runs.specs.Runs.{IsLeast, StandOn, above_by, input_on}
use Rattle.tree_runs.proofs.Flooring.{some_behind}
use Rattle.tree_runs.proofs.Joining.{took_then, took_nothing}
use Rattle.tree_runs.proofs.Lists.{packets-append}
use Rattle.tree_runs.proofs.Running.{items-append}
use Rattle.tree_runs.proofs.Telling.{child_input, root_input}

-- the packets among outputs start where these do
pub items_from : (floor : ℕ) (outs : List Out) → PacketsFrom floor outs → ItemsFrom floor (packets_of outs)
items_from floor [] from = tt
items_from floor (NoteOut note ∷ outs) from = items_from floor outs from
items_from floor (PieceOut piece ∷ outs) from = items_from floor outs from
items_from floor (PacketOut packet ∷ outs) from = (from.0, items_from floor outs from.1)

module _ {S : Type 0} (outputs : S → List Item → List Out) (setups : List S) (parents : List (Option ℕ)) (forest : IsForest parents) (count : length setups ≡ length parents)
    (keeps : (j : ℕ) → j < length parents → KeepsFront (whole_of outputs setups j)) where
  abbrev input : List ℕ → ℕ → List Item
  input samples j = input_on outputs setups parents samples j

  -- more samples add items to what an instance reads
  module _ (samples rest : List ℕ) where
    abbrev Grows : ℕ → Type 0
    Grows j = (more : List Item) × (input (samples ++ rest) j ≡ input samples j ++ more)

    -- what a child reads more of
    child_grows : (j p : ℕ) → slice_get parents j ≡ Some (Some p) → p < j → (new : List Out) → whole_of outputs setups p (input (samples ++ rest) p) ≡ whole_of outputs setups p (input samples p) ++ new → input (samples ++ rest) j ≡ input samples j ++ packets_of new
    child_grows j p at less new is =
        child_input outputs setups parents forest count (samples ++ rest) j p at less
        ∙ (ap packets_of is
        ∙ (packets-append (whole_of outputs setups p (input samples p)) new
        ∙ ap (λ (l : List Item). l ++ packets_of new) (sym (child_input outputs setups parents forest count samples j p at less))))

    pub root_grows : (j : ℕ) → slice_get parents j ≡ Some None → input (samples ++ rest) j ≡ input samples j ++ map Sample rest
    root_grows j at = root_input outputs setups parents forest count (samples ++ rest) j at ∙ (items-append samples rest ∙ ap (λ (l : List Item). l ++ map Sample rest) (sym (root_input outputs setups parents forest count samples j at)))

    grows_below : (n j : ℕ) → j < n → j < length parents → Grows j
    grows_below zero j low within = absurd (omega (arith, low))
    grows_below (suc n) j low within = by (λ p less. grows_below n p (omega (arith, less, low)) (omega (arith, less, within))) (get_or parents j None) (slice_get-get_or parents j None within)
      where
        by : ((p : ℕ) → p < j → Grows p) → (parent : Option ℕ) → slice_get parents j ≡ Some parent → Grows j
        by earlier None at = (map Sample rest, root_grows j at)
        by earlier (Some p) at =
            let less = forest j p at in
            let g = earlier p less in
            let k = keeps p (omega (arith, less, within)) (input samples p) g.0 in
            (packets_of k.0, child_grows j p at less k.0 (ap (whole_of outputs setups p) g.1 ∙ k.1))

    pub input_grows : (j : ℕ) → j < length parents → Grows j
    input_grows j within = grows_below (suc j) j (omega arith) within

    pub whole_grows : (j : ℕ) → j < length parents → (new : List Out) × (whole_of outputs setups j (input (samples ++ rest) j) ≡ whole_of outputs setups j (input samples j) ++ new)
    whole_grows j within =
        let g = input_grows j within in
        let k = keeps j within (input samples j) g.0 in
        (k.0, ap (whole_of outputs setups j) g.1 ∙ k.1)

  -- the floor of a root, and that of a child where its parent's is low
  pub root_low : (samples : List ℕ) (j floor : ℕ) → slice_get parents j ≡ Some None → IsFloorOver 0 (whole_of outputs setups j) (input samples j) floor → IsLow outputs setups parents samples j floor
  root_low samples j floor at holds more new is =
      holds (map Sample more) new (from_nought (map Sample more)) (ap (whole_of outputs setups j) (sym (root_grows samples more j at)) ∙ is)

  pub child_low : (samples : List ℕ) (j p above floor : ℕ) → slice_get parents j ≡ Some (Some p) → j < length parents → IsLow outputs setups parents samples p above → IsFloorOver above (whole_of outputs setups j) (input samples j) floor → IsLow outputs setups parents samples j floor
  child_low samples j p above floor at within low holds more new is =
      let less = forest j p at in
      let g = whole_grows samples more p (omega (arith, less, within)) in
      holds (packets_of g.0) new (items_from above g.0 (low more g.0 g.1).1) (ap (whole_of outputs setups j) (sym (child_grows samples more j p at less g.0 g.1)) ∙ is)

  module _ (near : S → List Item → ℕ → ℕ) (stand : ℕ → List Item → Type 0) where
    -- one floor more is known
    pub knows_next : (floors : List ℕ) (place floor : ℕ) → place < length floors → KnowsLow outputs setups parents near stand floors place
        → ((samples : List ℕ) → StandOn outputs setups parents stand samples → IsLow outputs setups parents samples place floor × (near_at near (slice_get setups place) (input samples place) (above_by (floor_in floors) (slice_get parents place)) ≤ floor))
        → KnowsLow outputs setups parents near stand (set floors place floor) (place + 1)
    knows_next floors place floor within knows low samples stood k below = by (nat_eq k place) refl
      where
        kept : (n : ℕ) → n < place → floor_in (set floors place floor) n ≡ floor_in floors n
        kept n less = get_or-set_other floors place n floor 0 (omega (arith, less))

        above_kept : (n : ℕ) → n ≤ place → above_by (floor_in (set floors place floor)) (slice_get parents n) ≡ above_by (floor_in floors) (slice_get parents n)
        above_kept n most = go (slice_get parents n) refl
          where
            go : (o : Option (Option ℕ)) → slice_get parents n ≡ o → above_by (floor_in (set floors place floor)) o ≡ above_by (floor_in floors) o
            go None is = refl
            go (Some None) is = refl
            go (Some (Some p)) is = let less = forest n p is in kept p (omega (arith, less, most))

        by : (b : Bool) → nat_eq k place ≡ b → IsLow outputs setups parents samples k (floor_in (set floors place floor) k) × IsLeast outputs near setups parents (floor_in (set floors place floor)) samples k
        by true is =
            let same : place ≡ k = grind (arith, nat_tests) in
            let here : floor_in (set floors place floor) place ≡ floor = get_or-set_same floors place floor 0 within in
            let l = low samples stood in
            subst (λ (n : ℕ). IsLow outputs setups parents samples n (floor_in (set floors place floor) n) × IsLeast outputs near setups parents (floor_in (set floors place floor)) samples n) same (
              subst (λ (f : ℕ). IsLow outputs setups parents samples place f) (sym here) l.0,
              subst (λ (p : ℕ × ℕ). near_at near (slice_get setups place) (input samples place) p.0 ≤ p.1) (λ i. (sym (above_kept place (omega arith)) i, sym here i)) l.1,
            )
        by false is =
            let other : k ≢ place = λ e. absurd (true≢false (sym (let same : nat_eq k place ≡ true = grind (arith, nat_tests, e) in same) ∙ is)) in
            let less : k < place = omega (arith, below, other) in
            let had = knows samples stood k less in (
              subst (λ (f : ℕ). IsLow outputs setups parents samples k f) (sym (kept k less)) had.0,
              subst (λ (p : ℕ × ℕ). near_at near (slice_get setups k) (input samples k) p.0 ≤ p.1) (λ i. (sym (above_kept k (omega (arith, less))) i, sym (kept k less) i)) had.1,
            )

    -- floors that were told one after another
    pub tells_nothing : (took : (ℕ → List Mark) → Type 0) (floors : List ℕ) → TellsLow outputs setups parents near stand true took took floors 0
    tells_nothing took floors = record { marks = λ j. []; took = took_nothing took; low = λ samples stood j. tt; some = λ e. absurd cc; these = λ j below. absurd (omega (arith, below)); none = λ j past. refl }

    are_append : (samples : List ℕ) (j : ℕ) (xs ys : List Mark) → AreLow outputs setups parents samples j xs → AreLow outputs setups parents samples j ys → AreLow outputs setups parents samples j (xs ++ ys)
    are_append samples j [] ys one other = other
    are_append samples j (FloorMark floor ∷ xs) ys one other = (one.0, are_append samples j xs ys one.1 other)
    are_append samples j (NoteMark note ∷ xs) ys one other = absurd one
    are_append samples j (PieceMark piece ∷ xs) ys one other = absurd one
    are_append samples j (EndMark ∷ xs) ys one other = absurd one

    -- one more
    pub tells_next : (done : Bool) {t0 t1 t2 : (ℕ → List Mark) → Type 0} (floors : List ℕ) (place floor : ℕ) → place < length floors → TellsLow outputs setups parents near stand true t0 t1 floors place → Took t1 t2 (only place (FloorMark floor ∷ []))
        → ((samples : List ℕ) → StandOn outputs setups parents stand samples → IsLow outputs setups parents samples place floor) → TellsLow outputs setups parents near stand done t0 t2 (set floors place floor) (place + 1)
    tells_next done {t0} {t1} {t2} floors place floor within p took low = record {
      marks = λ j. p.marks j ++ only place (FloorMark floor ∷ []) j;
      took = took_then t0 t1 t2 p.marks (only place (FloorMark floor ∷ [])) p.took took;
      low = λ samples stood j. are_append samples j (p.marks j) (only place (FloorMark floor ∷ []) j) (p.low samples stood j) (by samples j (nat_eq j place) refl (low samples stood));
      some = λ e. (place, some_behind (p.marks place) (only place (FloorMark floor ∷ []) place) (some_here (nat_eq place place) (let same : nat_eq place place ≡ true = grind (arith, nat_tests) in same)));
      these = λ j below. these_at j (nat_eq j place) refl below;
      none = λ j past. none_at j (nat_eq j place) refl past;
    }
      where
        by : (samples : List ℕ) (j : ℕ) (b : Bool) → nat_eq j place ≡ b → IsLow outputs setups parents samples place floor → AreLow outputs setups parents samples j (if b then FloorMark floor ∷ [] else [])
        by samples j true is low = let same : place ≡ j = grind (arith, nat_tests) in (subst (λ (k : ℕ). IsLow outputs setups parents samples k floor) same low, tt)
        by samples j false is low = tt

        some_here : (b : Bool) → b ≡ true → (if b then FloorMark floor ∷ [] else []) ≢ []
        some_here true is none = cc
        some_here false is none = cc

        these_at : (j : ℕ) (b : Bool) → nat_eq j place ≡ b → j < place + 1 → p.marks j ++ (if b then FloorMark floor ∷ [] else []) ≡ FloorMark (floor_in (set floors place floor) j) ∷ []
        these_at j true is below =
            let same : place ≡ j = grind (arith, nat_tests) in
            let here : floor_in (set floors place floor) j ≡ floor = ap (floor_in (set floors place floor)) (sym same) ∙ get_or-set_same floors place floor 0 within in
            ap (λ (l : List Mark). l ++ FloorMark floor ∷ []) (p.none j (omega (arith, same))) ∙ ap (λ (f : ℕ). FloorMark f ∷ []) (sym here)
        these_at j false is below =
            let other : j ≢ place = λ e. absurd (true≢false (sym (let same : nat_eq j place ≡ true = grind (arith, nat_tests, e) in same) ∙ is)) in
            append-nil (p.marks j) ∙ p.these j (omega (arith, below, other)) ∙ ap (λ (f : ℕ). FloorMark f ∷ []) (sym (get_or-set_other floors place j floor 0 other))

        none_at : (j : ℕ) (b : Bool) → nat_eq j place ≡ b → place + 1 ≤ j → p.marks j ++ (if b then FloorMark floor ∷ [] else []) ≡ []
        none_at j true is past = let same : place ≡ j = grind (arith, nat_tests) in absurd (omega (arith, same, past))
        none_at j false is past = append-nil (p.marks j) ∙ p.none j (omega (arith, past))
