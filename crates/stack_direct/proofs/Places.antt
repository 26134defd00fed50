-- One machine among those of a tree.
use Rattle.std.proofs.Common.{◌≡◌, ◌≢◌, ◌<◌, ℕ, zero, suc, List, [], ◌∷◌, ◌++◌, length, map, get_or, set, slice_get, Option, Some, option_map, refl, sym, ◌∙◌, ap, subst, arith}
use Rattle.std.proofs.lemmas.List.{get_or-set_same, get_or-set_other, length-set}
use Rattle.std.proofs.lemmas.Option.{slice_get-get_or, slice_get-map}
use Rattle.la_base.specs.declared.samples.Run.{Run}
use Rattle.la_base.specs.declared.wires.Feed.{Feed}
use Rattle.la_base.specs.declared.wires.Out.{Out}
use Rattle.decoder_core.specs.Driving.{Steps, StepsRuns}
use Rattle.decoder_core.specs.Inputs.{Item}
use Rattle.tree_runs.specs.Machines.{Stand, StepsAt, StepsRunsAt, whole_of, outputs_at}

-- the setup of the machine at a place
pub setup_at : {M S : Type 0} (setup : M → S) (ms : List M) (i : ℕ) (d : M) → i < length ms → slice_get (map setup ms) i ≡ Some (setup (get_or ms i d))
setup_at setup ms i d within = slice_get-map setup ms i ∙ ap (option_map setup) (slice_get-get_or ms i d within)

module _ {M S : Type 0} (setup : M → S) (consumed : M → List Item → Type 0) (outputs : S → List Item → List Out) where
  -- a machine of the same setup leaves the setups
  pub same_setups : (ms : List M) (i : ℕ) (d after : M) → setup after ≡ setup (get_or ms i d) → map setup (set ms i after) ≡ map setup ms
  same_setups [] i d after same = refl
  same_setups (m ∷ ms) zero d after same = ap (λ (s : S). s ∷ map setup ms) same
  same_setups (m ∷ ms) (suc i) d after same = ap (λ (l : List S). setup m ∷ l) (same_setups ms i d after same)

  module _ (ms : List M) (i : ℕ) (within : i < length ms) (d : M) where
    whole_is : whole_of outputs (map setup ms) i ≡ outputs (setup (get_or ms i d))
    whole_is =
        let at : slice_get (map setup ms) i ≡ Some (setup (get_or ms i d)) = slice_get-map setup ms i ∙ ap (option_map setup) (slice_get-get_or ms i d within) in
        λ k input. outputs_at outputs (at k) input

    stands : (after : M) (input : List Item) → consumed after input → Stand consumed (set ms i after) i input
    stands after input c = (
      (let len : length (set ms i after) ≡ length ms = length-set ms i after in omega (arith, len, within)),
      λ d. subst (λ (x : M). consumed x input) (sym (get_or-set_same ms i after d within)) c,
    )

    stays : (after : M) (j : ℕ) → j ≢ i → (input : List Item) → Stand consumed ms j input → Stand consumed (set ms i after) j input
    stays after j other input st = (
      (let len : length (set ms i after) ≡ length ms = length-set ms i after in let w = st.0 in omega (arith, len, w)),
      λ d. subst (λ (x : M). consumed x input) (sym (get_or-set_other ms i j after d other)) (st.1 d),
    )

    pub steps_at : (after : M) (feed : Feed) (left : Option Feed) (into : List Out) → Steps (consumed (get_or ms i d)) (consumed after) (outputs (setup (get_or ms i d))) feed left into
        → StepsAt i (whole_of outputs (map setup ms)) (Stand consumed ms) (Stand consumed (set ms i after)) feed left into
    steps_at after feed left into s = record {
      here = record {
        front = s.front;
        split = s.split;
        some = s.some;
        more = s.more;
        consumes = λ input st. stands after (input ++ s.front) (s.consumes input (st.1 d));
        gives = λ input st. subst (λ (f : List Item → List Out). f (input ++ s.front) ≡ f input ++ into) (sym whole_is) (s.gives input (st.1 d));
      };
      others = stays after;
    }

    pub runs_at : (after : M) (samples : List ℕ) (rest : Option Run) (into : List Out) → StepsRuns (consumed (get_or ms i d)) (consumed after) (outputs (setup (get_or ms i d))) samples rest into
        → StepsRunsAt i (whole_of outputs (map setup ms)) (Stand consumed ms) (Stand consumed (set ms i after)) samples rest into
    runs_at after samples rest into s = record {
      here = record {
        front = s.front;
        split = s.split;
        consumes = λ input st. stands after (input ++ s.front) (s.consumes input (st.1 d));
        gives = λ input st. subst (λ (f : List Item → List Out). f (input ++ s.front) ≡ f input ++ into) (sym whole_is) (s.gives input (st.1 d));
      };
      others = stays after;
    }
