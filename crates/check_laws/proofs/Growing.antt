-- What an instance of a tree reads on more samples.
use Rattle.std.proofs.Common.{◌≡◌, ◌<◌, ℕ, zero, suc, List, ◌++◌, map, length, slice_get, get_or, Option, Some, None, sym, ◌∙◌, ap, arith}
use Rattle.std.proofs.lemmas.Option.{slice_get-get_or}
use Rattle.la_base.specs.declared.wires.Out.{Out}
use Rattle.decoder_core.specs.Inputs.{Item, Sample}
use Rattle.decoder_core.specs.Promises.{KeepsFront}
use Rattle.decoder_core.specs.Trees.{packets_of}
use Rattle.tree_runs.specs.Machines.{whole_of}
use Rattle.tree_runs.specs.Passing.{IsForest}
use Rattle.tree_runs.specs.Runs.{input_at, nodes_of}
use Rattle.tree_runs.proofs.Lists.{packets-append}
use Rattle.tree_runs.proofs.Running.{items-append}
use Rattle.tree_runs.proofs.Telling.{child_input, root_input}

module _ {S : Type 0} (outputs : S → List Item → List Out) (setups : List S) (parents : List (Option ℕ)) (forest : IsForest parents) (count : length setups ≡ length parents)
    (keeps : (j : ℕ) → j < length parents → KeepsFront (whole_of outputs setups j)) (samples rest : List ℕ) where
  abbrev Grows : ℕ → Type 0
  Grows j = (more : List Item) × (input_at outputs (nodes_of setups parents) (samples ++ rest) j ≡ input_at outputs (nodes_of setups parents) samples j ++ more)

  grows_below : (n j : ℕ) → j < n → j < length parents → Grows j
  grows_below zero j low within = absurd (omega (arith, low))
  grows_below (suc n) j low within = by (λ p less. grows_below n p (omega (arith, less, low)) (omega (arith, less, within))) (get_or parents j None) (slice_get-get_or parents j None within)
    where
      by : ((p : ℕ) → p < j → Grows p) → (parent : Option ℕ) → slice_get parents j ≡ Some parent → Grows j
      by earlier None at =
          (map Sample rest, root_input outputs setups parents forest count (samples ++ rest) j at ∙ (items-append samples rest ∙ ap (λ (l : List Item). l ++ map Sample rest) (sym (root_input outputs setups parents forest count samples j at))))
      by earlier (Some p) at =
          let less = forest j p at in
          let g = earlier p less in
          let whole = whole_of outputs setups p in
          let k = keeps p (omega (arith, less, within)) (input_at outputs (nodes_of setups parents) samples p) g.0 in (
            packets_of k.0,
            child_input outputs setups parents forest count (samples ++ rest) j p at less
                ∙ (ap (λ (l : List Item). packets_of (whole l)) g.1
                ∙ (ap packets_of k.1
                ∙ (packets-append (whole (input_at outputs (nodes_of setups parents) samples p)) k.0
                ∙ ap (λ (l : List Item). l ++ packets_of k.0) (sym (child_input outputs setups parents forest count samples j p at less))))),
          )

  pub grows : (j : ℕ) → j < length parents → Grows j
  grows j within = grows_below (suc j) j (omega arith) within
