-- A tree of decoders that have read nothing.
use Rattle.std.proofs.Common.{◌≡◌, ◌<◌, ℕ, zero, suc, List, [], ◌∷◌, map, length, slice_get, get_or, Option, Some, None, sym, ◌∙◌, ap, subst, arith}
use Rattle.std.proofs.lemmas.Option.{slice_get-get_or}
use Rattle.la_base.specs.declared.wires.Out.{Out}
use Rattle.decoder_core.specs.Inputs.{Item}
use Rattle.decoder_core.specs.Promises.{GivesNothing}
use Rattle.decoder_core.specs.Trees.{packets_of}
use Rattle.tree_runs.specs.Machines.{whole_of}
use Rattle.tree_runs.specs.Passing.{IsForest}
use Rattle.tree_runs.specs.Runs.{StandOn, input_at, nodes_of}
use Rattle.tree_runs.proofs.Telling.{root_input, child_input}

pub nothing_at : {M S : Type 0} (setup : M → S) (outputs : S → List Item → List Out) → ((m : M) → GivesNothing (outputs (setup m))) → (ms : List M) (j : ℕ) → j < length ms → GivesNothing (whole_of outputs (map setup ms) j)
nothing_at setup outputs law [] j low = absurd (omega (arith, low))
nothing_at setup outputs law (m ∷ ms) zero low = law m
nothing_at setup outputs law (m ∷ ms) (suc j) low = nothing_at setup outputs law ms j (omega (arith, low))

module _ {S : Type 0} (outputs : S → List Item → List Out) (setups : List S) (parents : List (Option ℕ)) (forest : IsForest parents) (count : length setups ≡ length parents)
    (nothing : (j : ℕ) → j < length parents → GivesNothing (whole_of outputs setups j)) where
  none_below : (n j : ℕ) → j < n → j < length parents → input_at outputs (nodes_of setups parents) [] j ≡ []
  none_below zero j low within = absurd (omega (arith, low))
  none_below (suc n) j low within = by (λ p less. none_below n p (omega (arith, less, low)) (omega (arith, less, within))) (get_or parents j None) (slice_get-get_or parents j None within)
    where
      by : ((p : ℕ) → p < j → input_at outputs (nodes_of setups parents) [] p ≡ []) → (parent : Option ℕ) → slice_get parents j ≡ Some parent → input_at outputs (nodes_of setups parents) [] j ≡ []
      by earlier None at = root_input outputs setups parents forest count [] j at
      by earlier (Some p) at =
          let less = forest j p at in
          child_input outputs setups parents forest count [] j p at less ∙ ap (λ (l : List Item). packets_of (whole_of outputs setups p l)) (earlier p less) ∙ ap packets_of (nothing p (omega (arith, less, within)))

  -- an instance of a tree on no samples reads nothing
  pub reads_nothing : (j : ℕ) → j < length parents → input_at outputs (nodes_of setups parents) [] j ≡ []
  reads_nothing j within = none_below (suc j) j (omega arith) within

  pub fresh : (stand : ℕ → List Item → Type 0) → ((j : ℕ) → j < length parents → stand j []) → StandOn outputs setups parents stand []
  fresh stand new j within = subst (stand j) (sym (reads_nothing j within)) (new j within)
