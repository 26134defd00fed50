-- A run of which each feed is told.
use Rattle.std.proofs.Common.{◌≡◌, ℕ, Bool, List, [], ◌∷◌, ◌++◌, map, drop, length, get_or, slice_get, Option, Some, None, refl, sym, ◌∙◌, ap}
use Rattle.std.proofs.lemmas.Option.{slice_get-get_or}
use Rattle.la_base.specs.Runs.{samples_of}
use Rattle.la_base.specs.declared.samples.Run.{Run}
use Rattle.la_base.specs.declared.wires.Mark.{Mark}
use Rattle.la_base.specs.declared.wires.Out.{Out}
use Rattle.tree_io.specs.Feeds.{together}
use Rattle.decoder_core.specs.Inputs.{Item, Sample}
use Rattle.decoder_core.specs.declared.end.RunEnd.{RunEnd}
use Rattle.tree_runs.specs.Floors.{alone}
use Rattle.tree_runs.specs.Machines.{defined}
use Rattle.tree_runs.specs.Passing.{IsForest}
use Rattle.tree_runs.specs.Runs.{RunsOn, feeds_of, feeds_on, input_on, run_items, samples_in}
use Rattle.tree_runs.proofs.Running.{items-append, samples_of-append}
use Rattle.stack_laws.specs.Laws.{IsLawful}
use Rattle.stack_laws.proofs.Lists.{behind_front}
use Rattle.stack_laws.proofs.Rests.{rests_read}
use Rattle.stack_laws.proofs.Trees.{inputs_of}
use Rattle.stack_threads.specs.Runs.{InputsGrow, RunsBy}

together_alone : (items : List Item) → together (alone items) ≡ items
together_alone [] = refl
together_alone (x ∷ items) = ap (λ (l : List Item). x ∷ l) (together_alone items)

together_lists : (lists : List (List Run)) → together (map run_items lists) ≡ map Sample (samples_in lists)
together_lists [] = refl
together_lists (list ∷ lists) =
    ap (λ (l : List Item). run_items list ++ l) (together_lists lists) ∙ sym (items-append (samples_of list) (samples_in lists)) ∙ ap (map Sample) (sym (samples_of-append list (together lists)))

module _ {S : Type 0} (outputs : S → List Item → List Out) (near : S → List Item → ℕ → ℕ) (setups : List S) (parents : List (Option ℕ)) (forest : IsForest parents) (count : length setups ≡ length parents) (lawful : IsLawful parents (defined outputs near setups)) where
  abbrev input : List ℕ → ℕ → List Item
  input samples = input_on outputs setups parents samples

  pub inputs_grow : InputsGrow outputs setups parents
  inputs_grow samples lists j within = by (get_or parents j None) (slice_get-get_or parents j None within)
    where
      feeds_at : (place : Option (Option ℕ)) → slice_get parents j ≡ place → feeds_on outputs setups parents samples lists j ≡ feeds_of lists place (input samples j) (input (samples ++ samples_in lists) j)
      feeds_at place at = ap (λ (o : Option (Option ℕ)). feeds_of lists o (input samples j) (input (samples ++ samples_in lists) j)) at

      by : (parent : Option ℕ) → slice_get parents j ≡ Some parent → input (samples ++ samples_in lists) j ≡ input samples j ++ together (feeds_on outputs setups parents samples lists j)
      by None at =
          inputs_of outputs near setups parents forest count (samples ++ samples_in lists) j None at ∙ items-append samples (samples_in lists)
          ∙ (λ i. sym (inputs_of outputs near setups parents forest count samples j None at) i ++ sym (together_lists lists) i)
          ∙ ap (λ (l : List (List Item)). input samples j ++ together l) (sym (feeds_at (Some None) at))
      by (Some p) at =
          let read = rests_read parents (defined outputs near setups) samples (samples_in lists) (input samples) (input (samples ++ samples_in lists)) lawful (inputs_of outputs near setups parents forest count samples) (inputs_of outputs near setups parents forest count (samples ++ samples_in lists)) in
          behind_front (input samples j) (input (samples ++ samples_in lists) j) (read.0 j, read.2 j within)
          ∙ ap (λ (l : List Item). input samples j ++ l) (sym (together_alone (drop (length (input samples j)) (input (samples ++ samples_in lists) j))))
          ∙ ap (λ (l : List (List Item)). input samples j ++ together l) (sym (feeds_at (Some (Some p)) at))

-- where inputs grow by feeds, a run of which each feed is told is a run
pub exact_runs : {S : Type 0} {outputs : S → List Item → List Out} {near : S → List Item → ℕ → ℕ} {setups : List S} {parents : List (Option ℕ)} {before after : ℕ → List Item → Type 0} {gave_old gave_new : List (List Run) → Type 0} {took_old took_new : (ℕ → List Mark) → Type 0} {at_end : Bool}
    {result : RunEnd} → InputsGrow outputs setups parents → RunsOn outputs near setups parents before after gave_old gave_new took_old took_new at_end result → RunsBy outputs near setups parents before gave_old gave_new took_old took_new at_end result
exact_runs {outputs = outputs} {setups = setups} {parents = parents} grow run = record {
  lists = run.lists;
  marks = run.marks;
  gave = run.gave;
  took = run.took;
  told = λ samples stood j within. (feeds_on outputs setups parents samples run.lists j, grow samples run.lists j within, run.told samples stood j within);
}
