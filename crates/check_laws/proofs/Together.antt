-- What an instance adds on the parts of a capture is together what it gives on the whole.
use Rattle.std.proofs.Common.{◌≡◌, ◌<◌, ℕ, List, [], ◌∷◌, ◌++◌, drop, length, Option, sym, ◌∙◌, ap, append_assoc}
use Rattle.std.proofs.lemmas.List.{append-nil}
use Rattle.std.proofs.Math.Seq.{drop-append_seam}
use Rattle.la_base.specs.declared.wires.Out.{Out}
use Rattle.decoder_core.specs.Inputs.{Item}
use Rattle.decoder_core.specs.Promises.{GivesNothing, KeepsFront}
use Rattle.tree_runs.specs.Machines.{whole_of}
use Rattle.tree_runs.specs.Passing.{IsForest}
use Rattle.tree_runs.specs.Runs.{input_on}
use Rattle.tree_runs.proofs.Fresh.{reads_nothing}
use Rattle.check_laws.specs.Parts.{adds_behind, all_of, given_on, parts_of}
use Rattle.check_laws.proofs.Growing.{grows}

module _ {S : Type 0} (outputs : S → List Item → List Out) (setups : List S) (parents : List (Option ℕ)) (forest : IsForest parents) (count : length setups ≡ length parents)
    (nothing : (j : ℕ) → j < length parents → GivesNothing (whole_of outputs setups j)) (keeps : (j : ℕ) → j < length parents → KeepsFront (whole_of outputs setups j)) where
  abbrev given : List ℕ → ℕ → List Out
  given samples j = given_on outputs setups parents samples j

  -- it gives nothing on no samples
  pub given_none : (j : ℕ) → j < length parents → given [] j ≡ []
  given_none j within = ap (whole_of outputs setups j) (reads_nothing outputs setups parents forest count nothing j within) ∙ nothing j within

  -- what it gives on more samples begins with what it gives on these
  pub goes_on : (earlier more : List ℕ) (j : ℕ) → j < length parents → given (earlier ++ more) j ≡ given earlier j ++ adds_behind outputs setups parents earlier more j
  goes_on earlier more j within =
      let g = grows outputs setups parents forest count keeps earlier more j within in
      let k = keeps j within (input_on outputs setups parents earlier j) g.0 in
      let is : given (earlier ++ more) j ≡ given earlier j ++ k.0 = ap (whole_of outputs setups j) g.1 ∙ k.1 in
      is ∙ ap (λ (l : List Out). given earlier j ++ l) (sym (ap (drop (length (given earlier j))) is ∙ drop-append_seam (given earlier j) k.0))

  all_behind : (pieces : List (List ℕ)) (earlier : List ℕ) (j : ℕ) → j < length parents → given (earlier ++ all_of pieces) j ≡ given earlier j ++ parts_of outputs setups parents earlier pieces j
  all_behind [] earlier j within = ap (λ (l : List ℕ). given l j) (append-nil earlier) ∙ sym (append-nil (given earlier j))
  all_behind (piece ∷ pieces) earlier j within =
      ap (λ (l : List ℕ). given l j) (sym (append_assoc earlier piece (all_of pieces)))
      ∙ all_behind pieces (earlier ++ piece) j within
      ∙ ap (λ (l : List Out). l ++ parts_of outputs setups parents (earlier ++ piece) pieces j) (goes_on earlier piece j within)
      ∙ append_assoc (given earlier j) (adds_behind outputs setups parents earlier piece j) (parts_of outputs setups parents (earlier ++ piece) pieces j)

  pub together : (pieces : List (List ℕ)) (j : ℕ) → j < length parents → given (all_of pieces) j ≡ parts_of outputs setups parents [] pieces j
  together pieces j within = all_behind pieces [] j within ∙ ap (λ (l : List Out). l ++ parts_of outputs setups parents [] pieces j) (given_none j within)
