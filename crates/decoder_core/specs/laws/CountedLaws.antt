-- What outputs of the samples that count promise, where outputs of samples promise it.
use Rattle.std.proofs.Common.{◌≡◌, inl, inr, ◌⊎◌, ℕ, zero, suc, ◌+◌, ◌^◌, ◌≤◌, List, [], ◌∷◌, ◌++◌}
use Rattle.std.proofs.Common.{take, length, refl, sym, ◌∙◌, ap, subst}
use Rattle.std.proofs.lemmas.List.{append-nil}
use Rattle.std.proofs.Math.Nat.{le-add_right}
use Rattle.la_base.specs.declared.wires.Out.{Out}
use Rattle.decoder_core.specs.Inputs.{Item, Sample, Pack, samples_in, counted_samples}
use Rattle.decoder_core.specs.Promises.{GivesNothing, KeepsFront, AddsFew}

pub take_none : (n : ℕ) → take {A = ℕ} n [] ≡ []
take_none zero = refl
take_none (suc n) = refl

pub samples_append : (xs ys : List Item) → samples_in (xs ++ ys) ≡ samples_in xs ++ samples_in ys
samples_append [] ys = refl
samples_append (Sample v ∷ xs) ys = ap (λ (l : List ℕ). v ∷ l) (samples_append xs ys)
samples_append (Pack p ∷ xs) ys = samples_append xs ys

-- the front of a longer list begins with that of the list
take_front : (n : ℕ) (xs ys : List ℕ) → (new : List ℕ) × (take n (xs ++ ys) ≡ take n xs ++ new)
take_front zero xs ys = ([], refl)
take_front (suc n) [] ys = (take (suc n) ys, refl)
take_front (suc n) (x ∷ xs) ys = let r = take_front n xs ys in (r.0, ap (λ (l : List ℕ). x ∷ l) r.1)

-- one more element belongs to a front or doesn't
take_one : (n : ℕ) (xs : List ℕ) (v : ℕ)
    → (take n (xs ++ v ∷ []) ≡ take n xs) ⊎ (take n (xs ++ v ∷ []) ≡ take n xs ++ v ∷ [])
take_one zero xs v = inl refl
take_one (suc n) [] v = inr (ap (λ (l : List ℕ). v ∷ l) (take_none n))
take_one (suc n) (x ∷ xs) v = elim (take_one n xs v) [
  | inl same ↦ inl (ap (λ (l : List ℕ). x ∷ l) same)
  | inr more ↦ inr (ap (λ (l : List ℕ). x ∷ l) more)
]

module _ (outs : List ℕ → List Out) where
  pub nothing_counted : GivesNothing outs → GivesNothing (λ input. outs (counted_samples input))
  unfolding counted_samples
  nothing_counted none = ap outs (take_none (2 ^ 60)) ∙ none

  pub front_counted : KeepsFront outs → KeepsFront (λ input. outs (counted_samples input))
  unfolding counted_samples
  front_counted keeps input more =
      let had = samples_in input in
      let r = take_front (2 ^ 60) had (samples_in more) in
      let k = keeps (take (2 ^ 60) had) r.0 in
      let parts = ap (λ (l : List ℕ). outs (take (2 ^ 60) l)) (samples_append input more) in
      (k.0, parts ∙ ap outs r.1 ∙ k.1)

  same_few : (more had : List ℕ) → more ≡ had → length (outs more) ≤ length (outs had) + 16
  same_few more had same =
      subst (λ (l : List ℕ). length (outs l) ≤ length (outs had) + 16) (sym same)
      (le-add_right (length (outs had)) 16)

  pub few_counted : AddsFew outs → AddsFew (λ input. outs (counted_samples input))
  unfolding counted_samples
  few_counted few input (Pack p) =
      same_few _ (take (2 ^ 60) (samples_in input))
      (ap (λ (l : List ℕ). take (2 ^ 60) l)
      (samples_append input (Pack p ∷ []) ∙ append-nil (samples_in input)))
  few_counted few input (Sample v) =
      let had = samples_in input in
      let parts = ap (λ (l : List ℕ). take (2 ^ 60) l) (samples_append input (Sample v ∷ [])) in
      elim (take_one (2 ^ 60) had v) [
        | inl same ↦ same_few _ (take (2 ^ 60) had) (parts ∙ same)
        | inr more ↦ subst
            (λ (l : List ℕ). length (outs l) ≤ length (outs (take (2 ^ 60) had)) + 16)
            (sym (parts ∙ more)) (few (take (2 ^ 60) had) v)
      ]
