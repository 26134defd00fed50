-- Pointers behind one more phase.
use Rattle.std.proofs.Common.{◌≡◌, ℕ, ◌+◌, ◌<◌, Bool, true, false, List, [], ◌∷◌, ◌++◌, length, map}
use Rattle.std.proofs.Common.{drop, Option, Some, None, refl, ◌∙◌, ap, arith, length-append}
use Rattle.std.specs.List.{sum}
use Rattle.std.proofs.lemmas.List.{map-append, drop-append-le, drop_all}
use Rattle.std.proofs.lemmas.List.Sums.{sum_by_push}
use Rattle.list_cuts.specs.LastWhere.{last_where}
use Rattle.list_cuts.proofs.LastLaws.{last_that_passes, last_that_fails, last_where_passes}
use Rattle.list_cuts.proofs.LastLaws.{last_where_fails, within_list}
use Rattle.i2c_phases.specs.Phases.{Meaning}
use Rattle.i2c_phases.specs.Pointers.{of_last, pointer_behind, pointer_set, set_by, since}

module _ (sets : Meaning → Bool) (set_to : Meaning → ℕ) where
  pub set_passes : (before : List Meaning) (m : Meaning) → sets m ≡ true
      → pointer_set sets set_to (before ++ m ∷ []) ≡ set_to m
  set_passes before m is = ap (set_by set_to) (last_that_passes sets before m is)

  pub set_fails : (before : List Meaning) (m : Meaning) → sets m ≡ false
      → pointer_set sets set_to (before ++ m ∷ []) ≡ pointer_set sets set_to before
  set_fails before m is = ap (set_by set_to) (last_that_fails sets before m is)

  module _ (moves : Meaning → ℕ) where
    moved_last : (xs : List Meaning) (m : Meaning)
        → sum (map moves (xs ++ m ∷ [])) ≡ sum (map moves xs) + moves m
    moved_last xs m =
        ap sum (map-append moves xs (m ∷ [])) ∙ sum_by_push (λ x. x) (map moves xs) (moves m)

    pub behind_sets : (before : List Meaning) (m : Meaning) → sets m ≡ true
        → pointer_behind sets set_to moves (before ++ m ∷ []) ≡ set_to m
    behind_sets before m is =
        let none : drop (length before + 1) (before ++ m ∷ []) ≡ [] =
        drop_all (length before + 1) (before ++ m ∷ [])
        (let e = length-append before (m ∷ []) in omega (arith, e)) in
        let no_more : set_to m + 0 ≡ set_to m = omega arith in
        (λ i. set_passes before m is i + sum
        (map moves (since (before ++ m ∷ []) (last_where_passes sets before m is i))))
        ∙ ap (λ (l : List Meaning). set_to m + sum (map moves l)) none ∙ no_more

    pub behind_keeps : (before : List Meaning) (m : Meaning) → sets m ≡ false
        → pointer_behind sets set_to moves (before ++ m ∷ [])
        ≡ pointer_behind sets set_to moves before + moves m
    behind_keeps before m is =
        (λ i. set_fails before m is i + sum
        (map moves (since (before ++ m ∷ []) (last_where_fails sets before m is i))))
        ∙ by (last_where sets before) (λ k e. within_list sets before k e)
      where
        by : (k : Option ℕ) → ((n : ℕ) → k ≡ Some n → n < length before)
            → pointer_set sets set_to before + sum (map moves (since (before ++ m ∷ []) k))
            ≡ (pointer_set sets set_to before + sum (map moves (since before k))) + moves m
        by None low = let s = moved_last before m in omega (arith, s)
        by (Some k) low =
            let less = low k refl in
            let cut : drop (k + 1) (before ++ m ∷ []) ≡ drop (k + 1) before ++ m ∷ [] =
            drop-append-le (k + 1) before (m ∷ []) (omega (arith, less)) in
            let s : sum (map moves (drop (k + 1) (before ++ m ∷ [])))
            ≡ sum (map moves (drop (k + 1) before)) + moves m =
            ap (λ (l : List Meaning). sum (map moves l)) cut
            ∙ moved_last (drop (k + 1) before) m in
            omega (arith, s)

-- what is kept of the last phase is what is kept of this one
pub of_last_is : {X : Type 0} (kept : Meaning → X) (none : X) (before : List Meaning) (m : Meaning)
    → of_last kept none (before ++ m ∷ []) ≡ kept m
of_last_is kept none [] m = refl
of_last_is kept none (x ∷ []) m = refl
of_last_is kept none (x ∷ y ∷ before) m = of_last_is kept none (y ∷ before) m
