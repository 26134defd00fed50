-- The sets of one or two alternatives, by their masks.
use Rattle.std.proofs.Common.{◌≡◌, ◌≢◌, ℕ, List, [], ◌∷◌, Some, refl, sym, subst, arith}
use Rattle.wait_cond.specs.Meets.{MeetsAt}
use Rattle.wait_cond.specs.Stops.{MetSet}
use Rattle.wait_cond.specs.Pairs.{OfAlt, SaysAll, SaysOne, SaysTwo, missing_in}
use Rattle.wait_cond.specs.declared.alt.Alt.{Alt}
use Rattle.wait_cond.specs.declared.pair.Masks.{Masks}
use Rattle.wait_cond.specs.declared.pair.Pair.{Pair}
use Rattle.wait_cond.proofs.Sets.{met_more, met_pass, none_yet}
use Rattle.wait_cond.proofs.PairLemmas.{held_by, none_missing}

module _ (before now from q : ℕ) where
  meets : (masks : Masks) (alt : Alt) → OfAlt masks alt → SaysAll alt → missing_in masks before now ≡ 0 → MeetsAt alt (Some before) now from q
  meets masks alt o all none = record { lines = held_by masks alt o all before now none; skipped = λ not. absurd (not all.skip) }

  misses : (masks : Masks) (alt : Alt) → OfAlt masks alt → SaysAll alt → missing_in masks before now ≢ 0 → ¬ MeetsAt alt (Some before) now from q
  misses masks alt o all some = λ m. absurd (some (none_missing masks alt o before now m.lines))

  empty : MetSet [] (Some before) now from q 0
  empty = none_yet (Some before) now from q

  one_met : (alt : Alt) → MeetsAt alt (Some before) now from q → MetSet (alt ∷ []) (Some before) now from q 1
  one_met alt m = met_more (Some before) now from q [] alt 0 empty 0 refl (omega arith) m

  one_not : (alt : Alt) → ¬ MeetsAt alt (Some before) now from q → MetSet (alt ∷ []) (Some before) now from q 0
  one_not alt m = met_pass (Some before) now from q [] alt 0 empty m

  module _ (pair : Pair) (alts : List Alt) where
    -- of one alternative
    pub one_yes : SaysOne pair alts → missing_in pair.one before now ≡ 0 → MetSet alts (Some before) now from q 1
    one_yes o none = subst (λ (l : List Alt). MetSet l (Some before) now from q 1) (sym o.is) (one_met o.alt (meets pair.one o.alt o.masks o.all none))

    pub one_no : SaysOne pair alts → missing_in pair.one before now ≢ 0 → MetSet alts (Some before) now from q 0
    one_no o some = subst (λ (l : List Alt). MetSet l (Some before) now from q 0) (sym o.is) (one_not o.alt (misses pair.one o.alt o.masks o.all some))

    -- of two
    pub both_yes : SaysTwo pair alts → missing_in pair.one before now ≡ 0 → missing_in pair.two before now ≡ 0 → MetSet alts (Some before) now from q 3
    both_yes o first second = subst (λ (l : List Alt). MetSet l (Some before) now from q 3) (sym o.is)
        (met_more (Some before) now from q (o.first ∷ []) o.second 1 (one_met o.first (meets pair.one o.first o.masks o.all first)) 1 refl (omega arith) (meets pair.two o.second o.others o.also second))

    pub first_yes : SaysTwo pair alts → missing_in pair.one before now ≡ 0 → missing_in pair.two before now ≢ 0 → MetSet alts (Some before) now from q 1
    first_yes o first second = subst (λ (l : List Alt). MetSet l (Some before) now from q 1) (sym o.is)
        (met_pass (Some before) now from q (o.first ∷ []) o.second 1 (one_met o.first (meets pair.one o.first o.masks o.all first)) (misses pair.two o.second o.others o.also second))

    pub second_yes : SaysTwo pair alts → missing_in pair.one before now ≢ 0 → missing_in pair.two before now ≡ 0 → MetSet alts (Some before) now from q 2
    second_yes o first second = subst (λ (l : List Alt). MetSet l (Some before) now from q 2) (sym o.is)
        (met_more (Some before) now from q (o.first ∷ []) o.second 0 (one_not o.first (misses pair.one o.first o.masks o.all first)) 1 refl (omega arith) (meets pair.two o.second o.others o.also second))

    pub neither : SaysTwo pair alts → missing_in pair.one before now ≢ 0 → missing_in pair.two before now ≢ 0 → MetSet alts (Some before) now from q 0
    neither o first second = subst (λ (l : List Alt). MetSet l (Some before) now from q 0) (sym o.is)
        (met_pass (Some before) now from q (o.first ∷ []) o.second 0 (one_not o.first (misses pair.one o.first o.masks o.all first)) (misses pair.two o.second o.others o.also second))
