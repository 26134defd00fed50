-- One round of each program's loop.
use Rattle.std.proofs.Common.{◌≡◌, ℕ, ◌+◌, ◌<◌, ◌≤◌, Bool, true, false, List, [], ◌∷◌, ◌++◌, map, take, drop, length, get_or, Option, Some, None, sym, ◌∙◌, ap, arith, append_assoc, length-take-le, take-append-drop}
use Rattle.std.proofs.lemmas.List.{take_more, map-append, append-nil}
use Rattle.list_cuts.specs.Groups.{groups, after_groups}
use Rattle.list_cuts.specs.LastWhere.{last_where, last_that}
use Rattle.list_cuts.specs.Neighbours.{at_neighbours, last_of}
use Rattle.list_cuts.proofs.GroupLaws.{groups_first, groups_of_none, groups_short, after_groups_first}
use Rattle.list_cuts.proofs.LastLaws.{last_where_passes, last_where_fails, last_that_passes, last_that_fails}
use Rattle.list_cuts.proofs.NeighbourLaws.{at_neighbours_push, last_from_push}

module _ {X : Type 0} (xs : List X) (i : ℕ) (x : X) (within : i < length xs) (is : x ≡ get_or xs i x) where
  next_taken : take (i + 1) xs ≡ take i xs ++ x ∷ []
  next_taken = take_more xs i x within ∙ ap (λ (y : X). take i xs ++ y ∷ []) (sym is)

  taken_length : length (take i xs) ≡ i
  taken_length = length-take-le i xs (omega arith)

  module _ (test : X → Bool) (b : Bool) (tells : b ≡ test x) where
    pub place_passes : (now : Option ℕ) → now ≡ Some i → b ≡ true → now ≡ last_where test (take (i + 1) xs)
    place_passes now now_is yes_it =
        now_is ∙ sym (ap (λ (l : List X). last_where test l) next_taken ∙ last_where_passes test (take i xs) x (sym tells ∙ yes_it) ∙ ap (λ (n : ℕ). Some n) taken_length)

    pub place_fails : (now before : Option ℕ) → now ≡ before → before ≡ last_where test (take i xs) → b ≡ false → now ≡ last_where test (take (i + 1) xs)
    place_fails now before now_is so_far not_it =
        now_is ∙ so_far ∙ sym (ap (λ (l : List X). last_where test l) next_taken ∙ last_where_fails test (take i xs) x (sym tells ∙ not_it))

    pub that_passes : (now : Option X) → now ≡ Some x → b ≡ true → now ≡ last_that test (take (i + 1) xs)
    that_passes now now_is yes_it =
        now_is ∙ sym (ap (λ (l : List X). last_that test l) next_taken ∙ last_that_passes test (take i xs) x (sym tells ∙ yes_it))

    pub that_fails : (now before : Option X) → now ≡ before → before ≡ last_that test (take i xs) → b ≡ false → now ≡ last_that test (take (i + 1) xs)
    that_fails now before now_is so_far not_it =
        now_is ∙ so_far ∙ sym (ap (λ (l : List X). last_that test l) next_taken ∙ last_that_fails test (take i xs) x (sym tells ∙ not_it))

  pub events_more : {E : Type 0} (f : ℕ → Option X → X → List E) (old new : List E) (before : Option X) → (old ≡ at_neighbours f (take i xs)) × (before ≡ last_of (take i xs)) → new ≡ old ++ f i before x → (new ≡ at_neighbours f (take (i + 1) xs)) × (Some x ≡ last_of (take (i + 1) xs))
  events_more f old new before so_far gave =
      let place : i ≡ length (take i xs) = sym taken_length in (
        gave
            ∙ (λ j. so_far.0 j ++ f (place j) (so_far.1 j) x)
            ∙ sym (at_neighbours_push f (take i xs) x)
            ∙ sym (ap (λ l. at_neighbours f l) next_taken),
        sym (ap (λ l. last_of l) next_taken ∙ last_from_push (take i xs) x None),
      )

module _ {X : Type 0} (n : ℕ) (some : 0 < n) (rest front behind : List X) (long : n ≤ length rest) (front_is : front ≡ take n rest) (behind_is : behind ≡ drop n rest) where
  split : rest ≡ front ++ behind
  split = sym (take-append-drop n rest) ∙ (λ i. sym front_is i ++ sym behind_is i)

  front_length : length front ≡ n
  front_length = ap (λ l. length l) front_is ∙ length-take-le n rest long

  pub groups_more : {V : Type 0} (items : V → List X) (lists new : List V) (v : V) (all : List (List X)) → new ≡ lists ++ v ∷ [] → items v ≡ front → map items lists ++ groups n rest ≡ all → map items new ++ groups n behind ≡ all
  groups_more items lists new v all pushed is so_far =
      ap (λ l. map items l ++ groups n behind) pushed
      ∙ ap (λ l. l ++ groups n behind) (map-append items lists (v ∷ []) ∙ ap (λ l. map items lists ++ l ∷ []) is)
      ∙ append_assoc (map items lists) (front ∷ []) (groups n behind)
      ∙ ap (λ l. map items lists ++ l) (sym (ap (λ l. groups n l) split ∙ groups_first n some front behind front_length))
      ∙ so_far

  pub behind_more : (all : List X) → after_groups n rest ≡ all → after_groups n behind ≡ all
  behind_more all so_far = sym (ap (λ l. after_groups n l) split ∙ after_groups_first n some front behind front_length) ∙ so_far

module _ {X V : Type 0} (items : V → List X) where
  pub no_groups : (lists : List V) (n : ℕ) (xs : List X) → lists ≡ [] → n ≡ 0 → map items lists ≡ groups n xs
  no_groups lists n xs none is = ap (λ l. map items l) none ∙ sym (groups_of_none n xs is)

  pub groups_done : (lists : List V) (n : ℕ) (some : 0 < n) (rest : List X) (all : List (List X)) → length rest < n → map items lists ++ groups n rest ≡ all → map items lists ≡ all
  groups_done lists n some rest all few so_far = sym (append-nil (map items lists)) ∙ ap (λ l. map items lists ++ l) (sym (groups_short n some rest few)) ∙ so_far
