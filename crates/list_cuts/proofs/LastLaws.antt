-- How the last place at which something holds goes on with a list.
use Rattle.std.proofs.Common.{◌≡◌, ℕ, zero, suc, ◌+◌, ◌<◌, Bool, true, false, cond, List, [], ◌∷◌, ◌++◌, length, Option, Some, None, refl, sym, ◌∙◌, ap, subst, arith}
use Rattle.std.specs.Prelude.{slice_get}
use Rattle.list_cuts.specs.LastWhere.{later_place, last_where, later_one, last_that, StandsLast}

module _ {X : Type 0} (test : X → Bool) where
  -- one more: its own place where it passes
  pub last_where_push : (xs : List X) (y : X) → last_where test (xs ++ y ∷ []) ≡ cond (test y) (Some (length xs)) (last_where test xs)
  last_where_push [] y = refl
  last_where_push (x ∷ xs) y = ap (λ (o : Option ℕ). later_place o (test x)) (last_where_push xs y) ∙ by (test y)
    where
      by : (b : Bool) → later_place (cond b (Some (length xs)) (last_where test xs)) (test x) ≡ cond b (Some (suc (length xs))) (later_place (last_where test xs) (test x))
      by true = refl
      by false = refl

  pub last_where_passes : (xs : List X) (y : X) → test y ≡ true → last_where test (xs ++ y ∷ []) ≡ Some (length xs)
  last_where_passes xs y is = last_where_push xs y ∙ ap (λ (b : Bool). cond b (Some (length xs)) (last_where test xs)) is

  pub last_where_fails : (xs : List X) (y : X) → test y ≡ false → last_where test (xs ++ y ∷ []) ≡ last_where test xs
  last_where_fails xs y is = last_where_push xs y ∙ ap (λ (b : Bool). cond b (Some (length xs)) (last_where test xs)) is

  -- one more: itself where it passes
  pub last_that_push : (xs : List X) (y : X) → last_that test (xs ++ y ∷ []) ≡ cond (test y) (Some y) (last_that test xs)
  last_that_push [] y = refl
  last_that_push (x ∷ xs) y = ap (λ (o : Option X). later_one o (test x) x) (last_that_push xs y) ∙ by (test y)
    where
      by : (b : Bool) → later_one (cond b (Some y) (last_that test xs)) (test x) x ≡ cond b (Some y) (later_one (last_that test xs) (test x) x)
      by true = refl
      by false = refl

  pub last_that_passes : (xs : List X) (y : X) → test y ≡ true → last_that test (xs ++ y ∷ []) ≡ Some y
  last_that_passes xs y is = last_that_push xs y ∙ ap (λ (b : Bool). cond b (Some y) (last_that test xs)) is

  pub last_that_fails : (xs : List X) (y : X) → test y ≡ false → last_that test (xs ++ y ∷ []) ≡ last_that test xs
  last_that_fails xs y is = last_that_push xs y ∙ ap (λ (b : Bool). cond b (Some y) (last_that test xs)) is

  -- where no place is found the head fails
  head_fails : (o : Option ℕ) (b : Bool) → later_place o b ≡ None → (o ≡ None) × (b ≡ false)
  head_fails (Some i) b e = absurd cc
  head_fails None true e = absurd cc
  head_fails None false e = (refl, refl)

  -- where there is no such place every element fails
  pub none_passes : (xs : List X) → last_where test xs ≡ None → (k : ℕ) (other : X) → slice_get xs k ≡ Some other → test other ≡ false
  none_passes [] none k other there = absurd cc
  none_passes (x ∷ xs) none zero other there =
      let same : x ≡ other = cc in
      ap test (sym same) ∙ (head_fails (last_where test xs) (test x) none).1
  none_passes (x ∷ xs) none (suc k) other there = none_passes xs (head_fails (last_where test xs) (test x) none).0 k other there

  -- and there is no such element
  pub none_that : (xs : List X) → last_where test xs ≡ None → last_that test xs ≡ None
  none_that [] none = refl
  none_that (x ∷ xs) none =
      let facts = head_fails (last_where test xs) (test x) none in
      λ i. later_one (none_that xs facts.0 i) (facts.1 i) x

  -- where every element fails there is no such place
  pub all_fail : (xs : List X) → ((k : ℕ) (other : X) → slice_get xs k ≡ Some other → test other ≡ false) → last_where test xs ≡ None
  all_fail [] fails = refl
  all_fail (x ∷ xs) fails = λ i. later_place (all_fail xs (λ k other there. fails (suc k) other there) i) (fails 0 x refl i)

  -- an element that passes and behind which none does
  stands_here : (x : X) (xs : List X) → test x ≡ true → last_where test xs ≡ None → StandsLast test (x ∷ xs) 0 x
  stands_here x xs is none = record { stands = refl; passes = is; behind = behind }
    where
      behind : (k : ℕ) (other : X) → 0 < k → slice_get (x ∷ xs) k ≡ Some other → test other ≡ false
      behind zero other above there = absurd (omega arith)
      behind (suc k) other above there = none_passes xs none k other there

  -- the last one of what stands behind the head
  stands_later : (x : X) (xs : List X) (place : ℕ) (element : X) → StandsLast test xs place element → StandsLast test (x ∷ xs) (suc place) element
  stands_later x xs place element last = record { stands = last.stands; passes = last.passes; behind = behind }
    where
      behind : (k : ℕ) (other : X) → suc place < k → slice_get (x ∷ xs) k ≡ Some other → test other ≡ false
      behind zero other above there = absurd (omega arith)
      behind (suc k) other above there = last.behind k other (omega arith) there

  -- at the place stands an element that passes, which is the last that does
  pub stands_last : (xs : List X) (place : ℕ) → last_where test xs ≡ Some place → (element : X) × StandsLast test xs place element × (last_that test xs ≡ Some element)
  stands_last [] place at = absurd cc
  stands_last (x ∷ xs) place at = by (λ i e. stands_last xs i e) (last_where test xs) refl (test x) refl at
    where
      by : ((i : ℕ) → last_where test xs ≡ Some i → (element : X) × StandsLast test xs i element × (last_that test xs ≡ Some element)) → (o : Option ℕ) → last_where test xs ≡ o → (b : Bool) → test x ≡ b → later_place o b ≡ Some place → (element : X) × StandsLast test (x ∷ xs) place element × (last_that test (x ∷ xs) ≡ Some element)
      by ih (Some i) is b passes e =
          let found = ih i is in
          let same : suc i ≡ place = cc in
          let Stands : ℕ → Type 0 = λ p. StandsLast test (x ∷ xs) p found.0 in
          (found.0, subst Stands same (stands_later x xs i found.0 found.1), ap (λ (o : Option X). later_one o (test x) x) found.2)
      by ih None is true passes e =
          let same : 0 ≡ place = cc in
          let Stands : ℕ → Type 0 = λ p. StandsLast test (x ∷ xs) p x in
          (x, subst Stands same (stands_here x xs passes is), λ i. later_one (none_that xs is i) (passes i) x)
      by ih None is false passes e = absurd cc

  -- an element that passes and behind which none does is the one that is found
  pub found_last : (xs : List X) (place : ℕ) (element : X) → StandsLast test xs place element → (last_where test xs ≡ Some place) × (last_that test xs ≡ Some element)
  found_last [] place element last = let no : None ≡ Some element = last.stands in absurd cc
  found_last (x ∷ xs) zero element last =
      let same : x ≡ element = let s : Some x ≡ Some element = last.stands in cc in
      let none : last_where test xs ≡ None = all_fail xs (λ k other there. last.behind (suc k) other (omega arith) there) in
      let passes : test x ≡ true = ap test same ∙ last.passes in
      (λ i. later_place (none i) (passes i), (λ i. later_one (none_that xs none i) (passes i) x) ∙ ap (λ (e : X). Some e) same)
  found_last (x ∷ xs) (suc place) element last =
      let found = found_last xs place element (record { stands = last.stands; passes = last.passes; behind = λ k other above there. last.behind (suc k) other (omega arith) there }) in
      (ap (λ (o : Option ℕ). later_place o (test x)) found.0, ap (λ (o : Option X). later_one o (test x) x) found.1)

  -- the place is one of the list's
  pub within_list : (xs : List X) (place : ℕ) → last_where test xs ≡ Some place → place < length xs
  within_list [] place at = absurd cc
  within_list (x ∷ xs) place at = by (λ i e. within_list xs i e) (last_where test xs) refl (test x) at
    where
      by : ((i : ℕ) → last_where test xs ≡ Some i → i < length xs) → (o : Option ℕ) → last_where test xs ≡ o → (b : Bool) → later_place o b ≡ Some place → place < suc (length xs)
      by ih (Some i) is b e = let same : suc i ≡ place = cc in omega (arith, ih i is)
      by ih None is true e = let same : 0 ≡ place = cc in omega arith
      by ih None is false e = absurd cc

  -- more elements, none of which passes
  pub last_where_stays : (xs ys : List X) → last_where test ys ≡ None → last_where test (xs ++ ys) ≡ last_where test xs
  last_where_stays [] ys none = none
  last_where_stays (x ∷ xs) ys none = ap (λ (o : Option ℕ). later_place o (test x)) (last_where_stays xs ys none)

  pub last_that_stays : (xs ys : List X) → last_that test ys ≡ None → last_that test (xs ++ ys) ≡ last_that test xs
  last_that_stays [] ys none = none
  last_that_stays (x ∷ xs) ys none = ap (λ (o : Option X). later_one o (test x) x) (last_that_stays xs ys none)

  -- more elements, one of which passes
  pub last_where_moves : (xs ys : List X) (place : ℕ) → last_where test ys ≡ Some place → last_where test (xs ++ ys) ≡ Some (length xs + place)
  last_where_moves [] ys place at = let same : place ≡ 0 + place = omega arith in at ∙ ap (λ (n : ℕ). Some n) same
  last_where_moves (x ∷ xs) ys place at =
      let same : suc (length xs + place) ≡ suc (length xs) + place = omega arith in
      ap (λ (o : Option ℕ). later_place o (test x)) (last_where_moves xs ys place at) ∙ ap (λ (n : ℕ). Some n) same

  pub last_that_moves : (xs ys : List X) (element : X) → last_that test ys ≡ Some element → last_that test (xs ++ ys) ≡ Some element
  last_that_moves [] ys element at = at
  last_that_moves (x ∷ xs) ys element at = ap (λ (o : Option X). later_one o (test x) x) (last_that_moves xs ys element at)
