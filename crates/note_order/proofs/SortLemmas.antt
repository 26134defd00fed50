-- A list that is sorted, and in which ties kept their order, is the list in order.
use Rattle.std.proofs.Common.{◌≡◌, ℕ, zero, suc, ◌+◌, ◌<◌, Bool, true, false, not, cond, ◌&&◌, List, [], ◌∷◌, length, get_or, refl, sym, ◌∙◌, ap, arith}
use Rattle.std.specs.List.{filter}
use Rattle.std.specs.List.Sorted.{IsSortedBy, IsStableBy, ties}
use Rattle.std.specs.Cmp.{IsStrictWeakOrder}
use Rattle.std.proofs.lemmas.List.Sorted.{sorted_far}
use Rattle.note_order.specs.Sorting.{inserted, sorted}

module _ {X : Type 0} (lt : X → X → Bool) (o : IsStrictWeakOrder lt) where
  -- one place further on behind a first element
  moved : (x : X) (xs : List X) (n k : ℕ) (d : X) → n ≡ suc k → get_or (x ∷ xs) n d ≡ get_or xs k d
  moved x xs n k d e = ap (λ (m : ℕ). get_or (x ∷ xs) m d) e

  same_pair : (x : X) (xs : List X) (k : ℕ) (d : X) → lt (get_or (x ∷ xs) (suc k + 1) d) (get_or xs k d) ≡ lt (get_or xs (k + 1) d) (get_or xs k d)
  same_pair x xs k d = let e : suc k + 1 ≡ suc (k + 1) = omega arith in ap (λ (v : X). lt v (get_or xs k d)) (moved x xs (suc k + 1) (k + 1) d e)

  -- a sorted list without its first element
  shorter : (x : X) (xs : List X) → IsSortedBy lt (x ∷ xs) → IsSortedBy lt xs
  shorter x xs up k d low high = sym (same_pair x xs k d) ∙ up (suc k) d (omega arith) (omega (arith, high))

  -- no element is less than the one before it
  abbrev pub Rises : List X → Type 0
  Rises [] = Unit {0}
  Rises (x ∷ []) = Unit {0}
  Rises (x ∷ y ∷ xs) = (lt y x ≡ false) × Rises (y ∷ xs)

  rises : (xs : List X) → IsSortedBy lt xs → Rises xs
  rises [] up = tt
  rises (x ∷ []) up = tt
  rises (x ∷ y ∷ xs) up = (up 0 x (omega arith) (omega arith), rises (y ∷ xs) (shorter x (y ∷ xs) up))

  pub is_sorted : (xs : List X) → Rises xs → IsSortedBy lt xs
  is_sorted [] up k d low high = absurd (omega (arith, high))
  is_sorted (x ∷ []) up k d low high = absurd (omega (arith, high))
  is_sorted (x ∷ y ∷ xs) up zero d low high = up.0
  is_sorted (x ∷ y ∷ xs) up (suc k) d low high = same_pair x (y ∷ xs) k d ∙ is_sorted (y ∷ xs) up.1 k d (omega arith) (omega (arith, high))

  -- an element that isn't less than what stands before the others
  after : (y x : X) (ys : List X) → lt y x ≡ true → Rises (y ∷ ys) → Rises (inserted lt x ys) → Rises (y ∷ inserted lt x ys)
  after y x [] less up rest = (o.one_way y x less, tt)
  after y x (z ∷ ys) less up rest = by (lt z x) refl rest
    where
      by : (b : Bool) → lt z x ≡ b → Rises (cond b (z ∷ inserted lt x ys) (x ∷ z ∷ ys)) → Rises (y ∷ cond b (z ∷ inserted lt x ys) (x ∷ z ∷ ys))
      by true is r = (up.0, r)
      by false is r = (o.one_way y x less, r)

  inserted_rises : (x : X) (ys : List X) → Rises ys → Rises (inserted lt x ys)
  inserted_rises x [] up = tt
  inserted_rises x (y ∷ ys) up = by (lt y x) refl (inserted_rises x ys (tail ys up))
    where
      tail : (ys : List X) → Rises (y ∷ ys) → Rises ys
      tail [] up = tt
      tail (z ∷ ys) up = up.1

      by : (b : Bool) → lt y x ≡ b → Rises (inserted lt x ys) → Rises (cond b (y ∷ inserted lt x ys) (x ∷ y ∷ ys))
      by true is rest = after y x ys is up rest
      by false is rest = (is, up)

  sorted_rises : (xs : List X) → Rises (sorted lt xs)
  sorted_rises [] = tt
  sorted_rises (x ∷ xs) = inserted_rises x (sorted lt xs) (sorted_rises xs)

  pub sorted_is_sorted : (xs : List X) → IsSortedBy lt (sorted lt xs)
  sorted_is_sorted xs = is_sorted (sorted lt xs) (sorted_rises xs)

  -- ties of an element, where one is put in
  put_in : (a x : X) (ys : List X) → filter (ties lt a) (inserted lt x ys) ≡ filter (ties lt a) (x ∷ ys)
  put_in a x [] = refl
  put_in a x (y ∷ ys) = by (lt y x) refl (put_in a x ys)
    where
      same : (p q : Bool) (rest : List X) → (p ≡ true → q ≡ true → ⊥) → cond q (y ∷ cond p (x ∷ rest) rest) (cond p (x ∷ rest) rest) ≡ cond p (x ∷ cond q (y ∷ rest) rest) (cond q (y ∷ rest) rest)
      same true true rest never = absurd (never refl refl)
      same true false rest never = refl
      same false true rest never = refl
      same false false rest never = refl

      lacks : (p q : Bool) → (not p && not q) ≡ true → (p ≡ false) × (q ≡ false)
      lacks true true e = cc
      lacks true false e = cc
      lacks false true e = cc
      lacks false false e = (refl, refl)

      never : lt y x ≡ true → ties lt a x ≡ true → ties lt a y ≡ true → ⊥
      never less tie_x tie_y =
          let x_no = lacks (lt a x) (lt x a) tie_x in
          let y_no = lacks (lt a y) (lt y a) tie_y in
          let no = o.chain y a x y_no.1 x_no.0 in cc

      by : (b : Bool) → lt y x ≡ b → filter (ties lt a) (inserted lt x ys) ≡ filter (ties lt a) (x ∷ ys)
          → filter (ties lt a) (cond b (y ∷ inserted lt x ys) (x ∷ y ∷ ys)) ≡ filter (ties lt a) (x ∷ y ∷ ys)
      by true is rest =
          ap (λ (l : List X). cond (ties lt a y) (y ∷ l) l) rest
          ∙ same (ties lt a x) (ties lt a y) (filter (ties lt a) ys) (never is)
      by false is rest = refl

  pub sorted_is_stable : (xs : List X) → IsStableBy lt xs (sorted lt xs)
  sorted_is_stable [] a = refl
  sorted_is_stable (x ∷ xs) a = put_in a x (sorted lt xs) ∙ ap (λ (l : List X). cond (ties lt a x) (x ∷ l) l) (sorted_is_stable xs a)

  -- an element ties with itself
  self_tie : (x : X) → ties lt x x ≡ true
  self_tie x = by (lt x x) refl
    where
      by : (b : Bool) → lt x x ≡ b → (not b && not b) ≡ true
      by true is = let no = o.one_way x x is in cc
      by false is = refl

  -- what passes a test stands somewhere
  some_pass : (p : X → Bool) (xs : List X) (a : X) (rest : List X) → filter p xs ≡ a ∷ rest → (k : ℕ) × (k < length xs) × ((d : X) → p (get_or xs k d) ≡ true)
  some_pass p [] a rest e = cc
  some_pass p (x ∷ xs) a rest e = by (p x) refl e (some_pass p xs a rest)
    where
      by : (b : Bool) → p x ≡ b → cond b (x ∷ filter p xs) (filter p xs) ≡ a ∷ rest → (filter p xs ≡ a ∷ rest → (k : ℕ) × (k < length xs) × ((d : X) → p (get_or xs k d) ≡ true))
          → (k : ℕ) × (k < length (x ∷ xs)) × ((d : X) → p (get_or (x ∷ xs) k d) ≡ true)
      by true is e more = (0, omega arith, λ d. is)
      by false is e more = let r = more e in (suc r.0, omega (arith, r.1), r.2)

  -- where some element of a sorted list ties with y, y isn't less than the first
  not_before : (y z : X) (zs : List X) → IsSortedBy lt (z ∷ zs) → (a : X) (rest : List X) → filter (ties lt y) (z ∷ zs) ≡ a ∷ rest → lt y z ≡ false
  not_before y z zs up a rest e =
      let r = some_pass (ties lt y) (z ∷ zs) a rest e in
      let far = sorted_far lt o (z ∷ zs) up 0 r.0 z (omega arith) r.1 in
      o.chain y (get_or (z ∷ zs) r.0 z) z (first (lt y (get_or (z ∷ zs) r.0 z)) (lt (get_or (z ∷ zs) r.0 z) y) (r.2 z)) far
    where
      first : (p q : Bool) → (not p && not q) ≡ true → p ≡ false
      first true true e = cc
      first true false e = cc
      first false q e = refl

  one_list : (ys zs : List X) → IsSortedBy lt ys → IsSortedBy lt zs → ((x : X) → filter (ties lt x) ys ≡ filter (ties lt x) zs) → ys ≡ zs
  one_list [] [] up also same = refl
  one_list [] (z ∷ zs) up also same = let e : [] ≡ z ∷ filter (ties lt z) zs = same z ∙ ap (λ (b : Bool). cond b (z ∷ filter (ties lt z) zs) (filter (ties lt z) zs)) (self_tie z) in cc
  one_list (y ∷ ys) [] up also same = let e : y ∷ filter (ties lt y) ys ≡ [] = sym (ap (λ (b : Bool). cond b (y ∷ filter (ties lt y) ys) (filter (ties lt y) ys)) (self_tie y)) ∙ same y in cc
  one_list (y ∷ ys) (z ∷ zs) up also same =
      let mine : filter (ties lt y) (y ∷ ys) ≡ y ∷ filter (ties lt y) ys = ap (λ (b : Bool). cond b (y ∷ filter (ties lt y) ys) (filter (ties lt y) ys)) (self_tie y) in
      let other : filter (ties lt z) (z ∷ zs) ≡ z ∷ filter (ties lt z) zs = ap (λ (b : Bool). cond b (z ∷ filter (ties lt z) zs) (filter (ties lt z) zs)) (self_tie z) in
      let below = not_before y z zs also y (filter (ties lt y) ys) (sym (same y) ∙ mine) in
      let above = not_before z y ys up z (filter (ties lt z) zs) (same z ∙ other) in
      let tie : ties lt y z ≡ true = ap (λ (b : Bool). not b && not (lt z y)) below ∙ ap not above in
      let theirs : filter (ties lt y) (z ∷ zs) ≡ z ∷ filter (ties lt y) zs = ap (λ (b : Bool). cond b (z ∷ filter (ties lt y) zs) (filter (ties lt y) zs)) tie in
      let heads : y ∷ filter (ties lt y) ys ≡ z ∷ filter (ties lt y) zs = sym mine ∙ same y ∙ theirs in
      let head : y ≡ z = cc in
      joined head (one_list ys zs (shorter y ys up) (shorter z zs also) (λ x. behind head (ties lt x y) (ties lt x z) (ap (ties lt x) head) (filter (ties lt x) ys) (filter (ties lt x) zs) (same x)))
    where
      joined : y ≡ z → ys ≡ zs → y ∷ ys ≡ z ∷ zs
      joined head tail = λ i. head i ∷ tail i

      behind : y ≡ z → (p q : Bool) → p ≡ q → (ps qs : List X) → cond p (y ∷ ps) ps ≡ cond q (z ∷ qs) qs → ps ≡ qs
      behind head true true is ps qs e = cc
      behind head true false is ps qs e = cc
      behind head false true is ps qs e = cc
      behind head false false is ps qs e = e

  -- there is one such list
  pub sorted_is_one : (xs ys : List X) → IsSortedBy lt ys → IsStableBy lt xs ys → ys ≡ sorted lt xs
  sorted_is_one xs ys up stable = one_list ys (sorted lt xs) up (sorted_is_sorted xs) (λ x. stable x ∙ sym (sorted_is_stable xs x))
