-- How the parts of a list go on with one more element.
use Rattle.std.specs.Prelude.{slice_get}
use Rattle.std.specs.List.{flat_map}
use Rattle.std.proofs.Common.{◌≡◌, ℕ, zero, suc, Bool, true, false, cond, List, [], ◌∷◌, ◌++◌, Option, Some, None, refl, sym, ◌∙◌, ap}
use Rattle.list_cuts.specs.Parts.{before_mark, first_mark, parts, IsPart, grow_last}

-- both branches alike
cond_append : {A : Type 0} (b : Bool) (xs ys zs ws t : List A) → xs ≡ zs ++ t → ys ≡ ws ++ t → cond b xs ys ≡ cond b zs ws ++ t
cond_append true xs ys zs ws t p q = p
cond_append false xs ys zs ws t p q = q

-- a list with y behind it, where it met no mark
abbrev pub joined : {X : Type 0} → X → List X → Option X → List X
joined y items None = items ++ y ∷ []
joined y items (Some e) = items

-- the first of two marks
abbrev pub first_of_two : {X : Type 0} → X → Option X → Option X
first_of_two y None = Some y
first_of_two y (Some e) = Some e

module _ {X : Type 0} (mark : X → Bool) where
  -- one more, at a mark, changes nothing before the first mark
  pub before_mark_mark : (xs : List X) (y : X) → mark y ≡ true → before_mark mark (xs ++ y ∷ []) ≡ before_mark mark xs
  before_mark_mark [] y is = ap (λ (b : Bool). cond b [] (y ∷ [])) is
  before_mark_mark (x ∷ xs) y is = ap (λ (l : List X). cond (mark x) [] (x ∷ l)) (before_mark_mark xs y is)

  -- it is the first mark where there was none
  pub first_mark_mark : (xs : List X) (y : X) → mark y ≡ true → first_mark mark (xs ++ y ∷ []) ≡ first_of_two y (first_mark mark xs)
  first_mark_mark [] y is = ap (λ (b : Bool). cond b (Some y) None) is
  first_mark_mark (x ∷ xs) y is = ap (λ (o : Option X). cond (mark x) (Some x) o) (first_mark_mark xs y is) ∙ by (mark x)
    where
      by : (b : Bool) → cond b (Some x) (first_of_two y (first_mark mark xs)) ≡ first_of_two y (cond b (Some x) (first_mark mark xs))
      by true = refl
      by false = refl

  module _ (y : X) (is : mark y ≡ false) where
    -- one more, at no mark, is not the first mark
    pub first_mark_stays : (xs : List X) → first_mark mark (xs ++ y ∷ []) ≡ first_mark mark xs
    first_mark_stays [] = ap (λ (b : Bool). cond b (Some y) None) is
    first_mark_stays (x ∷ xs) = ap (λ (o : Option X). cond (mark x) (Some x) o) (first_mark_stays xs)

    -- it stands before the first mark where there is none
    pub before_mark_joins : (xs : List X) → before_mark mark (xs ++ y ∷ []) ≡ joined y (before_mark mark xs) (first_mark mark xs)
    before_mark_joins [] = ap (λ (b : Bool). cond b [] (y ∷ [])) is
    before_mark_joins (x ∷ xs) = ap (λ (l : List X). cond (mark x) [] (x ∷ l)) (before_mark_joins xs) ∙ by (mark x) (first_mark mark xs)
      where
        by : (b : Bool) (o : Option X) → cond b [] (x ∷ joined y (before_mark mark xs) o) ≡ joined y (cond b [] (x ∷ before_mark mark xs)) (cond b (Some x) o)
        by true o = refl
        by false None = refl
        by false (Some e) = refl

  -- where there is no part there is no mark
  no_mark : (xs : List X) → parts mark xs ≡ [] → first_mark mark xs ≡ None
  no_mark [] none = refl
  no_mark (x ∷ xs) none = by (λ e. no_mark xs e) (mark x) none
    where
      by : (parts mark xs ≡ [] → first_mark mark xs ≡ None) → (b : Bool) → cond b ((x ∷ before_mark mark xs) ∷ parts mark xs) (parts mark xs) ≡ [] → cond b (Some x) (first_mark mark xs) ≡ None
      by ih true e = absurd cc
      by ih false e = ih e

  -- where there is a part there is a mark
  some_mark : (xs : List X) (q : List X) (qs : List (List X)) → parts mark xs ≡ q ∷ qs → (e : X) × (first_mark mark xs ≡ Some e)
  some_mark [] q qs some = absurd cc
  some_mark (x ∷ xs) q qs some = by (λ e. some_mark xs q qs e) (mark x) some
    where
      by : (parts mark xs ≡ q ∷ qs → (e : X) × (first_mark mark xs ≡ Some e)) → (b : Bool) → cond b ((x ∷ before_mark mark xs) ∷ parts mark xs) (parts mark xs) ≡ q ∷ qs → (e : X) × (cond b (Some x) (first_mark mark xs) ≡ Some e)
      by ih true e = (x, refl)
      by ih false e = ih e

  -- one more, at a mark: a new part
  pub parts_mark : (xs : List X) (y : X) → mark y ≡ true → parts mark (xs ++ y ∷ []) ≡ parts mark xs ++ (y ∷ []) ∷ []
  parts_mark [] y is = ap (λ (b : Bool). cond b ((y ∷ []) ∷ []) []) is
  parts_mark (x ∷ xs) y is =
      cond_append (mark x) _ _ _ _ ((y ∷ []) ∷ []) (λ i. (x ∷ before_mark_mark xs y is i) ∷ parts_mark xs y is i) (parts_mark xs y is)

  -- one more, at no mark: it joins the last part
  pub parts_join : (xs : List X) (y : X) → mark y ≡ false → parts mark (xs ++ y ∷ []) ≡ grow_last (parts mark xs) y
  parts_join [] y is = ap (λ (b : Bool). cond b ((y ∷ []) ∷ []) []) is
  parts_join (x ∷ xs) y is = by (parts_join xs y is) (mark x)
    where
      begins : parts mark (xs ++ y ∷ []) ≡ grow_last (parts mark xs) y → (ps : List (List X)) → parts mark xs ≡ ps → (x ∷ before_mark mark (xs ++ y ∷ [])) ∷ parts mark (xs ++ y ∷ []) ≡ grow_last ((x ∷ before_mark mark xs) ∷ ps) y
      begins ih [] e =
          let front : before_mark mark (xs ++ y ∷ []) ≡ before_mark mark xs ++ y ∷ [] = before_mark_joins y is xs ∙ ap (λ (o : Option X). joined y (before_mark mark xs) o) (no_mark xs e) in
          λ i. (x ∷ front i) ∷ (ih ∙ ap (λ (l : List (List X)). grow_last l y) e) i
      begins ih (q ∷ qs) e =
          let front : before_mark mark (xs ++ y ∷ []) ≡ before_mark mark xs = before_mark_joins y is xs ∙ ap (λ (o : Option X). joined y (before_mark mark xs) o) (some_mark xs q qs e).1 in
          λ i. (x ∷ front i) ∷ (ih ∙ ap (λ (l : List (List X)). grow_last l y) e) i

      by : parts mark (xs ++ y ∷ []) ≡ grow_last (parts mark xs) y → (b : Bool) → cond b ((x ∷ before_mark mark (xs ++ y ∷ [])) ∷ parts mark (xs ++ y ∷ [])) (parts mark (xs ++ y ∷ [])) ≡ grow_last (cond b ((x ∷ before_mark mark xs) ∷ parts mark xs) (parts mark xs)) y
      by ih true = begins ih (parts mark xs) refl
      by ih false = ih

  -- more, behind a mark: the parts of it
  pub parts_append : (xs : List X) (y : X) (ys : List X) → mark y ≡ true → parts mark (xs ++ y ∷ ys) ≡ parts mark xs ++ parts mark (y ∷ ys)
  parts_append [] y ys is = refl
  parts_append (x ∷ xs) y ys is =
      cond_append (mark x) _ _ _ _ (parts mark (y ∷ ys)) (λ i. (x ∷ before_mark_append xs i) ∷ parts_append xs y ys is i) (parts_append xs y ys is)
    where
      before_mark_append : (xs : List X) → before_mark mark (xs ++ y ∷ ys) ≡ before_mark mark xs
      before_mark_append [] = ap (λ (b : Bool). cond b [] (y ∷ before_mark mark ys)) is
      before_mark_append (x ∷ xs) = ap (λ (l : List X). cond (mark x) [] (x ∷ l)) (before_mark_append xs)

  -- what stands before the first mark and the parts are the list
  pub parts_whole : (xs : List X) → before_mark mark xs ++ flat_map (λ p. p) (parts mark xs) ≡ xs
  parts_whole [] = refl
  parts_whole (x ∷ xs) = by (parts_whole xs) (mark x)
    where
      by : before_mark mark xs ++ flat_map (λ p. p) (parts mark xs) ≡ xs → (b : Bool) → cond b [] (x ∷ before_mark mark xs) ++ flat_map (λ p. p) (cond b ((x ∷ before_mark mark xs) ∷ parts mark xs) (parts mark xs)) ≡ x ∷ xs
      by ih true = ap (λ (l : List X). x ∷ l) ih
      by ih false = ap (λ (l : List X). x ∷ l) ih

  no_mark_before : (xs : List X) (k : ℕ) (other : X) → slice_get (before_mark mark xs) k ≡ Some other → mark other ≡ false
  no_mark_before [] k other at = absurd cc
  no_mark_before (x ∷ xs) k other at = by (λ j e. no_mark_before xs j other e) (mark x) refl k at
    where
      by : ((j : ℕ) → slice_get (before_mark mark xs) j ≡ Some other → mark other ≡ false) → (b : Bool) → mark x ≡ b → (k : ℕ) → slice_get (cond b [] (x ∷ before_mark mark xs)) k ≡ Some other → mark other ≡ false
      by ih true is k e = absurd cc
      by ih false is zero e = let same : x ≡ other = cc in ap mark (sym same) ∙ is
      by ih false is (suc k) e = ih k e

  -- each part begins at a mark and has no other
  pub part_at : (xs : List X) (k : ℕ) (part : List X) → slice_get (parts mark xs) k ≡ Some part → IsPart mark part
  part_at [] k part at = absurd cc
  part_at (x ∷ xs) k part at = by (λ j e. part_at xs j part e) (mark x) refl k at
    where
      by : ((j : ℕ) → slice_get (parts mark xs) j ≡ Some part → IsPart mark part) → (b : Bool) → mark x ≡ b → (k : ℕ) → slice_get (cond b ((x ∷ before_mark mark xs) ∷ parts mark xs) (parts mark xs)) k ≡ Some part → IsPart mark part
      by ih true is zero e = let same : x ∷ before_mark mark xs ≡ part = cc in record { head = x; others = before_mark mark xs; is = sym same; begins = is; no_other = no_mark_before xs }
      by ih true is (suc k) e = ih k e
      by ih false is k e = ih k e

module _ {X : Type 0} where
  -- which part is the last one
  pub grow_last_at : (ps : List (List X)) (p : List X) (y : X) → grow_last (ps ++ p ∷ []) y ≡ ps ++ (p ++ y ∷ []) ∷ []
  grow_last_at [] p y = refl
  grow_last_at (q ∷ []) p y = refl
  grow_last_at (q ∷ r ∷ ps) p y = ap (λ (l : List (List X)). q ∷ l) (grow_last_at (r ∷ ps) p y)
