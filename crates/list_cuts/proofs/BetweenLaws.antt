-- How the parts between beginnings and ends go on with one more element.
use Rattle.std.specs.Prelude.{◌||◌, slice_get}
use Rattle.std.proofs.Common.{◌≡◌, ℕ, zero, suc, ◌<◌, length, arith, Bool, true, false, cond, List, [], ◌∷◌, ◌++◌, map, Option, Some, None, refl, sym, ◌∙◌, ap}
use Rattle.std.proofs.lemmas.List.{append-nil}
use Rattle.list_cuts.specs.Parts.{before_mark, first_mark, parts, Part, part_from, cuts, parts_between, longer, ended, grow_open, end_open}
use Rattle.list_cuts.proofs.PartLaws.{joined, first_of_two, before_mark_mark, first_mark_mark, first_mark_stays, before_mark_joins}

module _ {X : Type 0} (begins ends : X → Bool) where
  abbrev cut : X → Bool
  cut = cuts begins ends

  -- where there is a part, something begins or ends one
  some_cut : (xs : List X) (q : Part X) (qs : List (Part X)) → parts_between begins ends xs ≡ q ∷ qs → (e : X) × (first_mark cut xs ≡ Some e)
  some_cut [] q qs some = absurd cc
  some_cut (x ∷ xs) q qs some = by (λ e. some_cut xs q qs e) (begins x) (ends x) some
    where
      by : (parts_between begins ends xs ≡ q ∷ qs → (e : X) × (first_mark cut xs ≡ Some e)) → (b c : Bool) → cond b (part_from cut x xs ∷ parts_between begins ends xs) (parts_between begins ends xs) ≡ q ∷ qs → (e : X) × (cond (b || c) (Some x) (first_mark cut xs) ≡ Some e)
      by ih true c e = (x, refl)
      by ih false true e = (x, refl)
      by ih false false e = ih e

  -- each part but the last was ended
  pub ended_before : (xs : List X) (k : ℕ) (part : Part X) → slice_get (parts_between begins ends xs) k ≡ Some part → suc k < length (parts_between begins ends xs) → (e : X) × (part.ended_by ≡ Some e)
  ended_before [] k part at before = absurd cc
  ended_before (x ∷ xs) k part at before = by (λ j e l. ended_before xs j part e l) (begins x) k at before
    where
      first : (ps : List (Part X)) → parts_between begins ends xs ≡ ps → part_from cut x xs ≡ part → 1 < suc (length ps) → (e : X) × (part.ended_by ≡ Some e)
      first [] is same more = absurd (omega arith)
      first (q ∷ qs) is same more = let mark = some_cut xs q qs is in (mark.0, ap (λ (p : Part X). p.ended_by) (sym same) ∙ mark.1)

      by : ((j : ℕ) → slice_get (parts_between begins ends xs) j ≡ Some part → suc j < length (parts_between begins ends xs) → (e : X) × (part.ended_by ≡ Some e)) → (b : Bool) → (k : ℕ) → slice_get (cond b (part_from cut x xs ∷ parts_between begins ends xs) (parts_between begins ends xs)) k ≡ Some part → suc k < length (cond b (part_from cut x xs ∷ parts_between begins ends xs) (parts_between begins ends xs)) → (e : X) × (part.ended_by ≡ Some e)
      by ih true zero e l = let same : part_from cut x xs ≡ part = cc in first (parts_between begins ends xs) refl same l
      by ih true (suc k) e l = ih k e (omega arith)
      by ih false k e l = ih k e l

  module _ (y : X) where
    -- a part that something has ended stays as it is
    ended_stays : (items : List X) (o : Option X) (e : X) → o ≡ Some e → ended y items o ≡ record { items = items; ended_by = o }
    ended_stays items o e is = ap (λ (p : Option X). ended y items p) is ∙ ap (λ (p : Option X). record { items = items; ended_by = p }) (sym is)

    longer_stays : (items : List X) (o : Option X) (e : X) → o ≡ Some e → longer y items o ≡ record { items = items; ended_by = o }
    longer_stays items o e is = ap (λ (p : Option X). longer y items p) is ∙ ap (λ (p : Option X). record { items = items; ended_by = p }) (sym is)

    -- the part that y begins, if it does
    abbrev pub begun : List (Part X)
    begun = cond (begins y) (record { items = y ∷ []; ended_by = None } ∷ []) []

    module _ (is : cut y ≡ true) where
      part_ends : (x : X) (xs : List X) → part_from cut x (xs ++ y ∷ []) ≡ ended y (x ∷ before_mark cut xs) (first_mark cut xs)
      part_ends x xs = (λ i. record { items = x ∷ before_mark_mark cut xs y is i; ended_by = first_mark_mark cut xs y is i }) ∙ by (first_mark cut xs)
        where
          by : (o : Option X) → record { items = x ∷ before_mark cut xs; ended_by = first_of_two y o } ≡ ended y (x ∷ before_mark cut xs) o
          by None = refl
          by (Some e) = refl

      -- one more that begins or ends a part: it ends the last one, and begins its own if it begins one
      cut_push : (xs : List X) → parts_between begins ends (xs ++ y ∷ []) ≡ end_open (parts_between begins ends xs) y ++ begun
      cut_push [] = refl
      cut_push (x ∷ xs) = by (cut_push xs) (begins x)
        where
          first : parts_between begins ends (xs ++ y ∷ []) ≡ end_open (parts_between begins ends xs) y ++ begun → (ps : List (Part X)) → parts_between begins ends xs ≡ ps → part_from cut x (xs ++ y ∷ []) ∷ parts_between begins ends (xs ++ y ∷ []) ≡ end_open (part_from cut x xs ∷ ps) y ++ begun
          first ih [] e = λ i. part_ends x xs i ∷ (ih ∙ ap (λ (l : List (Part X)). end_open l y ++ begun) e) i
          first ih (q ∷ qs) e =
              let mark = some_cut xs q qs e in
              λ i. (part_ends x xs ∙ ended_stays (x ∷ before_mark cut xs) (first_mark cut xs) mark.0 mark.1) i ∷ (ih ∙ ap (λ (l : List (Part X)). end_open l y ++ begun) e) i

          by : parts_between begins ends (xs ++ y ∷ []) ≡ end_open (parts_between begins ends xs) y ++ begun → (b : Bool) → cond b (part_from cut x (xs ++ y ∷ []) ∷ parts_between begins ends (xs ++ y ∷ [])) (parts_between begins ends (xs ++ y ∷ [])) ≡ end_open (cond b (part_from cut x xs ∷ parts_between begins ends xs) (parts_between begins ends xs)) y ++ begun
          by ih true = first ih (parts_between begins ends xs) refl
          by ih false = ih

    module _ (no_begin : begins y ≡ false) (no_end : ends y ≡ false) where
      no_cut : cut y ≡ false
      no_cut = λ i. no_begin i || no_end i

      part_grows : (x : X) (xs : List X) → part_from cut x (xs ++ y ∷ []) ≡ longer y (x ∷ before_mark cut xs) (first_mark cut xs)
      part_grows x xs = (λ i. record { items = x ∷ before_mark_joins cut y no_cut xs i; ended_by = first_mark_stays cut y no_cut xs i }) ∙ by (first_mark cut xs)
        where
          by : (o : Option X) → record { items = x ∷ joined y (before_mark cut xs) o; ended_by = o } ≡ longer y (x ∷ before_mark cut xs) o
          by None = refl
          by (Some e) = refl

      -- one more that begins no part and ends none: it joins the last one, where nothing has ended it
      pub between_joins : (xs : List X) → parts_between begins ends (xs ++ y ∷ []) ≡ grow_open (parts_between begins ends xs) y
      between_joins [] = ap (λ (b : Bool). cond b (part_from cut y [] ∷ []) []) no_begin
      between_joins (x ∷ xs) = by (between_joins xs) (begins x)
        where
          first : parts_between begins ends (xs ++ y ∷ []) ≡ grow_open (parts_between begins ends xs) y → (ps : List (Part X)) → parts_between begins ends xs ≡ ps → part_from cut x (xs ++ y ∷ []) ∷ parts_between begins ends (xs ++ y ∷ []) ≡ grow_open (part_from cut x xs ∷ ps) y
          first ih [] e = λ i. part_grows x xs i ∷ (ih ∙ ap (λ (l : List (Part X)). grow_open l y) e) i
          first ih (q ∷ qs) e =
              let mark = some_cut xs q qs e in
              λ i. (part_grows x xs ∙ longer_stays (x ∷ before_mark cut xs) (first_mark cut xs) mark.0 mark.1) i ∷ (ih ∙ ap (λ (l : List (Part X)). grow_open l y) e) i

          by : parts_between begins ends (xs ++ y ∷ []) ≡ grow_open (parts_between begins ends xs) y → (b : Bool) → cond b (part_from cut x (xs ++ y ∷ []) ∷ parts_between begins ends (xs ++ y ∷ [])) (parts_between begins ends (xs ++ y ∷ [])) ≡ grow_open (cond b (part_from cut x xs ∷ parts_between begins ends xs) (parts_between begins ends xs)) y
          by ih true = first ih (parts_between begins ends xs) refl
          by ih false = ih

    -- one more that begins a part: it ends the last one, and begins its own
    pub between_begins : (xs : List X) → begins y ≡ true → parts_between begins ends (xs ++ y ∷ []) ≡ end_open (parts_between begins ends xs) y ++ record { items = y ∷ []; ended_by = None } ∷ []
    between_begins xs is =
        cut_push (λ i. is i || ends y) xs
        ∙ ap (λ (b : Bool). end_open (parts_between begins ends xs) y ++ cond b (record { items = y ∷ []; ended_by = None } ∷ []) []) is

    -- one more that ends a part and begins none: it ends the last one
    pub between_ends : (xs : List X) → begins y ≡ false → ends y ≡ true → parts_between begins ends (xs ++ y ∷ []) ≡ end_open (parts_between begins ends xs) y
    between_ends xs begins_not is =
        cut_push (λ i. begins_not i || is i) xs
        ∙ ap (λ (b : Bool). end_open (parts_between begins ends xs) y ++ cond b (record { items = y ∷ []; ended_by = None } ∷ []) []) begins_not
        ∙ append-nil (end_open (parts_between begins ends xs) y)

module _ {X : Type 0} where
  -- the parts at marks are the parts between beginnings alone
  pub parts_are : (mark : X → Bool) (list : List X) → map (λ (p : Part X). p.items) (parts_between mark (λ x. false) list) ≡ parts mark list
  parts_are mark [] = refl
  parts_are mark (x ∷ xs) = by (parts_are mark xs) (mark x)
    where
      or_no : (b : Bool) → (b || false) ≡ b
      or_no true = refl
      or_no false = refl

      by : map (λ (p : Part X). p.items) (parts_between mark (λ x. false) xs) ≡ parts mark xs → (b : Bool) → map (λ (p : Part X). p.items) (cond b (part_from (cuts mark (λ x. false)) x xs ∷ parts_between mark (λ x. false) xs) (parts_between mark (λ x. false) xs)) ≡ cond b ((x ∷ before_mark mark xs) ∷ parts mark xs) (parts mark xs)
      by ih true = λ i. (x ∷ before_mark (λ z. or_no (mark z) i) xs) ∷ ih i
      by ih false = ih

  -- which part is the last one
  pub grow_open_at : (ps : List (Part X)) (p : Part X) (y : X) → grow_open (ps ++ p ∷ []) y ≡ ps ++ longer y p.items p.ended_by ∷ []
  grow_open_at [] p y = refl
  grow_open_at (q ∷ []) p y = refl
  grow_open_at (q ∷ r ∷ ps) p y = ap (λ (l : List (Part X)). q ∷ l) (grow_open_at (r ∷ ps) p y)

  pub end_open_at : (ps : List (Part X)) (p : Part X) (y : X) → end_open (ps ++ p ∷ []) y ≡ ps ++ ended y p.items p.ended_by ∷ []
  end_open_at [] p y = refl
  end_open_at (q ∷ []) p y = refl
  end_open_at (q ∷ r ∷ ps) p y = ap (λ (l : List (Part X)). q ∷ l) (end_open_at (r ∷ ps) p y)
