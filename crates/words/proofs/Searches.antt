-- The first element of a list that passes a test.
use Rattle.std.proofs.Common.{◌≡◌, ℕ, ◌+◌, ◌<◌, Bool, true, false, cond, List, [], ◌∷◌, length, drop, get_or, Some, find, refl, sym, ap, ◌∙◌}
use Rattle.std.proofs.lemmas.List.{at_drop_more}

module _ {X : Type 0} (p : X → Bool) (xs : List X) (k : ℕ) (d : X) (within : k < length xs) where
  -- an element that doesn't pass is passed over
  pub find_past : p (get_or xs k d) ≡ false → find p (drop (k + 1) xs) ≡ find p (drop k xs)
  find_past e = sym (at_drop_more (find p) xs k d within ∙ rw e refl)

  -- one that passes is found
  pub find_here : p (get_or xs k d) ≡ true → find p (drop k xs) ≡ Some (get_or xs k d)
  find_here e = at_drop_more (find p) xs k d within ∙ rw e refl

-- what is found passes
pub find_passes : {X : Type 0} (p : X → Bool) (xs : List X) (x : X) → find p xs ≡ Some x → p x ≡ true
find_passes p [] x e = cc
find_passes {X} p (y ∷ ys) x e = by (p y) refl e (find_passes p ys x)
  where
    by : (b : Bool) → p y ≡ b → cond b (Some y) (find p ys) ≡ Some x → (find p ys ≡ Some x → p x ≡ true) → p x ≡ true
    by true is e more = let same : y ≡ x = cc in ap p (sym same) ∙ is
    by false is e more = more e
