-- Those that take turns, each at its place.
use Rattle.std.proofs.Common.{◌≡◌, ℕ, zero, suc, List, [], ◌∷◌, ◌++◌, Vec, Global, set, get_or, ap, subst, refl, sym, ◌∙◌, append_assoc}
use Rattle.stage_crew.specs.Crew.{AllGoOn, Each}

module _ {A : Type 0} (R : A → A → Type 0) where
  module _ (same : (x : A) → R x x) where
    pub each_same : (xs : List A) → Each R xs xs
    each_same [] = tt
    each_same (x ∷ xs) = (same x, each_same xs)

    pub each_set : (ys : List A) (k : ℕ) (old new : A) → old ≡ get_or ys k old → R old new → Each R ys (set ys k new)
    each_set [] k old new is goes = tt
    each_set (y ∷ ys) zero old new is goes = (subst (λ o. R o new) is goes, each_same ys)
    each_set (y ∷ ys) (suc k) old new is goes = (same y, each_set ys k old new is goes)

  pub each_then : ((x y z : A) → R x y → R y z → R x z) → (xs ys zs : List A) → Each R xs ys → Each R ys zs → Each R xs zs
  each_then on [] [] [] a b = tt
  each_then on [] [] (z ∷ zs) a b = absurd b
  each_then on [] (y ∷ ys) zs a b = absurd a
  each_then on (x ∷ xs) [] zs a b = absurd a
  each_then on (x ∷ xs) (y ∷ ys) [] a b = absurd b
  each_then on (x ∷ xs) (y ∷ ys) (z ∷ zs) a b = (on x y z a.0 b.0, each_then on xs ys zs a.1 b.1)

  -- all stand still
  pub all_still : ((x : A) → R x x) → (xs : Vec A Global) → AllGoOn R xs xs
  all_still same xs = record { each = each_same same xs.items; count = refl }

  -- all go on twice
  pub all_further : ((x y z : A) → R x y → R y z → R x z) → {xs ys zs : Vec A Global} → AllGoOn R xs ys → AllGoOn R ys zs → AllGoOn R xs zs
  all_further on {xs} {ys} {zs} a b = record { each = each_then on xs.items ys.items zs.items a.each b.each; count = b.count ∙ a.count }

  pub each_append : (xs ys : List A) (x y : A) → Each R xs ys → R x y → Each R (xs ++ x ∷ []) (ys ++ y ∷ [])
  each_append [] [] x y e r = (r, tt)
  each_append (a ∷ xs) [] x y e r = absurd e
  each_append [] (b ∷ ys) x y e r = absurd e
  each_append (a ∷ xs) (b ∷ ys) x y e r = (e.0, each_append xs ys x y e.1 r)

  -- the last of both
  pub each_last : (xs ys : List A) (x y : A) → Each R (xs ++ x ∷ []) (ys ++ y ∷ []) → Each R xs ys × R x y
  each_last [] [] x y e = (tt, e.0)
  each_last [] (b ∷ []) x y e = absurd e.1
  each_last [] (b ∷ c ∷ ys) x y e = absurd e.1
  each_last (a ∷ []) [] x y e = absurd e.1
  each_last (a ∷ b ∷ xs) [] x y e = absurd e.1
  each_last (a ∷ xs) (b ∷ ys) x y e = let r = each_last xs ys x y e.1 in ((e.0, r.0), r.1)

  -- one more came back
  pub put_back : (todo left before now after : List A) (x y : A)
      → todo ≡ left ++ x ∷ [] → (made : List A) → now ≡ before ++ made → Each R left made → after ≡ now ++ y ∷ [] → R x y
      → (more : List A) × (after ≡ before ++ more) × Each R todo more
  put_back todo left before now after x y is made given each pushed good = (
    made ++ y ∷ [],
    pushed ∙ ap (λ l. l ++ y ∷ []) given ∙ append_assoc before made (y ∷ []),
    subst (λ l. Each R l (made ++ y ∷ [])) (sym is) (each_append left made x y each good),
  )

  -- what was handed down came back last
  pub handed : (pushed came before left : List A) (x y : A) → Each R pushed came → pushed ≡ before ++ x ∷ [] → came ≡ left ++ y ∷ [] → Each R before left × R x y
  handed pushed came before left x y e is was = each_last before left x y (subst (λ l. Each R (before ++ x ∷ []) l) was (subst (λ l. Each R l came) is e))
