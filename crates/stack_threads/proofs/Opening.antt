-- Stages that are opened one behind another, and taken apart.
use Rattle.std.proofs.Common.{◌≡◌, ℕ, zero, suc, true, List, [], ◌∷◌, ◌++◌, length, slice_get, Some, refl, sym, ◌∙◌, ap, subst, append_assoc}
use Rattle.std.specs.List.{AllZip}
use Rattle.std.proofs.lemmas.Option.{same_Some}
use Rattle.std.proofs.lemmas.Slice.Zip.{all_zipped_more}
use Rattle.stage_run.specs.Stages.{Links, is_over, links}
use Rattle.stage_run.specs.declared.stage.Stage.{Stage}
use Rattle.stack_threads.specs.Stages.{AllOver}

-- what is so of all stages is so of the first, and of the last
module _ {M : Type 0} where
  pub over_front : (xs ys : List (Stage M)) (x : Stage M) → ys ≡ xs ++ x ∷ [] → AllOver ys → AllOver xs
  over_front xs ys x is over = go xs (subst (λ (l : List (Stage M)). AllOver l) is over)
    where
      go : (zs : List (Stage M)) → AllOver (zs ++ x ∷ []) → AllOver zs
      go [] e = tt
      go (z ∷ zs) e = (e.0, go zs e.1)

  pub over_last : (xs ys : List (Stage M)) (x : Stage M) → ys ≡ xs ++ x ∷ [] → AllOver ys → is_over x ≡ true
  over_last xs ys x is over = go xs (subst (λ (l : List (Stage M)). AllOver l) is over)
    where
      go : (zs : List (Stage M)) → AllOver (zs ++ x ∷ []) → is_over x ≡ true
      go [] e = e.0
      go (z ∷ zs) e = go zs e.1

module _ {A B : Type 0} (R : A → B → Type 0) where
  -- one more of both
  pub zip_more : (todo left : List A) (x : A) (made : List B) (y : B) → todo ≡ left ++ x ∷ [] → AllZip R left made → R x y → AllZip R todo (made ++ y ∷ [])
  zip_more todo left x made y is zip one = subst (λ (l : List A). AllZip R l (made ++ y ∷ [])) (sym is) (all_zipped_more R left made x y zip one)

  pub zip_at : (xs : List A) (ys : List B) → AllZip R xs ys → (j : ℕ) (y : B) → slice_get ys j ≡ Some y → (x : A) × (slice_get xs j ≡ Some x) × R x y
  zip_at [] [] e j y at = absurd cc
  zip_at [] (b ∷ ys) e j y at = absurd e
  zip_at (a ∷ xs) [] e j y at = absurd e
  zip_at (a ∷ xs) (b ∷ ys) e zero y at = (a, refl, subst (λ z. R a z) (same_Some b y at) e.0)
  zip_at (a ∷ xs) (b ∷ ys) e (suc j) y at = zip_at xs ys e.1 j y at

-- it has as many links to children
pub as_many_children : {M : Type 0} (s : Stage M) (l : Links) → links s ≡ l → length (links s).children ≡ length l.children
as_many_children s l is = ap (λ (k : Links). length k.children) is

-- all that was made, behind nothing
pub made_all : {X : Type 0} (before now made : List X) → now ≡ before ++ made → before ≡ [] → now ≡ made
made_all before now made is none = is ∙ ap (λ l. l ++ made) none

-- one more was put behind
pub put_more : {X : Type 0} (before now after made : List X) (y : X) → now ≡ before ++ made → after ≡ now ++ y ∷ [] → after ≡ before ++ (made ++ y ∷ [])
put_more before now after made y is pushed = pushed ∙ ap (λ l. l ++ y ∷ []) is ∙ append_assoc before made (y ∷ [])
