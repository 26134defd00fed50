-- The first place in a list of images.
use Rattle.std.proofs.Common.{◌≡◌, ℕ, ◌+◌, Bool, cond, not, List, [], ◌∷◌, length, map, refl, ap, nat_lt, Option, Some, None, suc}
use Rattle.std.specs.List.{position, prefix_len}

module _ {A B : Type 0} (f : A → B) (p : B → Bool) where
  front_of_images : (xs : List A) → prefix_len (λ x. not (p (f x))) xs ≡ prefix_len (λ y. not (p y)) (map f xs)
  front_of_images [] = refl
  front_of_images (x ∷ xs) = ap (λ (n : ℕ). cond (not (p (f x))) (1 + n) 0) (front_of_images xs)

  length_of_images : (xs : List A) → length xs ≡ length (map f xs)
  length_of_images [] = refl
  length_of_images (x ∷ xs) = ap (λ (n : ℕ). suc n) (length_of_images xs)

  pub place_of_image : (xs : List A) → position (λ x. p (f x)) xs ≡ position p (map f xs)
  place_of_image xs = let front = front_of_images xs in let len = length_of_images xs in
      ap (λ (w : ℕ × ℕ). cond {A = Option ℕ} (nat_lt w.0 w.1) (Some w.0) None) (λ i. (front i, len i))
