-- Searches in lists that are seen through a function.
use Rattle.std.proofs.Common.{◌≡◌, ℕ, ◌+◌, ◌<◌, ◌&&◌, Bool, true, false, cond, List, [], ◌∷◌, map, length, drop, get_or, Option, Some, None, is_some, option_map, refl, sym, ◌∙◌, ap}
use Rattle.std.specs.List.{find, list_all, enumerate_from}
use Rattle.std.proofs.lemmas.List.{at_drop_more}

pub is_some-option_map : {X Y : Type 0} (f : X → Y) (o : Option X) → is_some (option_map f o) ≡ is_some o
is_some-option_map f None = refl
is_some-option_map f (Some x) = refl

-- the first element of what a list is seen as that passes
pub find-map : {X Y : Type 0} (p : Y → Bool) (f : X → Y) (xs : List X) → find p (map f xs) ≡ option_map f (find (λ x. p (f x)) xs)
find-map p f [] = refl
find-map {X} {Y} p f (x ∷ xs) = by (p (f x)) (find-map p f xs)
  where
    by : (b : Bool) → find p (map f xs) ≡ option_map f (find (λ x. p (f x)) xs)
        → cond {A = Option Y} b (Some (f x)) (find p (map f xs)) ≡ option_map f (cond {A = Option X} b (Some x) (find (λ x. p (f x)) xs))
    by true rest = refl
    by false rest = rest

-- a test of elements with their places, which are seen through a function
pub list_all-enumerate_map : {X Y : Type 0} (p : ℕ × Y → Bool) (f : X → Y) (n : ℕ) (xs : List X) → list_all p (enumerate_from n (map f xs)) ≡ list_all (λ q. p (q.0, f q.1)) (enumerate_from n xs)
list_all-enumerate_map p f n [] = refl
list_all-enumerate_map p f n (x ∷ xs) = ap (λ (b : Bool). p (n, f x) && b) (list_all-enumerate_map p f (n + 1) xs)

module _ {X Y : Type 0} (p : Y → Bool) (f : X → Y) (xs : List X) (k : ℕ) (x : X) where
  found_turn : k < length xs → x ≡ get_or xs k x
      → find (λ q. p q.1) (enumerate_from k (map f (drop k xs))) ≡ cond {A = Option (ℕ × Y)} (p (f x)) (Some (k, f x)) (find (λ q. p q.1) (enumerate_from (k + 1) (map f (drop (k + 1) xs))))
  found_turn within is = at_drop_more (λ ys. find (λ q. p q.1) (enumerate_from k (map f ys))) xs k x within
      ∙ ap (λ (y : X). cond {A = Option (ℕ × Y)} (p (f y)) (Some (k, f y)) (find (λ q. p q.1) (enumerate_from (k + 1) (map f (drop (k + 1) xs))))) (sym is)

  -- an element passes
  pub found_here : k < length xs → x ≡ get_or xs k x → p (f x) ≡ true → find (λ q. p q.1) (enumerate_from k (map f (drop k xs))) ≡ Some (k, f x)
  found_here within is passes = found_turn within is ∙ ap (λ (b : Bool). cond {A = Option (ℕ × Y)} b (Some (k, f x)) (find (λ q. p q.1) (enumerate_from (k + 1) (map f (drop (k + 1) xs))))) passes

  -- an element doesn't pass
  pub found_later : k < length xs → x ≡ get_or xs k x → p (f x) ≡ false
      → find (λ q. p q.1) (enumerate_from k (map f (drop k xs))) ≡ find (λ q. p q.1) (enumerate_from (k + 1) (map f (drop (k + 1) xs)))
  found_later within is fails = found_turn within is ∙ ap (λ (b : Bool). cond {A = Option (ℕ × Y)} b (Some (k, f x)) (find (λ q. p q.1) (enumerate_from (k + 1) (map f (drop (k + 1) xs))))) fails
