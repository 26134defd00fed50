-- Searches in lists that are seen through a function.
use Rattle.std.proofs.Common.{◌≡◌, ℕ, ◌+◌, ◌&&◌, Bool, not, cond, List, [], ◌∷◌, map, Some, None, nat_lt, refl, ap}
use Rattle.std.specs.List.{position, position_or_len, list_all, zip}
use Rattle.std.proofs.lemmas.List.{length-map}

position_or_len-map : {X Y : Type 0} (p : Y → Bool) (f : X → Y) (xs : List X) → position_or_len p (map f xs) ≡ position_or_len (λ x. p (f x)) xs
position_or_len-map p f [] = refl
position_or_len-map p f (x ∷ xs) = ap (λ (n : ℕ). cond (not (p (f x))) (1 + n) 0) (position_or_len-map p f xs)

-- where an element of what a list is seen as passes
pub position-map : {X Y : Type 0} (p : Y → Bool) (f : X → Y) (xs : List X) → position p (map f xs) ≡ position (λ x. p (f x)) xs
position-map p f xs = λ i. cond (nat_lt (position_or_len-map p f xs i) (length-map xs f i)) (Some (position_or_len-map p f xs i)) None

-- a test of pairs whose first parts are seen through a function
pub list_all-zip_map : {X Y Z : Type 0} (p : Y × Z → Bool) (f : X → Y) (xs : List X) (zs : List Z) → list_all p (zip (map f xs) zs) ≡ list_all (λ q. p (f q.0, q.1)) (zip xs zs)
list_all-zip_map p f [] zs = refl
list_all-zip_map p f (x ∷ xs) [] = refl
list_all-zip_map p f (x ∷ xs) (z ∷ zs) = ap (λ (b : Bool). p (f x, z) && b) (list_all-zip_map p f xs zs)
