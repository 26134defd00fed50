-- A list cut into groups of n.
use Rattle.std.specs.Prelude.{ℕ, zero, suc, ◌*◌, ◌/◌, List, [], ◌∷◌, take, drop, length}

-- the first k groups of n
abbrev pub first_groups : {A : Type 0} → ℕ → ℕ → List A → List (List A)
first_groups n zero xs = []
first_groups n (suc k) xs = take n xs ∷ first_groups n k (drop n xs)

-- the whole groups of n
unfoldable pub groups : {A : Type 0} → ℕ → List A → List (List A)
groups n xs = first_groups n (length xs / n) xs

-- what the whole groups leave
unfoldable pub after_groups : {A : Type 0} → ℕ → List A → List A
after_groups n xs = drop (length xs / n * n) xs
