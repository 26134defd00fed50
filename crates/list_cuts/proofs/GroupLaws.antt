-- What holds of lists that are cut into groups.
use Rattle.std.proofs.Common.{◌≡◌, ℕ, zero, suc, ◌+◌, ◌*◌, ◌/◌, ◌<◌, ◌≤◌, List, [], ◌∷◌, ◌++◌, take, drop, length, sym, ◌∙◌, ap, arith, length-append, length-take-le, length-drop, append_assoc, take-append-drop, add-zero}
use Rattle.std.specs.List.{flat_map}
use Rattle.std.specs.Prelude.{Some, slice_get}
use Rattle.std.proofs.lemmas.List.{take_at, drop_at, drop_all, drop-drop, nil_from_length, append-nil}
use Rattle.std.proofs.Math.Nat.{add-div_left, div-eq_of_lt, lt-div-mul-add, div-mul-le_self, mul-add-div_right, div_self, div-zero, mul-zero}
use Rattle.list_cuts.specs.Groups.{first_groups, groups, after_groups}

module _ {A : Type 0} (n : ℕ) (some : 0 < n) where
  -- less than a group gives none
  pub groups_short : (xs : List A) → length xs < n → groups n xs ≡ []
  unfolding groups
  groups_short xs short = ap (λ (k : ℕ). first_groups n k xs) (div-eq_of_lt short)

  -- the first group, and the others
  pub groups_first : (front rest : List A) → length front ≡ n → groups n (front ++ rest) ≡ front ∷ groups n rest
  unfolding groups
  groups_first front rest is =
      let whole : length (front ++ rest) ≡ n + length rest = omega (arith, length-append front rest) in
      let count : length (front ++ rest) / n ≡ suc (length rest / n) = ap (λ (k : ℕ). k / n) whole ∙ add-div_left (length rest) some ∙ omega arith in
      ap (λ (k : ℕ). first_groups n k (front ++ rest)) count
      ∙ (λ i. take_at front rest n is i ∷ first_groups n (length rest / n) (drop_at front rest n is i))

  -- whole groups, and those of what follows
  pub groups_append : (m : ℕ) (xs ys : List A) → length xs ≡ m * n → groups n (xs ++ ys) ≡ groups n xs ++ groups n ys
  groups_append zero xs ys is =
      let none : xs ≡ [] = nil_from_length xs (omega arith) in
      ap (λ (l : List A). groups n (l ++ ys)) none ∙ ap (λ (l : List (List A)). l ++ groups n ys) (sym (ap (λ (l : List A). groups n l) none ∙ groups_short [] (omega arith)))
  groups_append (suc m) xs ys is =
      let long : n ≤ length xs = omega (arith, is) in
      let front = take n xs in
      let rest = drop n xs in
      let front_len : length front ≡ n = length-take-le n xs long in
      let rest_len : length rest ≡ m * n = omega (arith, is, length-drop n xs) in
      let parts : xs ≡ front ++ rest = sym (take-append-drop n xs) in
      ap (λ (l : List A). groups n (l ++ ys)) parts ∙ ap (λ (l : List A). groups n l) (append_assoc front rest ys)
      ∙ groups_first front (rest ++ ys) front_len
      ∙ ap (λ (l : List (List A)). front ∷ l) (groups_append m rest ys rest_len)
      ∙ ap (λ (l : List (List A)). l ++ groups n ys) (sym (ap (λ (l : List A). groups n l) parts ∙ groups_first front rest front_len))

  -- less than a group is left whole
  pub after_groups_few : (xs : List A) → length xs < n → after_groups n xs ≡ xs
  unfolding after_groups
  after_groups_few xs short = ap (λ (k : ℕ). drop (k * n) xs) (div-eq_of_lt short) ∙ ap (λ (k : ℕ). drop k xs) (let none : 0 * n ≡ 0 = omega arith in none)

  -- what is left behind the first group
  pub after_groups_first : (front rest : List A) → length front ≡ n → after_groups n (front ++ rest) ≡ after_groups n rest
  unfolding after_groups
  after_groups_first front rest is =
      let whole : length (front ++ rest) ≡ n + length rest = omega (arith, length-append front rest) in
      let count : length (front ++ rest) / n ≡ suc (length rest / n) = ap (λ (k : ℕ). k / n) whole ∙ add-div_left (length rest) some ∙ omega arith in
      let more : suc (length rest / n) * n ≡ n + length rest / n * n = grind arith in
      ap (λ (k : ℕ). drop k (front ++ rest)) (ap (λ (k : ℕ). k * n) count ∙ more)
      ∙ sym (drop-drop (length rest / n * n) n (front ++ rest))
      ∙ ap (λ (l : List A). drop (length rest / n * n) l) (drop_at front rest n is)

  module _ (xs : List A) where
    front_len : length (take (length xs / n * n) xs) ≡ length xs / n * n
    front_len = length-take-le (length xs / n * n) xs (div-mul-le_self (length xs) n)

    pub after_groups_short : length (after_groups n xs) < n
    unfolding after_groups
    after_groups_short = omega (arith, length-drop (length xs / n * n) xs, lt-div-mul-add {a = length xs} some)

    split : xs ≡ take (length xs / n * n) xs ++ after_groups n xs
    unfolding after_groups
    split = sym (take-append-drop (length xs / n * n) xs)

    -- the groups of a longer list: those of this one, and those of what is left with what follows
    pub groups_longer : (ys : List A) → groups n (xs ++ ys) ≡ groups n xs ++ groups n (after_groups n xs ++ ys)
    groups_longer ys =
        let front = take (length xs / n * n) xs in
        let rest = after_groups n xs in
        let whole : (zs : List A) → groups n ((front ++ rest) ++ zs) ≡ groups n front ++ groups n (rest ++ zs) = λ zs.
        ap (λ (l : List A). groups n l) (append_assoc front rest zs) ∙ groups_append (length xs / n) front (rest ++ zs) front_len in
        let only_front : groups n xs ≡ groups n front =
        ap (λ (l : List A). groups n l) (split ∙ sym (append-nil (front ++ rest))) ∙ whole []
        ∙ ap (λ (l : List A). groups n front ++ groups n l) (append-nil rest)
        ∙ ap (λ (l : List (List A)). groups n front ++ l) (groups_short rest after_groups_short) ∙ append-nil (groups n front) in
        ap (λ (l : List A). groups n (l ++ ys)) split ∙ whole ys ∙ ap (λ (l : List (List A)). l ++ groups n (rest ++ ys)) (sym only_front)

    -- one more that makes no group
    pub groups_push_short : (x : A) → length (after_groups n xs) + 1 < n → groups n (xs ++ x ∷ []) ≡ groups n xs
    groups_push_short x short =
        groups_longer (x ∷ []) ∙ ap (λ (l : List (List A)). groups n xs ++ l) (groups_short (after_groups n xs ++ x ∷ []) (omega (arith, length-append (after_groups n xs) (x ∷ []))))
        ∙ append-nil (groups n xs)

    -- one more that ends a group
    pub groups_push_full : (x : A) → length (after_groups n xs) + 1 ≡ n → groups n (xs ++ x ∷ []) ≡ groups n xs ++ (after_groups n xs ++ x ∷ []) ∷ []
    groups_push_full x full =
        let last = after_groups n xs ++ x ∷ [] in
        let last_len : length last ≡ n = omega (arith, length-append (after_groups n xs) (x ∷ [])) in
        groups_longer (x ∷ [])
        ∙ ap (λ (l : List (List A)). groups n xs ++ l) (ap (λ (l : List A). groups n l) (sym (append-nil last)) ∙ groups_first last [] last_len ∙ ap (λ (l : List (List A)). last ∷ l) (groups_short [] (omega arith)))

    total : (ys : List A) → length (xs ++ ys) ≡ length xs / n * n + length (after_groups n xs ++ ys)
    unfolding after_groups
    total ys = omega (arith, length-append xs ys, length-append (drop (length xs / n * n) xs) ys, length-drop (length xs / n * n) xs, div-mul-le_self (length xs) n)

    -- one more that makes no group stands behind what is left
    pub after_push_short : (x : A) → length (after_groups n xs) + 1 < n → after_groups n (xs ++ x ∷ []) ≡ after_groups n xs ++ x ∷ []
    unfolding after_groups
    after_push_short x short =
        let front = take (length xs / n * n) xs in
        let rest = drop (length xs / n * n) xs in
        let small : length (rest ++ x ∷ []) < n = omega (arith, length-append rest (x ∷ [])) in
        let count : length (xs ++ x ∷ []) / n ≡ length xs / n =
        ap (λ (k : ℕ). k / n) (total (x ∷ [])) ∙ mul-add-div_right some (length xs / n) (length (rest ++ x ∷ [])) ∙ ap (λ (k : ℕ). length xs / n + k) (div-eq_of_lt small) ∙ add-zero (length xs / n) in
        ap (λ (k : ℕ). drop (k * n) (xs ++ x ∷ [])) count
        ∙ ap (λ (l : List A). drop (length xs / n * n) (l ++ x ∷ [])) split
        ∙ ap (λ (l : List A). drop (length xs / n * n) l) (append_assoc front rest (x ∷ []))
        ∙ drop_at front (rest ++ x ∷ []) (length xs / n * n) front_len

    -- one more that ends a group leaves nothing
    pub after_push_full : (x : A) → length (after_groups n xs) + 1 ≡ n → after_groups n (xs ++ x ∷ []) ≡ []
    unfolding after_groups
    after_push_full x full =
        let rest = drop (length xs / n * n) xs in
        let whole : length (rest ++ x ∷ []) ≡ n = omega (arith, length-append rest (x ∷ [])) in
        let count : length (xs ++ x ∷ []) / n ≡ length xs / n + 1 =
        ap (λ (k : ℕ). k / n) (total (x ∷ [])) ∙ mul-add-div_right some (length xs / n) (length (rest ++ x ∷ [])) ∙ ap (λ (k : ℕ). length xs / n + k) (ap (λ (k : ℕ). k / n) whole ∙ div_self some) in
        let more : (length xs / n + 1) * n ≡ length xs / n * n + n = grind arith in
        drop_all _ (xs ++ x ∷ []) (omega (arith, ap (λ (k : ℕ). k * n) count, more, total (x ∷ []), whole))

-- there is no group of nothing
pub groups_of_none : {A : Type 0} (n : ℕ) (xs : List A) → n ≡ 0 → groups n xs ≡ []
unfolding groups
groups_of_none n xs is = let none : length xs / n ≡ 0 = ap (λ (k : ℕ). length xs / k) is ∙ div-zero (length xs) in ap (λ (k : ℕ). first_groups n k xs) none

times_next : (n k : ℕ) → n + k * n ≡ suc k * n
times_next n k = grind arith

module _ {A : Type 0} (n : ℕ) where
  first_whole : (k : ℕ) (xs : List A) → flat_map (λ g. g) (first_groups n k xs) ++ drop (k * n) xs ≡ xs
  first_whole zero xs = let none : 0 * n ≡ 0 = omega arith in ap (λ (j : ℕ). drop j xs) none
  first_whole (suc k) xs =
      append_assoc (take n xs) (flat_map (λ g. g) (first_groups n k (drop n xs))) (drop (suc k * n) xs)
      ∙ ap (λ (j : ℕ). take n xs ++ (flat_map (λ g. g) (first_groups n k (drop n xs)) ++ drop j xs)) (sym (times_next n k))
      ∙ ap (λ (l : List A). take n xs ++ (flat_map (λ g. g) (first_groups n k (drop n xs)) ++ l)) (sym (drop-drop (k * n) n xs))
      ∙ ap (λ (l : List A). take n xs ++ l) (first_whole k (drop n xs))
      ∙ take-append-drop n xs

  -- the groups and what they leave are the list
  pub groups_whole : (xs : List A) → flat_map (λ g. g) (groups n xs) ++ after_groups n xs ≡ xs
  unfolding groups after_groups
  groups_whole xs = first_whole (length xs / n) xs

  first_count : (k : ℕ) (xs : List A) → length (first_groups n k xs) ≡ k
  first_count zero xs = λ i. 0
  first_count (suc k) xs = ap (λ (j : ℕ). suc j) (first_count k (drop n xs))

  -- there are as many as fit
  pub groups_count : (xs : List A) → length (groups n xs) ≡ length xs / n
  unfolding groups
  groups_count xs = first_count (length xs / n) xs

  first_at : (m k : ℕ) (xs group : List A) → m * n ≤ length xs → slice_get (first_groups n m xs) k ≡ Some group → (group ≡ take n (drop (k * n) xs)) × (length group ≡ n)
  first_at zero k xs group long at = absurd cc
  first_at (suc m) zero xs group long at =
      let same : take n xs ≡ group = cc in
      let none : 0 * n ≡ 0 = omega arith in
      let fits : n ≤ length xs = omega (arith, times_next n m) in
      (sym same ∙ ap (λ (j : ℕ). take n (drop j xs)) (sym none), ap (λ (l : List A). length l) (sym same) ∙ length-take-le n xs fits)
  first_at (suc m) (suc k) xs group long at =
      let found = first_at m k (drop n xs) group (omega (arith, times_next n m, length-drop n xs)) at in
      (found.0 ∙ ap (λ (l : List A). take n l) (drop-drop (k * n) n xs) ∙ ap (λ (j : ℕ). take n (drop j xs)) (times_next n k), found.1)

  -- group k has the n elements from place k * n on
  pub group_at : (xs : List A) (k : ℕ) (group : List A) → slice_get (groups n xs) k ≡ Some group → (group ≡ take n (drop (k * n) xs)) × (length group ≡ n)
  unfolding groups
  group_at xs k group at = first_at (length xs / n) k xs group (div-mul-le_self (length xs) n) at

-- and then everything is left
pub after_groups_of_none : {A : Type 0} (n : ℕ) (xs : List A) → n ≡ 0 → after_groups n xs ≡ xs
unfolding after_groups
after_groups_of_none n xs is =
    let none : length xs / n * n ≡ 0 = grind (arith, mul-zero) in
    ap (λ (k : ℕ). drop k xs) none
