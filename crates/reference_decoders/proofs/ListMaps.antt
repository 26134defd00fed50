-- Lists that are mapped and cut.
use Rattle.std.proofs.Common.{◌≡◌, ℕ, zero, suc, ◌+◌, ◌*◌, ◌/◌, Bool, true, false, cond, List, [], ◌∷◌, ◌++◌, length, map, take, drop, Option, Some, refl, sym, ◌∙◌, ap}
use Rattle.std.specs.List.{flat_map}
use Rattle.std.proofs.lemmas.List.{take-map, drop-map, length-map, map-append}
use Rattle.list_cuts.specs.Groups.{first_groups, groups, after_groups}
use Rattle.list_cuts.specs.Neighbours.{neighbours_from}
use Rattle.list_cuts.specs.Parts.{before_mark, parts}

-- what mapped elements give
pub flat_mapped : {X Y Z : Type 0} (f : Y → List Z) (g : X → Y) (xs : List X) → flat_map (λ x. f (g x)) xs ≡ flat_map f (map g xs)
flat_mapped f g [] = refl
flat_mapped f g (x ∷ xs) = ap (λ l. f (g x) ++ l) (flat_mapped f g xs)

module _ {X Y : Type 0} (f : X → Y) where
  pub neighbours_map : {A : Type 0} (g : ℕ → Option A → A → List X) (list : List A) (k : ℕ) (before : Option A) → neighbours_from (λ place b now. map f (g place b now)) k before list ≡ map f (neighbours_from g k before list)
  neighbours_map g [] k before = refl
  neighbours_map g (now ∷ later) k before =
      ap (λ l. map f (g k before now) ++ l) (neighbours_map g later (k + 1) (Some now))
      ∙ sym (map-append f (g k before now) (neighbours_from g (k + 1) (Some now) later))

  first_groups_map : (n k : ℕ) (xs : List X) → map (λ g. map f g) (first_groups n k xs) ≡ first_groups n k (map f xs)
  first_groups_map n zero xs = refl
  first_groups_map n (suc k) xs =
      (λ i. sym (take-map f n xs) i ∷ first_groups_map n k (drop n xs) i)
      ∙ ap (λ l. take n (map f xs) ∷ first_groups n k l) (sym (drop-map f n xs))

  pub groups_map : (n : ℕ) (xs : List X) → map (λ g. map f g) (groups n xs) ≡ groups n (map f xs)
  unfolding groups
  groups_map n xs =
      first_groups_map n (length xs / n) xs
      ∙ ap (λ l. first_groups n (l / n) (map f xs)) (sym (length-map xs f))

  pub after_groups_map : (n : ℕ) (xs : List X) → map f (after_groups n xs) ≡ after_groups n (map f xs)
  unfolding after_groups
  after_groups_map n xs =
      sym (drop-map f (length xs / n * n) xs)
      ∙ ap (λ l. drop (l / n * n) (map f xs)) (sym (length-map xs f))

  module _ (mark : Y → Bool) where
    before_if : (t : Bool) (x : X) (xs : List X) → map f (before_mark (λ y. mark (f y)) xs) ≡ before_mark mark (map f xs)
        → map f (cond t [] (x ∷ before_mark (λ y. mark (f y)) xs)) ≡ cond t [] (f x ∷ before_mark mark (map f xs))
    before_if true x xs on = refl
    before_if false x xs on = ap (λ l. f x ∷ l) on

    pub before_map : (xs : List X) → map f (before_mark (λ y. mark (f y)) xs) ≡ before_mark mark (map f xs)
    before_map [] = refl
    before_map (x ∷ xs) = before_if (mark (f x)) x xs (before_map xs)

    parts_if : (t : Bool) (x : X) (xs : List X) → map (λ p. map f p) (parts (λ y. mark (f y)) xs) ≡ parts mark (map f xs)
        → map (λ p. map f p) (cond t ((x ∷ before_mark (λ y. mark (f y)) xs) ∷ parts (λ y. mark (f y)) xs) (parts (λ y. mark (f y)) xs))
        ≡ cond t ((f x ∷ before_mark mark (map f xs)) ∷ parts mark (map f xs)) (parts mark (map f xs))
    parts_if true x xs on = λ i. (f x ∷ before_map xs i) ∷ on i
    parts_if false x xs on = on

    pub parts_map : (xs : List X) → map (λ p. map f p) (parts (λ y. mark (f y)) xs) ≡ parts mark (map f xs)
    parts_map [] = refl
    parts_map (x ∷ xs) = parts_if (mark (f x)) x xs (parts_map xs)
