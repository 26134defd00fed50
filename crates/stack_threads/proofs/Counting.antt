-- How many stand on a place, counted in two ways.
use Rattle.std.proofs.Common.{◌≡◌, ◌≤◌, ◌+◌, ℕ, zero, suc, Bool, true, false, cond, List, [], ◌∷◌, length, take, slice_get, Option, Some, refl, ◌∙◌, ap, arith, if◌then◌else◌}
use Rattle.std.specs.List.{filter, range_with_len}
use Rattle.std.proofs.lemmas.List.{take_all}
use Rattle.stack_laws.specs.Running.{stands_on}
use Rattle.stack_laws.specs.Views.{children_of, place_among}
use Rattle.stack_threads.specs.Trees.{on_place, place_of}

counted : (parents : List (Option ℕ)) (above : Option ℕ) (a : ℕ) (at : ℕ → Option (Option ℕ)) → ((k : ℕ) → at (a + k) ≡ slice_get parents k) → (j : ℕ) → j ≤ length parents
    → length (filter (λ k. stands_on (at k) above) (range_with_len a j)) ≡ on_place above (take j parents)
counted parents above a at is zero low = refl
counted [] above a at is (suc j) low = absurd (omega (arith, low))
counted (x ∷ parents) above a at is (suc j) low =
    let same : a ≡ a + 0 = omega arith in
    let here : at a ≡ Some x = ap at same ∙ is 0 in
    let rest = counted parents above (a + 1) at (λ k. ap at (let n : (a + 1) + k ≡ a + suc k = omega arith in n) ∙ is (suc k)) j (omega (arith, low)) in
    ap (λ (o : Option (Option ℕ)). length (cond (stands_on o above) (a ∷ filter (λ k. stands_on (at k) above) (range_with_len (a + 1) j)) (filter (λ k. stands_on (at k) above) (range_with_len (a + 1) j)))) here
    ∙ way (stands_on (Some x) above) rest
  where
    way : (b : Bool) → length (filter (λ k. stands_on (at k) above) (range_with_len (a + 1) j)) ≡ on_place above (take j parents)
        → length (cond b (a ∷ filter (λ k. stands_on (at k) above) (range_with_len (a + 1) j)) (filter (λ k. stands_on (at k) above) (range_with_len (a + 1) j))) ≡ (if b then suc (on_place above (take j parents)) else on_place above (take j parents))
    way true n = ap suc n
    way false n = n

pub same_place_among : (parents : List (Option ℕ)) (parent j : ℕ) → j ≤ length parents → place_among parents parent j ≡ place_of parents j (Some parent)
same_place_among parents parent j low = counted parents (Some parent) 0 (slice_get parents) (λ k. ap (slice_get parents) (let n : 0 + k ≡ k = omega arith in n)) j low

pub same_children : (parents : List (Option ℕ)) (parent : ℕ) → length (children_of parents parent) ≡ on_place (Some parent) parents
same_children parents parent =
    counted parents (Some parent) 0 (slice_get parents) (λ k. ap (slice_get parents) (let n : 0 + k ≡ k = omega arith in n)) (length parents) (omega arith) ∙ ap (on_place (Some parent)) (take_all (length parents) parents (omega arith))
