-- Fronts that two lists have in common, and units that are equal.
use Rattle.std.proofs.Common.{◌≡◌, ℕ, zero, suc, ◌+◌, ◌-◌, ◌*◌, ◌≤◌, ◌<◌, List, [], ◌∷◌, ◌++◌, take, drop, length, replicate, refl, sym, ◌∙◌, ap, arith, length-take-le, add_comm, Bool, true, false, not, nat_eq, slice_range}
use Rattle.std.proofs.lemmas.List.{append-nil, replicate_more, drop-drop, drop-take, take-take}
use Rattle.std.proofs.Math.Seq.{take-add}
use Rattle.std.proofs.lemmas.Slice.Eq.{slice_eq-Decides}
use Rattle.std.proofs.lemmas.Bool.Decides.{Decides-eqb}
use Rattle.std.specs.Cmp.Lexicographic.{pointwise}
use Rattle.list_cuts.specs.Groups.{groups}
use Rattle.list_cuts.proofs.GroupLaws.{groups_append, groups_first, groups_short}

true_from : (b : Bool) → false ≡ not b → b ≡ true
true_from true e = refl
true_from false e = e

-- what `!=` on slices of bytes says where it is false
pub equal_lists : (xs ys : List ℕ) → false ≡ not (pointwise nat_eq xs ys) → xs ≡ ys
equal_lists xs ys e = (slice_eq-Decides Decides-eqb xs ys (pointwise nat_eq xs ys) refl).0 (true_from (pointwise nat_eq xs ys) e)

-- a common front, and a block more of it
pub block_more : (a b : List ℕ) (done block : ℕ) → take done a ≡ take done b → slice_range a done (done + block) ≡ slice_range b done (done + block) → take (done + block) a ≡ take (done + block) b
block_more a b done block so_far same =
    let count : done + block - done ≡ block = omega arith in
    let next : take block (drop done a) ≡ take block (drop done b) = sym (ap (λ (n : ℕ). take n (drop done a)) count) ∙ same ∙ ap (λ (n : ℕ). take n (drop done b)) count in
    take-add done block a ∙ (λ i. so_far i ++ next i) ∙ sym (take-add done block b)

-- a part of a front is that part of the whole
part_of_front : (xs : List ℕ) (at count front : ℕ) → at + count ≤ front → take count (drop at (take front xs)) ≡ take count (drop at xs)
part_of_front xs at count front within =
    let rest : front ≡ at + (front - at) = omega arith in
    ap (λ (n : ℕ). take count (drop at (take n xs))) rest ∙ ap (λ (l : List ℕ). take count l) (drop-take at (front - at) xs) ∙ take-take count (front - at) (drop at xs) (omega arith)

module _ (unit : ℕ) (some : 0 < unit) (bytes : List ℕ) where
  one : (first : List ℕ) → length first ≡ unit → groups unit first ≡ first ∷ []
  one first is =
      ap (λ (l : List ℕ). groups unit l) (sym (append-nil first)) ∙ groups_first unit some first [] is
      ∙ ap (λ (l : List (List ℕ)). first ∷ l) (groups_short unit some [] (omega arith))

  -- one unit alone
  pub equal_first : unit ≤ length bytes → groups unit (take (1 * unit) bytes) ≡ replicate 1 (take unit bytes)
  equal_first whole =
      let same : 1 * unit ≡ unit = omega arith in
      ap (λ (n : ℕ). groups unit (take n bytes)) same ∙ one (take unit bytes) (length-take-le unit bytes whole)

  equal_next : (count : ℕ) (next : List ℕ) → (count + 1) * unit ≤ length bytes → next ≡ take unit (drop (count * unit) bytes) → next ≡ take unit bytes
      → groups unit (take (count * unit) bytes) ≡ replicate count (take unit bytes) → groups unit (take ((count + 1) * unit) bytes) ≡ replicate (count + 1) (take unit bytes)
  equal_next count next whole is_next is_first so_far =
      let total : (count + 1) * unit ≡ count * unit + unit = grind arith in
      let front = take (count * unit) bytes in
      let front_len : length front ≡ count * unit = length-take-le (count * unit) bytes (omega (arith, total, whole)) in
      let unit_len : length (take unit bytes) ≡ unit = length-take-le unit bytes (omega (arith, total, whole)) in
      ap (λ (n : ℕ). groups unit (take n bytes)) total
      ∙ ap (λ (l : List ℕ). groups unit l) (take-add (count * unit) unit bytes ∙ ap (λ (l : List ℕ). front ++ l) (sym is_next ∙ is_first))
      ∙ groups_append unit some count front (take unit bytes) front_len
      ∙ (λ i. so_far i ++ one (take unit bytes) unit_len i)
      ∙ replicate_more count (take unit bytes)

  -- bytes that equal those one unit on
  module _ (same : ℕ) (equal : take same bytes ≡ take same (drop unit bytes)) (within : same + unit ≤ length bytes) where
    -- a unit that ends there equals the next one
    unit_on : (k : ℕ) → k * unit + unit ≤ same → take unit (drop (k * unit) bytes) ≡ take unit (drop ((k + 1) * unit) bytes)
    unit_on k below =
        let total : k * unit + unit ≡ (k + 1) * unit = grind arith in
        sym (part_of_front bytes (k * unit) unit same below) ∙ ap (λ (l : List ℕ). take unit (drop (k * unit) l)) equal ∙ part_of_front (drop unit bytes) (k * unit) unit same below
        ∙ ap (λ (l : List ℕ). take unit l) (drop-drop (k * unit) unit bytes) ∙ ap (λ (n : ℕ). take unit (drop n bytes)) (add_comm unit (k * unit) ∙ total)

    unit_at : (k : ℕ) → k * unit ≤ same → take unit (drop (k * unit) bytes) ≡ take unit bytes
    unit_at zero below = let none : 0 * unit ≡ 0 = omega arith in ap (λ (n : ℕ). take unit (drop n bytes)) none
    unit_at (suc k) below =
        let total : suc k * unit ≡ k * unit + unit = grind arith in
        let step : suc k ≡ k + 1 = omega arith in
        ap (λ (n : ℕ). take unit (drop (n * unit) bytes)) step ∙ sym (unit_on k (omega (arith, total, below))) ∙ unit_at k (omega (arith, total, below))

    -- so many units equal the first
    pub equal_run : (k : ℕ) → k * unit ≤ same → groups unit (take ((k + 1) * unit) bytes) ≡ replicate (k + 1) (take unit bytes)
    equal_run zero below = equal_first (omega (arith, within))
    equal_run (suc k) below =
        let total : suc k * unit ≡ k * unit + unit = grind arith in
        let step : suc k ≡ k + 1 = omega arith in
        let more : (suc k + 1) * unit ≡ suc k * unit + unit = grind arith in
        let so_far = ap (λ (n : ℕ). groups unit (take (n * unit) bytes)) step ∙ equal_run k (omega (arith, total, below)) ∙ ap (λ (n : ℕ). replicate n (take unit bytes)) (sym step) in
        equal_next (suc k) (take unit (drop (suc k * unit) bytes)) (omega (arith, more, below, within)) refl (unit_at (suc k) below) so_far
