-- What half runs mean, one behind another.
use Rattle.std.proofs.Common.{◌≡◌, ◌≤◌, ◌<◌, ℕ, zero, suc, ◌+◌, ◌*◌, ◌/◌, ◌%◌, ◌^◌, Bool, true, false, List, [], ◌∷◌, ◌++◌, map, length, length-append, refl, ◌∙◌, ap, sym, arith, append_assoc, if◌then◌else◌}
use Rattle.std.specs.Prelude.{nat_eq}
use Rattle.std.specs.List.{All}
use Rattle.std.proofs.Props.{props}
use Rattle.std.proofs.lemmas.Bool.Decides.{nat_tests}
use Rattle.std.proofs.lemmas.List.{append-nil}
use Rattle.la_base.specs.declared.samples.Run.{Run}
use Rattle.la_base.specs.declared.wires.Feed.{Feed}
use Rattle.la_base.specs.declared.wires.Feed.TheVariants.{Run as RunFeed, End as EndFeed}
use Rattle.stage_run.specs.Inputs.{at_least_one, feeds_by, feeds_in, half_run_of, telling, told_behind, upper_by, upper_of, whole_value}
use Rattle.stage_run.specs.declared.input.HalfRun.{HalfRun}

-- half runs in parts
pub feeds_in-append : (upper : ℕ) (xs ys : List HalfRun) → feeds_in upper (xs ++ ys) ≡ feeds_in upper xs ++ feeds_in (told_behind upper xs) ys
feeds_in-append upper [] ys = refl
feeds_in-append upper (x ∷ xs) ys =
    let behind = upper_by upper x.value x.len in
    ap (λ (l : List Feed). feeds_by upper x.value x.len ++ l) (feeds_in-append behind xs ys) ∙ sym (append_assoc (feeds_by upper x.value x.len) (feeds_in behind xs) (feeds_in (told_behind behind xs) ys))

pub told-append : (upper : ℕ) (xs ys : List HalfRun) → told_behind upper (xs ++ ys) ≡ told_behind (told_behind upper xs) ys
told-append upper [] ys = refl
told-append upper (x ∷ xs) ys = told-append (upper_by upper x.value x.len) xs ys

feeds_by_few : (upper value len : ℕ) → length (feeds_by upper value len) ≤ 1
feeds_by_few upper value zero = by (nat_eq value upper)
  where
    by : (b : Bool) → length (if b then EndFeed ∷ [] else []) ≤ 1
    by true = omega arith
    by false = omega arith
feeds_by_few upper value (suc n) = omega arith

pub feeds_in_few : (upper : ℕ) (xs : List HalfRun) → length (feeds_in upper xs) ≤ length xs
feeds_in_few upper [] = omega arith
feeds_in_few upper (x ∷ xs) =
    let behind = upper_by upper x.value x.len in
    omega (arith, length-append (feeds_by upper x.value x.len) (feeds_in behind xs), feeds_by_few upper x.value x.len, feeds_in_few behind xs)

-- one with samples
run_feed : (upper value len : ℕ) (whole : ℕ) (some : 1 ≤ len) → whole_value upper value ≡ whole → feeds_by upper value len ≡ RunFeed (record { value = whole; len = len; not_empty = some }) ∷ []
run_feed upper value zero whole some is = absurd (omega (arith, some))
run_feed upper value (suc n) whole some is =
    let one : IsProp (1 ≤ suc n) = hlevel props in
    ap (λ (v : ℕ). RunFeed (record { value = v; len = suc n; not_empty = at_least_one n }) ∷ []) is
    ∙ ap (λ (e : 1 ≤ suc n). RunFeed (record { value = whole; len = suc n; not_empty = e }) ∷ []) (one (at_least_one n) some)

pub told_more : (upper value len : ℕ) → 0 < len → upper_by upper value len ≡ upper
told_more upper value zero more = absurd (omega (arith, more))
told_more upper value (suc n) more = refl

halves : (word upper : ℕ) → word / 2 ^ 64 ≡ upper → upper * 2 ^ 64 + word % 2 ^ 64 ≡ word
halves word upper is = omega (arith, is)

-- runs whose upper half of the lines was told
pub plain_feeds : (upper : ℕ) (runs : List Run) → All (λ run. upper_of run ≡ upper) runs → (feeds_in upper (map half_run_of runs) ≡ map RunFeed runs) × (told_behind upper (map half_run_of runs) ≡ upper)
plain_feeds upper [] all = (refl, refl)
plain_feeds upper (run ∷ runs) all =
    let on = plain_feeds upper runs (λ i d low. all (suc i) d (omega (arith, low))) in
    let low = run.value % 2 ^ 64 in
    let still = told_more upper low run.len run.not_empty in (
      (λ i. run_feed upper low run.len run.value run.not_empty (halves run.value upper (all 0 run (omega arith))) i ++ feeds_in (still i) (map half_run_of runs)) ∙ ap (λ (l : List Feed). RunFeed run ∷ l) on.0,
      ap (λ n. told_behind n (map half_run_of runs)) still ∙ on.1,
    )

-- the end, and what tells something else, behind others
module _ (front : List HalfRun) (upper was : ℕ) (told : told_behind 0 front ≡ was) where
  tells : feeds_in 0 (front ++ telling upper ∷ []) ≡ feeds_in 0 front ++ feeds_by was upper 0
  tells =
      let new : List Feed = feeds_by was upper 0 in
      let behind : feeds_in was (telling upper ∷ []) ≡ new = append-nil new in
      feeds_in-append 0 front (telling upper ∷ []) ∙ ap (λ (n : ℕ). feeds_in 0 front ++ feeds_in n (telling upper ∷ [])) told ∙ ap (λ (l : List Feed). feeds_in 0 front ++ l) behind

  pub end_feeds : upper ≡ was → feeds_in 0 (front ++ telling upper ∷ []) ≡ feeds_in 0 front ++ EndFeed ∷ []
  end_feeds same = let is : nat_eq upper was ≡ true = grind (arith, nat_tests, same) in tells ∙ ap (λ (b : Bool). feeds_in 0 front ++ (if b then EndFeed ∷ [] else [])) is

  pub tell_feeds : nat_eq upper was ≡ false → feeds_in 0 (front ++ telling upper ∷ []) ≡ feeds_in 0 front
  tell_feeds other = tells ∙ ap (λ (b : Bool). feeds_in 0 front ++ (if b then EndFeed ∷ [] else [])) other ∙ append-nil (feeds_in 0 front)

  pub tell_told : told_behind 0 (front ++ telling upper ∷ []) ≡ upper
  tell_told = told-append 0 front (telling upper ∷ [])
