-- Counts of what was given and of misses.
use Rattle.std.proofs.Common.{◌≡◌, ℕ, zero, suc, ◌+◌, ◌-◌, ◌^◌, ◌≤◌, ◌<◌, inl, inr, Bool, true, false, if◌then◌else◌, List, [], ◌∷◌, ◌++◌, map, set, get_or, take, length, refl, sym, ◌∙◌, ap, subst, arith}
use Rattle.std.specs.Prelude.{nat_lt, min}
use Rattle.std.proofs.lemmas.List.{take_more}
use Rattle.std.proofs.lemmas.Bool.{cases_lt}
use Rattle.std.proofs.lemmas.Bool.Decides.{nat_tests}
use Rattle.la_base.specs.declared.wires.Feed.{Feed}
use Rattle.stage_ring.specs.declared.ends.Tx.{Tx}
use Rattle.stage_ring.specs.Link.{more, more_if, sent, tx_misses}
use Rattle.stage_run.specs.Acts.{Acts, More, Passing, act_by}
use Rattle.stage_run.specs.Boxes.{sum}
use Rattle.stage_run.specs.declared.turn.Act.TheVariants.{Worked, Passed, Short, Missed}

module _ {A : Type 0} (f : A → ℕ) where
  -- the sum of all but the one at a place
  abbrev pub rest_sum : List A → ℕ → ℕ
  rest_sum [] place = 0
  rest_sum (x ∷ xs) zero = sum (map f xs)
  rest_sum (x ∷ xs) (suc place) = f x + rest_sum xs place

  pub sum_split : (xs : List A) (place : ℕ) (x : A) → place < length xs → x ≡ get_or xs place x → sum (map f xs) ≡ rest_sum xs place + f x
  sum_split [] place x low is = absurd (omega (arith, low))
  sum_split (y ∷ xs) zero x low is = let same = ap f is in omega (arith, same)
  sum_split (y ∷ xs) (suc place) x low is = let on = sum_split xs place x (omega (arith, low)) is in omega (arith, on)

  pub sum_set : (xs : List A) (place : ℕ) (x : A) → place < length xs → sum (map f (set xs place x)) ≡ rest_sum xs place + f x
  sum_set [] place x low = absurd (omega (arith, low))
  sum_set (y ∷ xs) zero x low = omega arith
  sum_set (y ∷ xs) (suc place) x low = let on = sum_set xs place x (omega (arith, low)) in omega (arith, on)

-- one more miss, among others
pub more_of : (rest m now : ℕ) → now ≡ more m → More (rest + m) (rest + now)
more_of rest m now is = elim (cases_lt m (2 ^ 64 - 1)) [
  | inl low ↦ inl (omega (arith, is, low))
  | inr high ↦ inr (omega (arith, high), omega (arith, is, high))
]

-- what giving some of what was kept counts
pub acts_of : (given kept old new rest m now misses after : ℕ) → given ≤ kept → new ≡ old + given → misses ≡ rest + m → after ≡ rest + now → now ≡ more_if (nat_lt given kept) m → Acts (act_by given kept) old new misses after
acts_of given kept old new rest m now misses after within counts had has is = by (nat_lt given kept) (nat_lt 0 given) refl refl is
  where
    by : (b c : Bool) → nat_lt given kept ≡ b → nat_lt 0 given ≡ c → now ≡ more_if b m → Acts (if b then (if c then Short else Missed) else (if c then Passed else Worked)) old new misses after
    by true true short some is = (let low : 0 < given = grind (arith, nat_tests) in omega (arith, counts, low), subst (λ n. More n after) (sym had) (subst (More (rest + m)) (sym has) (more_of rest m now is)))
    by true false short none is = (let zero_given : given ≤ 0 = grind (arith, nat_tests) in omega (arith, counts, zero_given), subst (λ n. More n after) (sym had) (subst (More (rest + m)) (sym has) (more_of rest m now is)))
    by false true all some is = (let low : 0 < given = grind (arith, nat_tests) in omega (arith, counts, low), omega (arith, had, has, is))
    by false false all none is = (let zero_given : given ≤ 0 = grind (arith, nat_tests) in omega (arith, counts, zero_given), omega (arith, had, has, is))

-- the same for one of several links
pub acts_child : (base missed given kept : ℕ) (xs : List (Tx Feed)) (place : ℕ) (old new : Tx Feed) → place < length xs → old ≡ get_or xs place old → given ≤ kept
    → length (sent new) ≡ length (sent old) + given → tx_misses new ≡ more_if (nat_lt given kept) (tx_misses old)
    → Acts (act_by given kept) (base + sum (map (λ tx. length (sent tx)) xs)) (base + sum (map (λ tx. length (sent tx)) (set xs place new)))
    (missed + sum (map tx_misses xs)) (missed + sum (map tx_misses (set xs place new)))
acts_child base missed given kept xs place old new low at within longer misses =
    let count = λ (tx : Tx Feed). length (sent tx) in
    let was = sum_split count xs place old low at in
    let is = sum_set count xs place new low in
    let had = sum_split tx_misses xs place old low at in
    let has = sum_set tx_misses xs place new low in
    acts_of given kept (base + sum (map count xs)) _ (missed + rest_sum tx_misses xs place) (tx_misses old) (tx_misses new) (missed + sum (map tx_misses xs)) _ within
    (omega (arith, was, is, longer)) (omega (arith, had)) (omega (arith, has)) misses

-- more was given or taken, whatever was before
pub passing_more : (b : Bool) (x y z : ℕ) → Passing b x y → y < z → x < z
passing_more true x y z before now = omega (arith, before, now)
passing_more false x y z before now = omega (arith, before, now)

pub passing_same : (b now : Bool) (x y z : ℕ) → now ≡ b → Passing b x y → z ≡ y → Passing now x z
passing_same b now x y z is before same = subst (Passing now x) (sym same) (subst (λ c. Passing c x y) (sym is) before)

pub passing_is : (now : Bool) (x z : ℕ) → now ≡ true → x < z → Passing now x z
passing_is now x z is more = subst (λ c. Passing c x z) (sym is) more

-- the sum of a front and one more
pub sum_next : {A : Type 0} (f : A → ℕ) (xs : List A) (i : ℕ) (x : A) → i < length xs → x ≡ get_or xs i x → sum (map f (take (i + 1) xs)) ≡ sum (map f (take i xs)) + f x
sum_next {A} f xs i x low is = ap (λ l. sum (map f l)) (take_more xs i x low) ∙ pushed (take i xs) (get_or xs i x) ∙ ap (λ y. sum (map f (take i xs)) + f y) (sym is)
  where
    pushed : (ys : List A) (y : A) → sum (map f (ys ++ y ∷ [])) ≡ sum (map f ys) + f y
    pushed [] y = omega arith
    pushed (z ∷ ys) y = let on = pushed ys y in omega (arith, on)

-- a count that stands still at the last value of its type
pub capped_more : (count added before now total : ℕ) → before ≡ min total (2 ^ 64 - 1) → now ≡ min (before + added) (2 ^ 64 - 1) → count ≡ total + added → now ≡ min count (2 ^ 64 - 1)
capped_more count added before now total had is sums = omega (arith, had, is, sums)
