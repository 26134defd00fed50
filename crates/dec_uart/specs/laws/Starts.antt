-- Where frames begin, and that more samples leave those starts where they are.
use Rattle.std.proofs.Common.{◌≡◌, ℕ, suc, ◌+◌, ◌<◌, ◌≤◌, Bool, true, false, List, [], ◌∷◌, ◌++◌}
use Rattle.std.proofs.Common.{length, Option, Some, None, refl, sym, ◌∙◌, ap, subst, arith}
use Rattle.std.proofs.Common.{length-append, if◌then◌else◌}
use Rattle.std.specs.Prelude.{nat_lt}
use Rattle.list_cuts.specs.Neighbours.{neighbours_from, last_of}
use Rattle.list_cuts.proofs.NeighbourLaws.{at_neighbours_push}
use Rattle.list_cuts.proofs.TestLaws.{when_yes, when_no, less_yes, less_no}
use Rattle.dec_uart.specs.Chain.{Shape, Look, is_fall, fall_at, falls, behind, look, starts_from}
use Rattle.dec_uart.specs.Chain.{starts}
use Rattle.dec_uart.specs.laws.Looks.{View, Far, Stray, On, All, view, look_stray, behind_low}
use Rattle.dec_uart.specs.laws.Looks.{behind_least, level_stays}

-- all of some places are below n
abbrev Below : ℕ → List ℕ → Type 0
Below n [] = Unit {0}
Below n (f ∷ fs) = (f < n) × Below n fs

below_more : (fs : List ℕ) (n m : ℕ) → n ≤ m → Below n fs → Below m fs
below_more [] n m less below = tt
below_more (f ∷ fs) n m less below = (omega (arith, less, below.0), below_more fs n m less below.1)

below_append : (xs ys : List ℕ) (n : ℕ) → Below n xs → Below n ys → Below n (xs ++ ys)
below_append [] ys n first rest = rest
below_append (x ∷ xs) ys n first rest = (first.0, below_append xs ys n first.1 rest)

fall_below : (rx k : ℕ) (before : Option ℕ) (now : ℕ) → Below (k + 1) (fall_at rx k before now)
fall_below rx k before now = by (is_fall rx before now)
  where
    by : (b : Bool) → Below (k + 1) (if b then k ∷ [] else [])
    by true = (omega arith, tt)
    by false = tt

-- a fall stands at a sample
falls_below : (rx : ℕ) (xs : List ℕ) (k : ℕ) (before : Option ℕ)
    → Below (k + length xs) (neighbours_from (fall_at rx) k before xs)
falls_below rx [] k before = tt
falls_below rx (x ∷ xs) k before =
    let place : k + 1 + length xs ≡ k + suc (length xs) = omega arith in
    below_append (fall_at rx k before x) (neighbours_from (fall_at rx) (k + 1) (Some x) xs)
    (k + suc (length xs))
    (below_more (fall_at rx k before x) (k + 1) (k + suc (length xs)) (omega arith)
    (fall_below rx k before x))
    (subst (λ (n : ℕ). Below n (neighbours_from (fall_at rx) (k + 1) (Some x) xs)) place
    (falls_below rx xs (k + 1) (Some x)))

module _ (c : Shape) (s : List ℕ) where
  -- the place from which on a fall may begin a frame, behind some frames
  abbrev pub free_of : ℕ → List ℕ → ℕ
  free_of from [] = from
  free_of from (f ∷ fs) = free_of (behind c f (look c s f)) fs

  pub free_last : (init : List ℕ) (f from : ℕ)
      → free_of from (init ++ f ∷ []) ≡ behind c f (look c s f)
  free_last [] f from = refl
  free_last (g ∷ init) f from = free_last init f (behind c g (look c s g))

  starts_append : (xs ys : List ℕ) (from : ℕ)
      → starts_from c s from (xs ++ ys)
      ≡ starts_from c s from xs ++ starts_from c s (free_of from (starts_from c s from xs)) ys
  starts_append [] ys from = refl
  starts_append (f ∷ xs) ys from =
      by (nat_lt f from) (starts_append xs ys from) (starts_append xs ys (behind c f (look c s f)))
    where
      next : ℕ
      next = behind c f (look c s f)

      by : (b : Bool)
          → starts_from c s from (xs ++ ys)
          ≡ starts_from c s from xs ++ starts_from c s (free_of from (starts_from c s from xs)) ys
          → starts_from c s next (xs ++ ys)
          ≡ starts_from c s next xs ++ starts_from c s (free_of next (starts_from c s next xs)) ys
          → (if b then starts_from c s from (xs ++ ys) else f ∷ starts_from c s next (xs ++ ys))
          ≡ (if b then starts_from c s from xs else f ∷ starts_from c s next xs)
          ++ starts_from c s
          (free_of from (if b then starts_from c s from xs else f ∷ starts_from c s next xs)) ys
      by true early late = early
      by false early late = ap (λ (l : List ℕ). f ∷ l) late

  -- no frame begins at falls before the place that is free
  starts_none : (fs : List ℕ) (from n : ℕ) → n ≤ from → Below n fs → starts_from c s from fs ≡ []
  starts_none [] from n high below = refl
  starts_none (f ∷ fs) from n high below =
      when_yes (nat_lt f from) _ _ (less_yes f from (omega (arith, high, below.0)))
      ∙ starts_none fs from n high below.1

module _ (c : Shape) (up : (i : ℕ) → c.point i < c.point (suc i)) (s more : List ℕ) where
  longer : length s ≤ length (s ++ more)
  longer = let e = length-append s more in omega (arith, e)

  -- more samples change no start
  starts_same : (fs : List ℕ) (from : ℕ) → Below (length s) fs
      → starts_from c (s ++ more) from fs ≡ starts_from c s from fs
  starts_same [] from below = refl
  starts_same (f ∷ fs) from below =
      by (nat_lt f from) (starts_same fs from below.1)
      (late (λ n. starts_same fs n below.1) (view c s f))
    where
      past_both : length s ≤ behind c f (look c (s ++ more) f) → length s ≤ behind c f (look c s f)
          → starts_from c (s ++ more) (behind c f (look c (s ++ more) f)) fs
          ≡ starts_from c s (behind c f (look c s f)) fs
      past_both one two =
          starts_none c (s ++ more) fs (behind c f (look c (s ++ more) f)) (length s) one below.1
          ∙ sym (starts_none c s fs (behind c f (look c s f)) (length s) two below.1)

      alike : ((n : ℕ) → starts_from c (s ++ more) n fs ≡ starts_from c s n fs)
          → behind c f (look c (s ++ more) f) ≡ behind c f (look c s f)
          → starts_from c (s ++ more) (behind c f (look c (s ++ more) f)) fs
          ≡ starts_from c s (behind c f (look c s f)) fs
      alike ih same =
          ih (behind c f (look c (s ++ more) f)) ∙ ap (λ (n : ℕ). starts_from c s n fs) same

      late : ((n : ℕ) → starts_from c (s ++ more) n fs ≡ starts_from c s n fs) → View c s f
          → starts_from c (s ++ more) (behind c f (look c (s ++ more) f)) fs
          ≡ starts_from c s (behind c f (look c s f)) fs
      late ih (Far past) =
          let one = behind_least c up f (look c (s ++ more) f) in
          let two = behind_least c up f (look c s f) in
          past_both (omega (arith, past, one)) (omega (arith, past, two))
      late ih (Stray within is) =
          alike ih (ap (λ (l : Look). behind c f l)
          (look_stray c (s ++ more) f (omega (arith, within, longer))
          (level_stays c up s more (f + c.point 0) within ∙ is)
          ∙ sym (look_stray c s f within is)))
      late ih (On within is past) =
          alike ih (behind_low c (s ++ more) f (omega (arith, within, longer))
          (level_stays c up s more (f + c.point 0) within ∙ is)
          ∙ sym (behind_low c s f within is))
      late ih (All within is all) =
          alike ih (behind_low c (s ++ more) f (omega (arith, within, longer))
          (level_stays c up s more (f + c.point 0) within ∙ is)
          ∙ sym (behind_low c s f within is))

      by : (b : Bool) → starts_from c (s ++ more) from fs ≡ starts_from c s from fs
          → starts_from c (s ++ more) (behind c f (look c (s ++ more) f)) fs
          ≡ starts_from c s (behind c f (look c s f)) fs
          → (if b then starts_from c (s ++ more) from fs
          else f ∷ starts_from c (s ++ more) (behind c f (look c (s ++ more) f)) fs)
          ≡ (if b then starts_from c s from fs
          else f ∷ starts_from c s (behind c f (look c s f)) fs)
      by true early then_ = early
      by false early then_ = ap (λ (l : List ℕ). f ∷ l) then_

-- one more sample adds a start where the line falls there and no frame before it goes on
module _ (c : Shape) (up : (i : ℕ) → c.point i < c.point (suc i)) (s : List ℕ) (now : ℕ) where
  abbrev whole : List ℕ
  whole = s ++ now ∷ []

  abbrev pub fall_here : List ℕ
  fall_here = fall_at c.rx (length s) (last_of s) now

  pub more_starts : starts c whole
      ≡ starts c s ++ starts_from c whole (free_of c whole 0 (starts c s)) fall_here
  more_starts =
      let same : starts_from c whole 0 (falls c.rx s) ≡ starts c s =
      starts_same c up s (now ∷ []) (falls c.rx s) 0
      (let z : 0 + length s ≡ length s = omega arith in
      subst (λ (n : ℕ). Below n (falls c.rx s)) z (falls_below c.rx s 0 None)) in
      ap (λ (l : List ℕ). starts_from c whole 0 l) (at_neighbours_push (fall_at c.rx) s now)
      ∙ starts_append c whole (falls c.rx s) fall_here 0
      ∙ (λ k. same k ++ starts_from c whole (free_of c whole 0 (same k)) fall_here)

  pub one_start : (from : ℕ) → is_fall c.rx (last_of s) now ≡ true → from ≤ length s
      → starts_from c whole from fall_here ≡ length s ∷ []
  one_start from fall free =
      ap (λ (b : Bool). starts_from c whole from (if b then length s ∷ [] else [])) fall
      ∙ when_no (nat_lt (length s) from) _ _ (less_no (length s) from free)

  pub no_start : (from : ℕ) → is_fall c.rx (last_of s) now ≡ false
      → starts_from c whole from fall_here ≡ []
  no_start from none =
      ap (λ (b : Bool). starts_from c whole from (if b then length s ∷ [] else [])) none

  pub taken_start : (from : ℕ) → length s < from → starts_from c whole from fall_here ≡ []
  taken_start from busy = by (is_fall c.rx (last_of s) now)
    where
      by : (b : Bool) → starts_from c whole from (if b then length s ∷ [] else []) ≡ []
      by true = when_yes (nat_lt (length s) from) _ _ (less_yes (length s) from busy)
      by false = refl
