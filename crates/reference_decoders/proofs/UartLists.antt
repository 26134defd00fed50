-- The lists of the reference program of serial lines, element by element.
use Rattle.std.proofs.Common.{◌≡◌, ◌≢◌, ◌-◌, ℕ, zero, suc, ◌+◌, ◌<◌, ◌≤◌, Bool, true, false, List, [], ◌∷◌, ◌++◌, length, take, drop, get_or, Option, Some, None, sym, ◌∙◌, ap, arith, subst, drop-cons, if◌then◌else◌}
use Rattle.std.specs.Prelude.{nat_lt}
use Rattle.std.proofs.lemmas.List.{drop_all, take_more, take_all, append-nil, nil_from_length}
use Rattle.la_base.specs.Samples.{is_high}
use Rattle.list_cuts.specs.Neighbours.{neighbours_from, last_of}
use Rattle.list_cuts.proofs.TestLaws.{when_yes, when_no, less_yes, less_no}
use Rattle.dec_uart.specs.Chain.{Shape, Whole, AllLow, is_fall, fall_at, falls, high_from, level, levels_at, any_high, all_points, look, behind, starts_from, starts, look_outs, frames_outs, near_of, chain_outs, chain_near}
use Rattle.list_cuts.proofs.NeighbourLaws.{last_from_push}
use Rattle.std.proofs.lemmas.Grind.{flat_map-append}
use Rattle.dec_uart.specs.laws.Looks.{look_all}

module _ (rx from : ℕ) (xs : List ℕ) (i : ℕ) where
  pub high_here : i < length xs → is_high (get_or xs i 0) rx ≡ true → high_from rx (from + i) (drop i xs) ≡ Some (from + i)
  high_here within high =
      ap (λ l. high_from rx (from + i) l) (drop-cons xs i 0 within)
      ∙ when_yes (is_high (get_or xs i 0) rx) (Some (from + i)) _ high

  pub high_not_here : i < length xs → is_high (get_or xs i 0) rx ≡ false → high_from rx (from + (i + 1)) (drop (i + 1) xs) ≡ high_from rx (from + i) (drop i xs)
  high_not_here within low =
      let place : from + i + 1 ≡ from + (i + 1) = omega arith in
      let next : suc i ≡ i + 1 = omega arith in
      sym (ap (λ l. high_from rx (from + i) l) (drop-cons xs i 0 within)
      ∙ when_no (is_high (get_or xs i 0) rx) (Some (from + i)) (high_from rx (from + i + 1) (drop (suc i) xs)) low
      ∙ (λ j. high_from rx (place j) (drop (next j) xs)))

  pub high_no_more : length xs ≤ i → high_from rx (from + i) (drop i xs) ≡ None
  high_no_more past = ap (λ l. high_from rx (from + i) l) (drop_all i xs past)

-- all of the place from which the line is high
pub ruleset first_high = (high_here, high_not_here, high_no_more)

module _ (c : Shape) (s : List ℕ) (f : ℕ) where
  pub levels_more : (i : ℕ) (old new : List Bool) (here : Bool) (p : ℕ) → old ≡ levels_at c s f i → p ≡ c.point i → here ≡ level c s (f + p) → new ≡ old ++ here ∷ [] → new ≡ levels_at c s f (i + 1)
  levels_more i old new here p so_far place is pushed =
      let next : suc i ≡ i + 1 = omega arith in
      pushed
      ∙ (λ j. so_far j ++ (is ∙ ap (λ n. level c s (f + n)) place) j ∷ [])
      ∙ ap (λ n. levels_at c s f n) next

  -- the points as the program has them: the first and the last, and the number of the last
  module _ (p0 pl m : ℕ) (first_is : p0 ≡ c.point 0) (last_is : pl ≡ c.point m) (m_is : m ≡ c.last)
      (first : f + p0 < length s) (low : level c s (f + p0) ≡ false) (last : f + pl < length s) (levels : List Bool) (is : levels ≡ levels_at c s f (m + 1)) where
    last_point : pl ≡ c.point c.last
    last_point = last_is ∙ ap (λ n. c.point n) m_is

    points_are : all_points c s f levels ≡ look c s f
    points_are =
        let count : m + 1 ≡ suc c.last = omega (arith, m_is) in
        ap (λ l. all_points c s f l) (is ∙ ap (λ n. levels_at c s f n) count)
        ∙ sym (look_all c s f (omega (arith, first, first_is)) (ap (λ n. level c s (f + n)) (sym first_is) ∙ low) (omega (arith, last, last_point)))

    pub some_high : any_high levels ≡ true → Whole levels ≡ look c s f
    some_high high = sym (when_yes (any_high levels) (Whole levels) _ high) ∙ points_are

    pub none_high : (high : Option ℕ) → any_high levels ≡ false → high ≡ high_from c.rx (f + pl + 1) (drop (f + pl + 1) s) → AllLow levels high ≡ look c s f
    none_high high none next =
        ap (λ h. AllLow levels h) (next ∙ ap (λ n. high_from c.rx (f + n + 1) (drop (f + n + 1) s)) last_point)
        ∙ sym (when_no (any_high levels) (Whole levels) _ none)
        ∙ points_are

  pub start_here : (from : ℕ) (later : List ℕ) → from ≤ f → starts_from c s from (f ∷ later) ≡ f ∷ starts_from c s (behind c f (look c s f)) later
  start_here from later less = when_no (nat_lt f from) _ _ (less_no f from less)

  pub start_not_here : (from : ℕ) (later : List ℕ) → f < from → starts_from c s from (f ∷ later) ≡ starts_from c s from later
  start_not_here from later less = when_yes (nat_lt f from) _ _ (less_yes f from less)

-- falls stand at samples, and so do starts
abbrev Below : ℕ → List ℕ → Type 0
Below n [] = Unit {0}
Below n (f ∷ fs) = (f < n) × Below n fs

below_at : (n : ℕ) (fs : List ℕ) (i d : ℕ) → i < length fs → Below n fs → get_or fs i d < n
below_at n [] i d within below = absurd (omega (arith, within))
below_at n (f ∷ fs) zero d within below = below.0
below_at n (f ∷ fs) (suc i) d within below = below_at n fs i d (omega (arith, within)) below.1

below_append : (n : ℕ) (xs ys : List ℕ) → Below n xs → Below n ys → Below n (xs ++ ys)
below_append n [] ys first rest = rest
below_append n (x ∷ xs) ys first rest = (first.0, below_append n xs ys first.1 rest)

fall_below : (rx k n : ℕ) (before : Option ℕ) (now : ℕ) → k < n → Below n (fall_at rx k before now)
fall_below rx k n before now less = by (is_fall rx before now)
  where
    by : (b : Bool) → Below n (if b then k ∷ [] else [])
    by true = (less, tt)
    by false = tt

falls_below : (rx : ℕ) (xs : List ℕ) (k n : ℕ) (before : Option ℕ) → k + length xs ≤ n → Below n (neighbours_from (fall_at rx) k before xs)
falls_below rx [] k n before less = tt
falls_below rx (x ∷ xs) k n before less =
    below_append n (fall_at rx k before x) (neighbours_from (fall_at rx) (k + 1) (Some x) xs)
    (fall_below rx k n before x (omega (arith, less)))
    (falls_below rx xs (k + 1) n (Some x) (omega (arith, less)))

module _ (c : Shape) (s : List ℕ) where
  starts_below : (n from : ℕ) (fs : List ℕ) → Below n fs → Below n (starts_from c s from fs)
  starts_below n from [] below = tt
  starts_below n from (f ∷ fs) below =
      by (nat_lt f from) (starts_below n from fs below.1) (starts_below n (behind c f (look c s f)) fs below.1)
    where
      by : (b : Bool) → Below n (starts_from c s from fs) → Below n (starts_from c s (behind c f (look c s f)) fs)
          → Below n (if b then starts_from c s from fs else f ∷ starts_from c s (behind c f (look c s f)) fs)
      by true skipped kept = skipped
      by false skipped kept = (below.0, kept)

  all_falls_below : Below (length s) (falls c.rx s)
  all_falls_below = falls_below c.rx s 0 (length s) None (omega arith)

  pub fall_early : (fs : List ℕ) (i d : ℕ) → fs ≡ falls c.rx s → i < length fs → get_or fs i d < length s
  fall_early fs i d is within = below_at (length s) fs i d within (subst (λ l. Below (length s) l) (sym is) all_falls_below)

  pub start_early : (fs : List ℕ) (i d : ℕ) → fs ≡ starts c s → i < length fs → get_or fs i d < length s
  start_early fs i d is within = below_at (length s) fs i d within (subst (λ l. Below (length s) l) (sym is) (starts_below (length s) 0 (falls c.rx s) all_falls_below))

  pub frames_are : (fs : List ℕ) → fs ≡ starts c s → frames_outs c s fs ≡ chain_outs c s
  unfolding chain_outs
  frames_are fs is = ap (λ l. frames_outs c s l) is

  pub frames_more : (fs : List ℕ) (i d : ℕ) → i < length fs → frames_outs c s (take (i + 1) fs) ≡ frames_outs c s (take i fs) ++ look_outs c (get_or fs i d) (look c s (get_or fs i d))
  frames_more fs i d within =
      ap (λ l. frames_outs c s l) (take_more fs i d within)
      ∙ flat_map-append (λ f. look_outs c f (look c s f)) (take i fs) (get_or fs i d ∷ [])
      ∙ ap (λ l. frames_outs c s (take i fs) ++ l) (append-nil (look_outs c (get_or fs i d) (look c s (get_or fs i d))))

  -- what is near, by the last start
  pub near_none : (fs : List ℕ) → fs ≡ starts c s → length fs ≡ 0 → length s ≡ chain_near c s
  unfolding chain_near
  near_none fs is none = sym (ap (λ l. near_of c s (last_of l)) (sym is ∙ nil_from_length fs none))

  pub last_early : (fs : List ℕ) (d : ℕ) → fs ≡ starts c s → length fs ≢ 0 → get_or fs (length fs - 1) d < length s
  last_early fs d is some = start_early fs (length fs - 1) d is (omega (arith, some))

  pub near_last : (fs : List ℕ) (i d : ℕ) → fs ≡ starts c s → i + 1 ≡ length fs → near_of c s (Some (get_or fs i d)) ≡ chain_near c s
  unfolding chain_near
  near_last fs i d is last =
      let all : fs ≡ take i fs ++ get_or fs i d ∷ [] = sym (ap (λ n. take n fs) last ∙ take_all (length fs) fs (omega arith)) ∙ take_more fs i d (omega (arith, last)) in
      sym (ap (λ l. near_of c s (last_of l)) (sym is ∙ all) ∙ ap (λ o. near_of c s o) (last_from_push (take i fs) (get_or fs i d) None))
