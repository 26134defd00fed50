-- What a frame shows, and that more samples leave it where it has nothing more to give.
use Rattle.std.proofs.Common.{◌≡◌, inl, inr, ℕ, zero, suc, ◌+◌, ◌<◌, ◌≤◌, Bool, true, false, List}
use Rattle.std.proofs.Common.{[], ◌∷◌, ◌++◌, drop, length, Option, Some, None, refl, sym, ◌∙◌, ap}
use Rattle.std.proofs.Common.{arith, length-append, if◌then◌else◌}
use Rattle.std.specs.Prelude.{nat_lt}
use Rattle.std.proofs.lemmas.Bool.{cases_eq, cases_lt, true≢false}
use Rattle.std.proofs.lemmas.List.{get_or_append_left, drop-append-le}
use Rattle.la_base.specs.Samples.{is_high}
use Rattle.list_cuts.proofs.TestLaws.{when_yes, when_no, less_yes, less_no}
use Rattle.dec_uart.specs.Chain.{Shape, Look, Ahead, FalseStart, Whole, AllLow, any_high, high_from}
use Rattle.dec_uart.specs.Chain.{is_open, behind, level, levels_at, all_points, look}

-- the first high sample stays the first, and is looked for in what follows where there is none
high_stays : (rx k r : ℕ) (xs ys : List ℕ) → high_from rx k xs ≡ Some r
    → high_from rx k (xs ++ ys) ≡ Some r
high_stays rx k r [] ys is = absurd cc
high_stays rx k r (x ∷ xs) ys is = by (λ e. high_stays rx (k + 1) r xs ys e) (is_high x rx) is
  where
    by : (high_from rx (k + 1) xs ≡ Some r → high_from rx (k + 1) (xs ++ ys) ≡ Some r) → (b : Bool)
        → (if b then Some k else high_from rx (k + 1) xs) ≡ Some r
        → (if b then Some k else high_from rx (k + 1) (xs ++ ys)) ≡ Some r
    by ih true e = e
    by ih false e = ih e

pub high_later : (rx k : ℕ) (xs ys : List ℕ) → high_from rx k xs ≡ None
    → high_from rx k (xs ++ ys) ≡ high_from rx (k + length xs) ys
high_later rx k [] ys is = let same : k ≡ k + 0 = omega arith in
    ap (λ (n : ℕ). high_from rx n ys) same
high_later rx k (x ∷ xs) ys is = by (λ e. high_later rx (k + 1) xs ys e) (is_high x rx) is
  where
    place : k + 1 + length xs ≡ k + suc (length xs)
    place = omega arith

    by : (high_from rx (k + 1) xs ≡ None
        → high_from rx (k + 1) (xs ++ ys) ≡ high_from rx (k + 1 + length xs) ys) → (b : Bool)
        → (if b then Some k else high_from rx (k + 1) xs) ≡ None
        → (if b then Some k else high_from rx (k + 1) (xs ++ ys))
        ≡ high_from rx (k + suc (length xs)) ys
    by ih true e = absurd cc
    by ih false e = ih e ∙ ap (λ (n : ℕ). high_from rx n ys) place

-- where a frame stands in samples: its point 0 lies behind them; it is high there; it is low there,
-- and its last point lies behind them; or they have all its points
pub data View (c : Shape) (s : List ℕ) (f : ℕ) : Type 0 where
  Far : length s ≤ f + c.point 0 → View c s f
  Stray : f + c.point 0 < length s → level c s (f + c.point 0) ≡ true → View c s f
  On : f + c.point 0 < length s → level c s (f + c.point 0) ≡ false → length s ≤ f + c.point c.last
      → View c s f
  All : f + c.point 0 < length s → level c s (f + c.point 0) ≡ false → f + c.point c.last < length s
      → View c s f

pub view : (c : Shape) (s : List ℕ) (f : ℕ) → View c s f
view c s f = elim (cases_lt (f + c.point 0) (length s)) [
  | inl within ↦ by within (level c s (f + c.point 0)) refl
  | inr past ↦ Far (omega (arith, past))
]
  where
    by : f + c.point 0 < length s → (b : Bool) → level c s (f + c.point 0) ≡ b → View c s f
    by within true is = Stray within is
    by within false is = elim (cases_lt (f + c.point c.last) (length s)) [
      | inl all ↦ All within is all
      | inr past ↦ On within is (omega (arith, past))
    ]

module _ (c : Shape) (s : List ℕ) (f : ℕ) where
  pub look_far : length s ≤ f + c.point 0 → look c s f ≡ Ahead
  look_far past =
      when_no (nat_lt (f + c.point 0) (length s)) _ _ (less_no (f + c.point 0) (length s) past)

  pub look_stray : f + c.point 0 < length s → level c s (f + c.point 0) ≡ true
      → look c s f ≡ FalseStart
  look_stray within is =
      when_yes (nat_lt (f + c.point 0) (length s)) _ _ (less_yes (f + c.point 0) (length s) within)
      ∙ when_yes (level c s (f + c.point 0)) _ _ is

  pub look_on : f + c.point 0 < length s → level c s (f + c.point 0) ≡ false
      → length s ≤ f + c.point c.last → look c s f ≡ Ahead
  look_on within is past =
      when_yes (nat_lt (f + c.point 0) (length s)) _ _ (less_yes (f + c.point 0) (length s) within)
      ∙ when_no (level c s (f + c.point 0)) _ _ is
      ∙ when_no (nat_lt (f + c.point c.last) (length s)) _ _
      (less_no (f + c.point c.last) (length s) past)

  pub look_all : f + c.point 0 < length s → level c s (f + c.point 0) ≡ false
      → f + c.point c.last < length s → look c s f ≡ all_points c s f (levels_at c s f (suc c.last))
  look_all within is all =
      when_yes (nat_lt (f + c.point 0) (length s)) _ _ (less_yes (f + c.point 0) (length s) within)
      ∙ when_no (level c s (f + c.point 0)) _ _ is
      ∙ when_yes (nat_lt (f + c.point c.last) (length s)) _ _
      (less_yes (f + c.point c.last) (length s) all)

  behind_all : (levels : List Bool) → behind c f (all_points c s f levels) ≡ f + c.point c.last + 1
  behind_all levels = by (any_high levels)
    where
      by : (b : Bool) → behind c f
          (if b then Whole levels else AllLow levels
          (high_from c.rx (f + c.point c.last + 1) (drop (f + c.point c.last + 1) s)))
          ≡ f + c.point c.last + 1
      by true = refl
      by false = refl

  -- a frame whose first point is low ends at its last point
  pub behind_low : f + c.point 0 < length s → level c s (f + c.point 0) ≡ false
      → behind c f (look c s f) ≡ f + c.point c.last + 1
  behind_low within is = elim (cases_lt (f + c.point c.last) (length s)) [
    | inl all ↦ ap (λ (l : Look). behind c f l) (look_all within is all)
        ∙ behind_all (levels_at c s f (suc c.last))
    | inr past ↦ ap (λ (l : Look). behind c f l) (look_on within is (omega (arith, past)))
  ]

  pub levels_count : (m : ℕ) → length (levels_at c s f m) ≡ m
  levels_count zero = refl
  levels_count (suc i) =
      let had = levels_count i in
      let e = length-append (levels_at c s f i) (level c s (f + c.point i) ∷ []) in
      omega (arith, had, e)

module _ (c : Shape) (up : (i : ℕ) → c.point i < c.point (suc i)) where
  pub rising : (i j : ℕ) → i ≤ j → c.point i ≤ c.point j
  rising i zero within =
      let same : i ≡ 0 = omega (arith, within) in
      let e : c.point i ≡ c.point 0 = ap c.point same in
      omega (arith, e)
  rising i (suc j) within = elim (cases_eq i (suc j)) [
    | inl same ↦ let e : c.point i ≡ c.point (suc j) = ap c.point same in omega (arith, e)
    | inr other ↦ let r = rising i j (omega (arith, within, other)) in omega (arith, r, up j)
  ]

  -- whatever a frame shows, its point 0 is looked at
  pub behind_least : (f : ℕ) (l : Look) → f + c.point 0 + 1 ≤ behind c f l
  behind_least f FalseStart = omega arith
  behind_least f Ahead = let r = rising 0 c.last (omega arith) in omega (arith, r)
  behind_least f (Whole levels) = let r = rising 0 c.last (omega arith) in omega (arith, r)
  behind_least f (AllLow levels high) = let r = rising 0 c.last (omega arith) in omega (arith, r)

  module _ (s more : List ℕ) where
    longer : length s ≤ length (s ++ more)
    longer = let e = length-append s more in omega (arith, e)

    pub level_stays : (k : ℕ) → k < length s → level c (s ++ more) k ≡ level c s k
    level_stays k within = ap (λ (n : ℕ). is_high n c.rx) (get_or_append_left s more 0 k within)

    -- the levels at points that the samples have
    pub levels_stay : (f m : ℕ) → ((j : ℕ) → m ≡ suc j → f + c.point j < length s)
        → levels_at c (s ++ more) f m ≡ levels_at c s f m
    levels_stay f zero before = refl
    levels_stay f (suc i) before =
        let here : f + c.point i < length s = before i refl in
        let early : levels_at c (s ++ more) f i ≡ levels_at c s f i =
        levels_stay f i
        (λ j e. let r = rising j i (omega (arith, e)) in omega (arith, r, here)) in
        λ k. early k ++ level_stays (f + c.point i) here k ∷ []

    pub all_levels_stay : (f : ℕ) → f + c.point c.last < length s
        → levels_at c (s ++ more) f (suc c.last) ≡ levels_at c s f (suc c.last)
    all_levels_stay f all =
        levels_stay f (suc c.last)
        (λ j e. let r = rising j c.last (omega (arith, e)) in omega (arith, r, all))

    all_stays : (f : ℕ) (levels : List Bool) → f + c.point c.last < length s
        → is_open (all_points c s f levels) ≡ false
        → all_points c (s ++ more) f levels ≡ all_points c s f levels
    all_stays f levels all closed = by (any_high levels) (high_from c.rx at (drop at s)) refl closed
      where
        at : ℕ
        at = f + c.point c.last + 1

        cut : drop at (s ++ more) ≡ drop at s ++ more
        cut = drop-append-le at s more (omega (arith, all))

        by : (b : Bool) (o : Option ℕ) → high_from c.rx at (drop at s) ≡ o
            → is_open (if b then Whole levels else AllLow levels (high_from c.rx at (drop at s)))
            ≡ false
            → (if b then Whole levels else AllLow levels (high_from c.rx at (drop at (s ++ more))))
            ≡ (if b then Whole levels else AllLow levels (high_from c.rx at (drop at s)))
        by true o is e = refl
        by false None is e =
            absurd (true≢false (sym (ap (λ (x : Option ℕ). is_open (AllLow levels x)) is) ∙ e))
        by false (Some r) is e =
            ap (AllLow levels)
            (ap (λ (l : List ℕ). high_from c.rx at l) cut ∙ high_stays c.rx at r (drop at s) more is
            ∙ sym is)

    -- what has nothing more to give stays as it is
    pub look_stays : (f : ℕ) → is_open (look c s f) ≡ false → look c (s ++ more) f ≡ look c s f
    look_stays f closed = by (view c s f)
      where
        by : View c s f → look c (s ++ more) f ≡ look c s f
        by (Far past) = absurd (true≢false (sym (ap is_open (look_far c s f past)) ∙ closed))
        by (Stray within is) =
            look_stray c (s ++ more) f (omega (arith, within, longer))
            (level_stays (f + c.point 0) within ∙ is) ∙ sym (look_stray c s f within is)
        by (On within is past) =
            absurd (true≢false (sym (ap is_open (look_on c s f within is past)) ∙ closed))
        by (All within is all) =
            look_all c (s ++ more) f (omega (arith, within, longer))
            (level_stays (f + c.point 0) within ∙ is) (omega (arith, all, longer))
            ∙ ap (λ (l : List Bool). all_points c (s ++ more) f l) (all_levels_stay f all)
            ∙ all_stays f (levels_at c s f (suc c.last)) all
            (ap is_open (sym (look_all c s f within is all)) ∙ closed)
            ∙ sym (look_all c s f within is all)
