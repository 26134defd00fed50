-- The walk over a line is sound: what is waited for is what changes or gives something.
use Rattle.std.proofs.Common.{◌≡◌, ◌⊎◌, inl, inr, ℕ, zero, suc, ◌+◌, ◌-◌, ◌<◌, ◌≤◌, Bool, true}
use Rattle.std.proofs.Common.{false, not, List, [], ◌∷◌, ◌++◌, length, Option, Some, None, refl}
use Rattle.std.proofs.Common.{sym, ◌∙◌, ap, subst, arith, length-append, if◌then◌else◌}
use Rattle.std.specs.Prelude.{nat_lt, ◌&&◌}
use Rattle.std.specs.Int.{bit_at}
use Rattle.std.proofs.lemmas.Bool.{cases_lt, true≢false}
use Rattle.std.proofs.lemmas.Nat.Bits.{bit_at-pow_same}
use Rattle.la_base.specs.Samples.{is_high}
use Rattle.wait_cond.specs.Meets.{Falls, MeetsAt}
use Rattle.list_cuts.proofs.TestLaws.{when_yes, when_no, less_yes, less_no}
use Rattle.decoder_core.specs.Promises.{NotesFrom, packet_starts}
use Rattle.sample_walks.specs.Walks.{Between, Sound}
use Rattle.sample_walks.specs.laws.AltLaws.{no_line, at_line, high_is, high_bit, low_is, low_bit}
use Rattle.sample_walks.specs.laws.AltLaws.{alone_none, alone_some}
use Rattle.dec_uart.specs.Chain.{Shape, any_high, is_fall}
use Rattle.dec_uart.specs.laws.Machine.{Kept, Idle, Inside, Low, is_false_start, after_all}
use Rattle.dec_uart.specs.laws.Machine.{point_next, line_next, line_gives, line_moves, line_near}
use Rattle.dec_uart.specs.laws.Machine.{fall_alt, high_alt, skip_alt, reached_by, line_alt}
use Rattle.dec_uart.specs.laws.Machine.{line_walk}

-- what the outputs of a shape owe: they are few, notes and packets start where the frame does
pub record Tame (c : Shape) : Type 0 where
  pub false_few : (f q : ℕ) → length (c.false_start f q) ≤ 16
  pub frame_few : (f q : ℕ) (levels : List Bool) → length (c.frame f q levels) ≤ 16
  pub rise_few : (f q : ℕ) → length (c.rise f q) ≤ 16
  pub false_notes : (f q : ℕ) → f ≤ q → NotesFrom f (c.false_start f q)
  pub frame_notes : (f q : ℕ) (levels : List Bool) → f ≤ q → NotesFrom f (c.frame f q levels)
  pub rise_notes : (f q : ℕ) → f ≤ q → NotesFrom f (c.rise f q)
  pub false_packets : (f q high : ℕ) → f ≤ q → f ≤ high
      → Between f high (packet_starts (c.false_start f q))
  pub frame_packets : (f q : ℕ) (levels : List Bool) (high : ℕ) → f ≤ q → f ≤ high
      → Between f high (packet_starts (c.frame f q levels))
  pub rise_packets : (f q high : ℕ) → f ≤ q → f ≤ high → Between f high (packet_starts (c.rise f q))

-- a state may stand behind so many samples, whatever the last of them is, and may do so where the
-- last stop was just before that place
module _ (c : Shape) where
  abbrev pub line_fits : Kept → ℕ → Option ℕ → Type 0
  line_fits Idle q before = Unit {0}
  line_fits (Inside f levels) q before =
      (f < q) × (q ≤ f + c.point (length levels)) × (length levels ≤ c.last)
  line_fits (Low f) q before = f ≤ q

  abbrev pub line_timed : Kept → ℕ → Type 0
  line_timed Idle from = Unit {0}
  line_timed (Inside f levels) from = from ≡ f + reached_by c (length levels) + 1
  line_timed (Low f) from = Unit {0}

module _ (rx : ℕ) (before : Option ℕ) (now from q : ℕ) where
  falls_if : is_fall rx before now ≡ true → Falls before now rx
  falls_if is = by before is
    where
      at : (was : ℕ) (a b : Bool) → is_high was rx ≡ a → is_high now rx ≡ b → (a && not b) ≡ true
          → Falls (Some was) now rx
      at was true false high low e = (high_bit was rx high, low_bit now rx low)
      at was true true high low e = absurd (true≢false (sym e))
      at was false b high low e = absurd (true≢false (sym e))

      by : (o : Option ℕ) → is_fall rx o now ≡ true → Falls o now rx
      by None e = absurd (true≢false (sym e))
      by (Some was) e = at was (is_high was rx) (is_high now rx) refl refl e

  fall_then : Falls before now rx → is_fall rx before now ≡ true
  fall_then falls = by before falls
    where
      by : (o : Option ℕ) → Falls o now rx → is_fall rx o now ≡ true
      by None e = absurd e
      by (Some was) e = λ i. high_is was rx e.0 i && not (low_is now rx e.1 i)

  fall_meets : is_fall rx before now ≡ true → MeetsAt (fall_alt rx) before now from q
  fall_meets is = record {
    lines = record {
      low = λ line one. no_line line one;
      high = λ line one. no_line line one;
      rise = λ line one. no_line line one;
      fall = at_line rx (λ line. Falls before now line) (falls_if is);
      edge = λ line one. no_line line one;
      steady = λ line one. no_line line one;
    };
    skipped = λ some. absurd (some refl);
  }

  meets_fall : MeetsAt (fall_alt rx) before now from q → is_fall rx before now ≡ true
  meets_fall meets = fall_then (meets.lines.fall rx (bit_at-pow_same rx))

  high_meets : is_high now rx ≡ true → MeetsAt (high_alt rx) before now from q
  high_meets is = record {
    lines = record {
      low = λ line one. no_line line one;
      high = at_line rx (λ line. bit_at now line ≡ 1) (high_bit now rx is);
      rise = λ line one. no_line line one;
      fall = λ line one. no_line line one;
      edge = λ line one. no_line line one;
      steady = λ line one. no_line line one;
    };
    skipped = λ some. absurd (some refl);
  }

  meets_high : MeetsAt (high_alt rx) before now from q → is_high now rx ≡ true
  meets_high meets = high_is now rx (meets.lines.high rx (bit_at-pow_same rx))

  skip_meets : (count : ℕ) → from + count ≤ q + 1 → MeetsAt (skip_alt count) before now from q
  skip_meets count enough = record {
    lines = record {
      low = λ line one. no_line line one;
      high = λ line one. no_line line one;
      rise = λ line one. no_line line one;
      fall = λ line one. no_line line one;
      edge = λ line one. no_line line one;
      steady = λ line one. no_line line one;
    };
    skipped = λ some. enough;
  }

module _ (c : Shape) (first : 1 ≤ c.point 0) (up : (i : ℕ) → c.point i < c.point (suc i)) where
  -- a point lies behind the one before it, and the first behind the start
  pub point_behind : (i : ℕ) → reached_by c i < c.point i
  point_behind zero = omega (arith, first)
  point_behind (suc i) = up i

  -- a state meets what it waits for exactly where it moves
  meets_if : (h : Kept) (q : ℕ) (before : Option ℕ) (now from : ℕ) → line_fits c h q before
      → line_timed c h from → line_moves c h q before now ≡ true
      → MeetsAt (line_alt c h) before now from q
  meets_if Idle q before now from fit timed moves = fall_meets c.rx before now from q moves
  meets_if (Inside f levels) q before now from fit timed moves =
      elim (cases_lt q (f + c.point (length levels))) [
        | inl less ↦ absurd
            (true≢false (sym moves ∙ ap not (less_yes q (f + c.point (length levels)) less)))
        | inr more ↦
            let later = point_behind (length levels) in
            skip_meets c.rx before now from q
            (c.point (length levels) - reached_by c (length levels))
            (omega (arith, more, timed, later))
      ]
  meets_if (Low f) q before now from fit timed moves = high_meets c.rx before now from q moves

  moves_if : (h : Kept) (q : ℕ) (before : Option ℕ) (now from : ℕ) → line_fits c h q before
      → line_timed c h from → MeetsAt (line_alt c h) before now from q
      → line_moves c h q before now ≡ true
  moves_if Idle q before now from fit timed meets = meets_fall c.rx before now from q meets
  moves_if (Inside f levels) q before now from fit timed meets =
      let later = point_behind (length levels) in
      let enough : from + (c.point (length levels) - reached_by c (length levels)) ≤ q + 1 =
      meets.skipped (λ e. omega (arith, later, e)) in
      ap not (less_no q (f + c.point (length levels)) (omega (arith, enough, timed, later)))
  moves_if (Low f) q before now from fit timed meets = meets_high c.rx before now from q meets

  count_more : (levels : List Bool) (level : Bool)
      → length (levels ++ level ∷ []) ≡ suc (length levels)
  count_more levels level = let e = length-append levels (level ∷ []) in omega (arith, e)

  -- how a state goes on
  after_fits : (f q : ℕ) (before : Option ℕ) (levels : List Bool) → f ≤ q
      → line_fits c (after_all f levels) q before
  after_fits f q before levels within = by (any_high levels)
    where
      by : (b : Bool) → line_fits c (if b then Idle else Low f) q before
      by true = tt
      by false = within

  after_timed : (f from : ℕ) (levels : List Bool) → line_timed c (after_all f levels) from
  after_timed f from levels = by (any_high levels)
    where
      by : (b : Bool) → line_timed c (if b then Idle else Low f) from
      by true = tt
      by false = tt

  module _ (f : ℕ) (levels : List Bool) (q : ℕ) (before : Option ℕ) (level : Bool)
      (is : f + c.point (length levels) ≡ q) where
    abbrev after : Bool → Bool → Kept
    after a b =
        if a then Idle
        else (if b then Inside f (levels ++ level ∷ []) else after_all f (levels ++ level ∷ []))

    point_fits : f < q → line_fits c (point_next c f levels level) (q + 1) before
    point_fits late = by (is_false_start levels level) (cases_lt (length levels) c.last)
      where
        more : length (levels ++ level ∷ []) ≡ suc (length levels)
        more = count_more levels level

        by : (b : Bool) → (length levels < c.last) ⊎ (c.last ≤ length levels)
            → line_fits c (after b (nat_lt (length levels) c.last)) (q + 1) before
        by true o = tt
        by false (inl less) =
            let e : c.point (length (levels ++ level ∷ [])) ≡ c.point (suc (length levels)) =
            ap c.point more in
            subst (λ (h : Kept). line_fits c h (q + 1) before)
            (sym (when_yes (nat_lt (length levels) c.last) _ _
            (less_yes (length levels) c.last less))) (
              omega (arith, late),
              omega (arith, is, e, up (length levels)),
              omega
                  (arith, less, more),
            )
        by false (inr past) =
            subst (λ (h : Kept). line_fits c h (q + 1) before)
            (sym (when_no (nat_lt (length levels) c.last) _ _
            (less_no (length levels) c.last past)))
            (after_fits f (q + 1) before (levels ++ level ∷ []) (omega (arith, late)))

    point_timed : line_timed c (point_next c f levels level) (q + 1)
    point_timed = by (is_false_start levels level) (nat_lt (length levels) c.last)
      where
        by : (a b : Bool) → line_timed c (after a b) (q + 1)
        by true b = tt
        by false true =
            let e : reached_by c (length (levels ++ level ∷ [])) ≡ c.point (length levels) =
            ap (reached_by c) (count_more levels level) in omega (arith, is, e)
        by false false = after_timed f (q + 1) (levels ++ level ∷ [])

  next_fits : (h : Kept) (q : ℕ) (before : Option ℕ) (now : ℕ) → line_fits c h q before
      → line_fits c (line_next c h q before now) (q + 1) (Some now)
  next_fits Idle q before now fit = by (is_fall c.rx before now)
    where
      by : (b : Bool) → line_fits c (if b then Inside q [] else Idle) (q + 1) (Some now)
      by true = (omega arith, omega (arith, first), omega arith)
      by false = tt
  next_fits (Inside f levels) q before now fit = elim (cases_lt q (f + c.point (length levels))) [
    | inl less ↦ subst (λ (h : Kept). line_fits c h (q + 1) (Some now))
        (sym (when_yes (nat_lt q (f + c.point (length levels))) _ _
        (less_yes q (f + c.point (length levels)) less)))
        (omega (arith, fit.0), omega (arith, less), fit.2)
    | inr more ↦ subst (λ (h : Kept). line_fits c h (q + 1) (Some now))
        (sym (when_no (nat_lt q (f + c.point (length levels))) _ _
        (less_no q (f + c.point (length levels)) more)))
        (point_fits f levels q (Some now) (is_high now c.rx) (omega (arith, more, fit.1)) fit.0)
  ]
  next_fits (Low f) q before now fit = by (is_high now c.rx)
    where
      by : (b : Bool) → line_fits c (if b then Idle else Low f) (q + 1) (Some now)
      by true = tt
      by false = omega (arith, fit)

  next_timed : (h : Kept) (q : ℕ) (before : Option ℕ) (now : ℕ) → line_fits c h q before
      → line_moves c h q before now ≡ true → line_timed c (line_next c h q before now) (q + 1)
  next_timed Idle q before now fit moves =
      subst (λ (h : Kept). line_timed c h (q + 1))
      (sym (when_yes (is_fall c.rx before now) _ _ moves)) (omega arith)
  next_timed (Inside f levels) q before now fit moves =
      elim (cases_lt q (f + c.point (length levels))) [
        | inl less ↦ absurd
            (true≢false (sym moves ∙ ap not (less_yes q (f + c.point (length levels)) less)))
        | inr more ↦ subst (λ (h : Kept). line_timed c h (q + 1))
            (sym (when_no (nat_lt q (f + c.point (length levels))) _ _
            (less_no q (f + c.point (length levels)) more)))
            (point_timed f levels q before (is_high now c.rx) (omega (arith, more, fit.1)))
      ]
  next_timed (Low f) q before now fit moves =
      subst (λ (h : Kept). line_timed c h (q + 1)) (sym (when_yes (is_high now c.rx) _ _ moves)) tt

  still : (h : Kept) (q : ℕ) (before : Option ℕ) (now : ℕ) → line_moves c h q before now ≡ false
      → (line_gives c h q before now ≡ []) × (line_next c h q before now ≡ h)
  still Idle q before now moves = (refl, when_no (is_fall c.rx before now) _ _ moves)
  still (Inside f levels) q before now moves = elim (cases_lt q (f + c.point (length levels))) [
    | inl less ↦ let yes : nat_lt q (f + c.point (length levels)) ≡ true =
        less_yes q (f + c.point (length levels)) less in (
          when_yes (nat_lt q (f + c.point (length levels))) _ _ yes,
          when_yes
              (nat_lt q (f + c.point (length levels))) _ _ yes,
        )
    | inr more ↦ absurd
        (true≢false (sym (ap not (less_no q (f + c.point (length levels)) more)) ∙ moves))
  ]
  still (Low f) q before now moves =
      (when_no (is_high now c.rx) _ _ moves, when_no (is_high now c.rx) _ _ moves)

  module _ (tame : Tame c) where
    few : (h : Kept) (q : ℕ) (before : Option ℕ) (now : ℕ)
        → length (line_gives c h q before now) ≤ 16
    few Idle q before now = omega arith
    few (Inside f levels) q before now =
        by (nat_lt q (f + c.point (length levels))) (is_false_start levels (is_high now c.rx))
        (nat_lt (length levels) c.last)
      where
        by : (a b d : Bool) → length
            (if a then []
            else (if b then c.false_start f q
            else (if d then [] else c.frame f q (levels ++ is_high now c.rx ∷ [])))) ≤ 16
        by true b d = omega arith
        by false true d = tame.false_few f q
        by false false true = omega arith
        by false false false = tame.frame_few f q (levels ++ is_high now c.rx ∷ [])
    few (Low f) q before now = by (is_high now c.rx)
      where
        by : (b : Bool) → length (if b then c.rise f q else []) ≤ 16
        by true = tame.rise_few f q
        by false = omega arith

    notes : (h : Kept) (q : ℕ) (before : Option ℕ) (now : ℕ) → line_fits c h q before
        → NotesFrom (line_near h q) (line_gives c h q before now)
    notes Idle q before now fit = tt
    notes (Inside f levels) q before now fit =
        by (nat_lt q (f + c.point (length levels))) (is_false_start levels (is_high now c.rx))
        (nat_lt (length levels) c.last)
      where
        by : (a b d : Bool) → NotesFrom f
            (if a then []
            else (if b then c.false_start f q
            else (if d then [] else c.frame f q (levels ++ is_high now c.rx ∷ []))))
        by true b d = tt
        by false true d = tame.false_notes f q (omega (arith, fit.0))
        by false false true = tt
        by false false false =
            tame.frame_notes f q (levels ++ is_high now c.rx ∷ []) (omega (arith, fit.0))
    notes (Low f) q before now fit = by (is_high now c.rx)
      where
        by : (b : Bool) → NotesFrom f (if b then c.rise f q else [])
        by true = tame.rise_notes f q fit
        by false = tt

    after_near : (f q : ℕ) (levels : List Bool) → f ≤ q → f ≤ line_near (after_all f levels) q
    after_near f q levels within = by (any_high levels)
      where
        by : (b : Bool) → f ≤ line_near (if b then Idle else Low f) q
        by true = within
        by false = omega arith

    packets : (h : Kept) (q : ℕ) (before : Option ℕ) (now : ℕ) → line_fits c h q before
        → Between (line_near h q) (line_near (line_next c h q before now) (q + 1))
        (packet_starts (line_gives c h q before now))
    packets Idle q before now fit = by (is_fall c.rx before now)
      where
        by : (b : Bool) → q ≤ line_near (if b then Inside q [] else Idle) (q + 1)
        by true = omega arith
        by false = omega arith
    packets (Inside f levels) q before now fit =
        by (nat_lt q (f + c.point (length levels))) (is_false_start levels (is_high now c.rx))
        (nat_lt (length levels) c.last)
      where
        by : (a b d : Bool)
            → Between f
            (line_near
            (if a then Inside f levels
            else (if b then Idle
            else (if d then Inside f (levels ++ is_high now c.rx ∷ [])
            else after_all f (levels ++ is_high now c.rx ∷ [])))) (q + 1))
            (packet_starts
            (if a then []
            else (if b then c.false_start f q
            else (if d then [] else c.frame f q (levels ++ is_high now c.rx ∷ [])))))
        by true b d = omega arith
        by false true d =
            tame.false_packets f q (q + 1) (omega (arith, fit.0)) (omega (arith, fit.0))
        by false false true = omega arith
        by false false false =
            tame.frame_packets f q (levels ++ is_high now c.rx ∷ [])
            (line_near (after_all f (levels ++ is_high now c.rx ∷ [])) (q + 1))
            (omega (arith, fit.0))
            (after_near f (q + 1) (levels ++ is_high now c.rx ∷ []) (omega (arith, fit.0)))
    packets (Low f) q before now fit = by (is_high now c.rx)
      where
        by : (b : Bool) → Between f (line_near (if b then Idle else Low f) (q + 1))
            (packet_starts (if b then c.rise f q else []))
        by true = tame.rise_packets f q (q + 1) fit (omega (arith, fit))
        by false = omega arith

    pub line_sound : Sound (line_walk c) (line_fits c) (line_timed c)
    line_sound = record {
      begin_fits = tt;
      begin_timed = tt;
      next_fits = next_fits;
      next_timed = next_timed;
      still = λ h q before now fit moves. still h q before now moves;
      none = λ h q before now from fit timed set. alone_none (line_alt c h) before now from q 0
          (line_moves c h q before now) (meets_if h q before now from fit timed)
          (moves_if h q before now from fit timed) set;
      some = λ h q before now from met fit timed set some. alone_some
          (line_alt c h) before now from q met (line_moves c h q before now)
          (meets_if h q before now from fit timed)
          (moves_if h q before now from fit timed) set some;
      few = few;
      notes = notes;
      packets = packets;
    }
