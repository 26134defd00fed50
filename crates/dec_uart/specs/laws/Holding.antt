-- What a decoder of a serial line holds says what samples left: numbers in the place of levels.
use Rattle.std.proofs.Common.{◌≡◌, inl, inr, ℕ, suc, ◌+◌, ◌-◌, ◌*◌, ◌/◌, ◌%◌, ◌^◌, ◌≤◌, min, Bool}
use Rattle.std.proofs.Common.{true, false, not, List, [], ◌∷◌, ◌++◌, length, take, drop, Option}
use Rattle.std.proofs.Common.{refl, sym, ◌∙◌, ap, arith, length-append, if◌then◌else◌, ◌==◌}
use Rattle.std.specs.Prelude.{nat_lt, ◌&&◌}
use Rattle.std.specs.Int.RustNames.{count_ones}
use Rattle.std.specs.List.{list_any}
use Rattle.std.proofs.Math.Nat.{min-eq_left, mod-eq_of_lt}
use Rattle.std.proofs.lemmas.Bool.{cases_lt, true≢false}
use Rattle.std.proofs.lemmas.List.{length-drop}
use Rattle.la_base.specs.Samples.{is_high}
use Rattle.la_base.specs.declared.samples.Rate.{Rate}
use Rattle.la_base.specs.declared.wires.Out.{Out}
use Rattle.list_cuts.specs.Bits.{bit_of, low_first}
use Rattle.decoder_core.specs.Outputs.{span_note}
use Rattle.list_cuts.proofs.BitLaws.{low_below, low_push}
use Rattle.list_cuts.proofs.TestLaws.{when_yes, when_no, less_yes, less_no, suc_no}
use Rattle.dec_uart.specs.declared.held.Held.TheVariants as held
use Rattle.dec_uart.specs.declared.options.UartOpts.{UartOpts}
use Rattle.dec_uart.specs.Chain.{any_high, is_fall}
use Rattle.dec_uart.specs.Frames.{parity_of, before_stop, last_bit, bit_point, data_of, ones_of}
use Rattle.dec_uart.specs.Frames.{breaks, parity_wrong, stop_wrong, told_outs, frame_outs, shape_of}
use Rattle.dec_uart.specs.laws.Machine.{Kept, Idle, Inside, Low, is_false_start, after_all}
use Rattle.dec_uart.specs.laws.Machine.{point_gives, point_next, line_next, line_gives, line_moves}
use Rattle.dec_uart.specs.laws.Machine.{line_near, line_alt, skip_alt, reached_by, held_of}
use Rattle.dec_uart.specs.laws.Machine.{with_level, word_data, word_parity, word_stop, word_outs}
use Rattle.dec_uart.specs.laws.Machine.{point_outs, held_after, point_held, stop_outs, stop_held}
use Rattle.dec_uart.specs.laws.Machine.{held_alt, held_near}
use Rattle.dec_uart.specs.laws.Numbers.{low_drop, low_take, low_bit, low_ones, low_none, low_all}
use Rattle.dec_uart.specs.laws.Sound.{line_fits}

-- one more level
level_more : (levels : List Bool) (level : Bool)
    → low_first (levels ++ level ∷ []) ≡ with_level (length levels) (low_first levels) level
level_more levels level =
    low_push levels level
    ∙ ap (λ (n : ℕ). n + bit_of level * 2 ^ length levels) (sym (mod-eq_of_lt (low_below levels)))

module _ (opts : UartOpts) where
  data_same : (levels : List Bool) → data_of opts levels ≡ word_data opts (low_first levels)
  data_same levels =
      sym (low_take (drop 1 levels) opts.bits)
      ∙ ap (λ (n : ℕ). n % 2 ^ opts.bits) (sym (low_drop levels 1))

  ones_same : (levels : List Bool)
      → ones_of opts levels ≡ count_ones (low_first levels / 2 % 2 ^ (opts.bits + 1))
  ones_same levels =
      sym (low_ones (take (opts.bits + 1) (drop 1 levels)))
      ∙ ap count_ones
      (sym (low_take (drop 1 levels) (opts.bits + 1))
      ∙ ap (λ (n : ℕ). n % 2 ^ (opts.bits + 1)) (sym (low_drop levels 1)))

  parity_same : (levels : List Bool)
      → parity_wrong opts levels ≡ word_parity opts (low_first levels)
  parity_same levels =
      λ i. breaks (parity_of opts.parity) (sym (low_bit levels (opts.bits + 1)) i)
      (ones_same levels i)

  stop_same : (levels : List Bool) → length levels ≡ before_stop opts + opts.stop
      → stop_wrong opts levels ≡ word_stop opts (low_first levels)
  stop_same levels count =
      let stops = drop (before_stop opts) levels in
      let few : length stops ≡ opts.stop = let e = length-drop (before_stop opts) levels in
      omega (arith, e, count) in
      twice (list_any not stops)
      ∙ ap not (sym (low_all stops))
      ∙ (λ i. not (sym (low_drop levels (before_stop opts)) i == 2 ^ few i - 1))
    where
      twice : (b : Bool) → b ≡ not (not b)
      twice true = refl
      twice false = refl

  frame_same : (f at : ℕ) (levels : List Bool) → length levels ≡ before_stop opts + opts.stop
      → frame_outs opts f at levels ≡ word_outs opts f at (low_first levels)
  frame_same f at levels count =
      λ i. told_outs opts f at (data_same levels i) (parity_same levels i)
      (stop_same levels count i)

  module _ (rate : Rate) (some : 1 ≤ opts.stop) where
    pub alt_same : (h : Kept) (q : ℕ) (before : Option ℕ)
        → line_fits (shape_of opts rate) h q before
        → line_alt (shape_of opts rate) h ≡ held_alt opts rate (held_of (shape_of opts rate) h)
    alt_same Idle q before fit = refl
    alt_same (Inside f levels) q before fit =
        ap (λ (n : ℕ). skip_alt
        (bit_point opts rate n - reached_by (shape_of opts rate) (length levels)))
        (sym (min-eq_left fit.2))
    alt_same (Low f) q before fit = refl

    pub near_same : (h : Kept) (next : ℕ)
        → line_near h next ≡ held_near (held_of (shape_of opts rate) h) next
    near_same Idle next = refl
    near_same (Inside f levels) next = refl
    near_same (Low f) next = refl

    first_same : (levels : List Bool) (level : Bool)
        → is_false_start levels level ≡ ((length levels == 0) && level)
    first_same [] level = refl
    first_same (l ∷ levels) level = ap (λ (b : Bool). b && level) (sym (suc_no (length levels)))

    -- behind all points
    after_same : (f : ℕ) (levels : List Bool)
        → held_of (shape_of opts rate) (after_all f levels) ≡ held_after f (low_first levels)
    after_same f levels =
        by (any_high levels)
        ∙ ap (λ (b : Bool). if b then held.Low f else held.Idle) (sym (low_none levels))
      where
        by : (b : Bool) → held_of (shape_of opts rate) (if b then Idle else Low f)
            ≡ (if not b then held.Low f else held.Idle)
        by true = refl
        by false = refl

    -- at a point
    module _ (f : ℕ) (levels : List Bool) (q : ℕ) (level : Bool)
        (within : length levels ≤ last_bit opts) where
      abbrev n : ℕ
      n = length levels

      abbrev least : ℕ
      least = min n (last_bit opts)

      abbrev new : List Bool
      new = levels ++ level ∷ []

      is_least : least ≡ n
      is_least = min-eq_left within

      count_new : length new ≡ suc n
      count_new = let e = length-append levels (level ∷ []) in omega (arith, e)

      word_new : low_first new ≡ with_level least (low_first levels) level
      word_new =
          level_more levels level
          ∙ ap (λ (k : ℕ). with_level k (low_first levels) level) (sym is_least)

      begins : is_false_start levels level ≡ ((least == 0) && level)
      begins = first_same levels level ∙ ap (λ (k : ℕ). (k == 0) && level) (sym is_least)

      point_same : point_gives (shape_of opts rate) f levels q level
          ≡ point_outs opts f least (low_first levels) q level
      point_same = elim (cases_lt n (last_bit opts)) [
        | inl less ↦
            (λ i. if begins i then stray else when_yes (nat_lt n (last_bit opts)) []
            (frame_outs opts f q new) (less_yes n (last_bit opts) less) i)
            ∙ sym (λ i. if (least == 0) && level then stray
            else when_yes (nat_lt least (last_bit opts)) []
            (word_outs opts f q (with_level least (low_first levels) level))
            (less_yes least (last_bit opts) (omega (arith, less, is_least))) i)
        | inr past ↦
            let count : length new ≡ before_stop opts + opts.stop =
            omega (arith, count_new, past, within, some) in
            let told : frame_outs opts f q new ≡ word_outs opts f q
            (with_level least (low_first levels) level) =
            frame_same f q new count ∙ ap (λ (w : ℕ). word_outs opts f q w) word_new in
            (λ i. if begins i then stray
            else (when_no (nat_lt n (last_bit opts)) [] (frame_outs opts f q new)
            (less_no n (last_bit opts) past) ∙ told) i)
            ∙ sym (λ i. if (least == 0) && level then stray
            else when_no (nat_lt least (last_bit opts)) []
            (word_outs opts f q (with_level least (low_first levels) level))
            (less_no least (last_bit opts) (omega (arith, past, is_least))) i)
      ]
        where
          stray : List Out
          stray = span_note 0 f q 0 0 ∷ []

      point_held_same : f + bit_point opts rate n ≡ q
          → held_of (shape_of opts rate) (point_next (shape_of opts rate) f levels level)
          ≡ point_held opts f least (low_first levels) q level
      point_held_same here =
          ap (λ (b : Bool). held_of (shape_of opts rate)
          (if b then Idle
          else (if nat_lt n (last_bit opts) then Inside f new else after_all f new))) begins
          ∙ by ((least == 0) && level)
        where
          by : (b : Bool) → held_of (shape_of opts rate)
              (if b then Idle
              else (if nat_lt n (last_bit opts) then Inside f new else after_all f new))
              ≡ (if b then held.Idle
              else (if nat_lt least (last_bit opts) then held.Inside f (least + 1)
              (with_level least (low_first levels) level) (q - f)
              else held_after f (with_level least (low_first levels) level)))
          by true = refl
          by false = elim (cases_lt n (last_bit opts)) [
            | inl less ↦
                let count : length new ≡ least + 1 = omega (arith, count_new, is_least) in
                let reached : reached_by (shape_of opts rate) (length new) ≡ q - f =
                ap (reached_by (shape_of opts rate)) count_new ∙ omega (arith, here) in
                ap (held_of (shape_of opts rate))
                (when_yes (nat_lt n (last_bit opts)) (Inside f new) (after_all f new)
                (less_yes n (last_bit opts) less))
                ∙ (λ i. held.Inside f (count i) (word_new i) (reached i))
                ∙ sym (when_yes (nat_lt least (last_bit opts)) _ _
                (less_yes least (last_bit opts) (omega (arith, less, is_least))))
            | inr past ↦
                ap (held_of (shape_of opts rate))
                (when_no (nat_lt n (last_bit opts)) (Inside f new) (after_all f new)
                (less_no n (last_bit opts) past))
                ∙ after_same f new
                ∙ ap (held_after f) word_new
                ∙ sym (when_no (nat_lt least (last_bit opts)) _ _
                (less_no least (last_bit opts) (omega (arith, past, is_least))))
          ]

    -- a state that moves gives what its stop says, and leaves what that says
    module _ (h : Kept) (q : ℕ) (before : Option ℕ) (now : ℕ) where
      pub outs_same : line_fits (shape_of opts rate) h q before
          → line_moves (shape_of opts rate) h q before now ≡ true
          → line_gives (shape_of opts rate) h q before now
          ≡ stop_outs opts rate (held_of (shape_of opts rate) h) q (is_high now opts.rx)
      outs_same fit moves = by h fit moves
        where
          by : (k : Kept) → line_fits (shape_of opts rate) k q before
              → line_moves (shape_of opts rate) k q before now ≡ true
              → line_gives (shape_of opts rate) k q before now
              ≡ stop_outs opts rate (held_of (shape_of opts rate) k) q (is_high now opts.rx)
          by Idle fit moves = refl
          by (Inside f levels) fit moves =
              elim (cases_lt q (f + bit_point opts rate (length levels))) [
                | inl less ↦ absurd
                    (true≢false
                    (sym moves
                    ∙ ap not (less_yes q (f + bit_point opts rate (length levels)) less)))
                | inr more ↦ when_no (nat_lt q (f + bit_point opts rate (length levels))) _ _
                    (less_no q (f + bit_point opts rate (length levels)) more)
                    ∙ point_same f levels q (is_high now opts.rx) fit.2
              ]
          by (Low f) fit moves = when_yes (is_high now opts.rx) _ _ moves

      pub held_same : line_fits (shape_of opts rate) h q before
          → line_moves (shape_of opts rate) h q before now ≡ true
          → held_of (shape_of opts rate) (line_next (shape_of opts rate) h q before now)
          ≡ stop_held opts (held_of (shape_of opts rate) h) q (is_high now opts.rx)
      held_same fit moves = by h fit moves
        where
          by : (k : Kept) → line_fits (shape_of opts rate) k q before
              → line_moves (shape_of opts rate) k q before now ≡ true
              → held_of (shape_of opts rate) (line_next (shape_of opts rate) k q before now)
              ≡ stop_held opts (held_of (shape_of opts rate) k) q (is_high now opts.rx)
          by Idle fit moves =
              ap (held_of (shape_of opts rate)) (when_yes (is_fall opts.rx before now) _ _ moves)
          by (Inside f levels) fit moves =
              elim (cases_lt q (f + bit_point opts rate (length levels))) [
                | inl less ↦ absurd
                    (true≢false
                    (sym moves
                    ∙ ap not (less_yes q (f + bit_point opts rate (length levels)) less)))
                | inr more ↦
                    ap (held_of (shape_of opts rate))
                    (when_no (nat_lt q (f + bit_point opts rate (length levels))) _ _
                    (less_no q (f + bit_point opts rate (length levels)) more))
                    ∙ point_held_same f levels q (is_high now opts.rx) fit.2
                    (omega (arith, more, fit.1))
              ]
          by (Low f) fit moves =
              ap (held_of (shape_of opts rate)) (when_yes (is_high now opts.rx) _ _ moves)
