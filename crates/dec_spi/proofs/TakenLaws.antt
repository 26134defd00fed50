-- A clock that is taken in place: what it gives, and what is kept, is what follows from the event.
use Rattle.std.proofs.Common.{refl, ◌≡◌, ℕ, zero, suc, ◌+◌, ◌*◌, ◌%◌, ◌^◌, ◌<◌, Bool, true, false, [], Option, Some, None, sym, ◌∙◌, ap, subst, arith, nat_lt, ◌==◌, if◌then◌else◌}
use Rattle.std.specs.Prelude.{not, ◌&&◌}
use Rattle.std.specs.Int.{bit_at}
use Rattle.std.specs.Int.Bits.{bit_and, and_zero_r}
use Rattle.std.proofs.lemmas.Bool.{true≢false}
use Rattle.std.proofs.lemmas.Bool.Decides.{nat_tests}
use Rattle.std.proofs.lemmas.Nat.{pow_pos}
use Rattle.std.proofs.lemmas.Nat.Bits.{and_pow, bit_at-lt}
use Rattle.la_base.specs.Samples.{is_high}
use Rattle.la_base.proofs.Halves.{low_bit}
use Rattle.sample_walks.proofs.LineTests.{line_reads}
use Rattle.list_cuts.proofs.TestLaws.{when_yes, when_no, test_yes, test_no}
use Rattle.dec_spi.specs.declared.held.Bits.{Bits}
use Rattle.dec_spi.specs.declared.held.Held.{Held}
use Rattle.dec_spi.specs.declared.held.Held.TheVariants.{Fresh, Outside, Inside}
use Rattle.dec_spi.specs.declared.lines.Lines.{Lines}
use Rattle.dec_spi.specs.declared.options.SpiOpts.{SpiOpts}
use Rattle.dec_spi.specs.Bus.{Clock, Deselect, level_of, is_active_high, selected_by, is_selected}
use Rattle.dec_spi.specs.laws.Machine.{mask_of, high_mask, inside, begun, is_fresh, clock_gives, clock_next, gives, next, event_of}
use Rattle.dec_spi.specs.laws.Lines.{is_low, low_lines, no_lines, lines_of, reads, selects, no_bits, bits_give, bits_next, is_clock, clock_outs, clocked}

both : (a b : Bool) → true ≡ (a && b) → (a ≡ true) × (b ≡ true)
both true true is = (refl, refl)
both true false is = absurd (true≢false is)
both false b is = absurd (true≢false is)

-- a bit that is 0 or 1, times a number above 0
all_of : (b p : ℕ) → b < 2 → 0 < p → (b * p == p) ≡ (b == 1)
all_of zero p below pos = test_no (0 * p) p (λ e. absurd (omega (arith, e, pos)))
all_of (suc zero) p below pos = test_yes (1 * p) p (omega arith)
all_of (suc (suc b)) p below pos = absurd (omega (arith, below))

twice_not : (a b : Bool) → not a ≡ b → a ≡ not b
twice_not true true is = absurd (true≢false (sym is))
twice_not true false is = refl
twice_not false true is = refl
twice_not false false is = absurd (true≢false is)

module _ (value low : ℕ) (low_is : low ≡ value % 2 ^ 64) where
  below_half : (line : ℕ) → nat_lt line 64 ≡ true → line < 64
  below_half line is = grind (arith, nat_tests)

  same_bit : (line : ℕ) → nat_lt line 64 ≡ true → bit_at low line ≡ bit_at value line
  same_bit line is = ap (λ (n : ℕ). bit_at n line) low_is ∙ low_bit value line (below_half line is)

  reads_one : (line : ℕ) → nat_lt line 64 ≡ true → reads (2 ^ line) low ≡ is_high value line
  reads_one line is = line_reads low line ∙ ap (λ (b : ℕ). b == 1) (same_bit line is)

  reads_level : (line : Option ℕ) → is_low line ≡ true → reads (mask_of line) low ≡ level_of line value
  reads_level None is = ap (λ (n : ℕ). not (n == 0)) (and_zero_r low)
  reads_level (Some line) is = reads_one line is

  active_is : (cs : Option ℕ) (high : Bool) → is_low cs ≡ true → (bit_and low (mask_of cs) == high_mask cs high) ≡ selected_by cs high value
  active_is None true is = ap (λ (n : ℕ). n == 0) (and_zero_r low)
  active_is None false is = ap (λ (n : ℕ). n == 0) (and_zero_r low)
  active_is (Some line) true is = ap (λ (n : ℕ). n == 2 ^ line) (and_pow low line ∙ ap (λ (b : ℕ). b * 2 ^ line) (same_bit line is)) ∙ all_of (bit_at value line) (2 ^ line) (bit_at-lt value line) (pow_pos line)
  active_is (Some line) false is = twice_not (bit_and low (2 ^ line) == 0) (is_high value line) (reads_one line is)

  -- what is kept of a word, as what is kept in a stretch
  in_stretch : (more : Bool) (count mosi miso first : ℕ) → Inside (if more then (record { count = count; mosi = mosi; miso = miso; first = first }) else no_bits) ≡ (if more then inside count mosi miso first else begun)
  in_stretch true count mosi miso first = refl
  in_stretch false count mosi miso first = refl

  module _ (opts : SpiOpts) where
    -- what a clock says
    record Clocked (lines : Lines) (word : Bits) (k : ℕ) : Type 0 where
      selected : is_selected opts value ≡ true
      gives_is : bits_give opts lines word k low ≡ clock_gives opts word.count word.mosi word.miso word.first k (level_of opts.mosi value) (level_of opts.miso value)
      next_is : Inside (bits_next opts lines word k low) ≡ clock_next opts word.count word.mosi word.miso word.first k (level_of opts.mosi value) (level_of opts.miso value)

    clocked_by : (word : Bits) (k : ℕ) (c : Bool) → c ≡ (is_low opts.cs && is_low opts.mosi && is_low opts.miso) → true ≡ selects (if c then low_lines opts else no_lines) low → Clocked (if c then low_lines opts else no_lines) word k
    clocked_by word k true all is =
        let miso = both (is_low opts.cs && is_low opts.mosi) (is_low opts.miso) all in
        let other = both (is_low opts.cs) (is_low opts.mosi) (sym miso.0) in
        let out = reads_level opts.mosi other.1 in
        let back = reads_level opts.miso miso.1 in
        record {
          selected = sym (is ∙ active_is opts.cs (is_active_high opts) other.0);
          gives_is = λ i. clock_gives opts word.count word.mosi word.miso word.first k (out i) (back i);
          next_is = in_stretch (nat_lt (word.count + 1) opts.bits) _ _ _ _ ∙ (λ i. clock_next opts word.count word.mosi word.miso word.first k (out i) (back i));
        }
    clocked_by word k false all is = absurd (true≢false (is ∙ ap (λ (n : ℕ). n == 1) (and_zero_r low)))

    module _ (lines : Lines) (lines_are : lines ≡ lines_of opts) (k : ℕ) where
      says : (word : Bits) → true ≡ selects lines low → Clocked lines word k
      says word = subst (λ (l : Lines). true ≡ selects l low → Clocked l word k) (sym lines_are) (clocked_by word k _ refl)

      -- where it is taken
      pub clock_gives_is : (held : Held) → true ≡ is_clock lines held low → clock_outs opts lines held k low ≡ gives opts held (event_of opts held k value)
      clock_gives_is Fresh is = absurd (true≢false is)
      clock_gives_is Outside is = absurd (true≢false is)
      clock_gives_is (Inside word) is =
          let said = says word is in
          when_yes (selects lines low) (bits_give opts lines word k low) [] (sym is)
          ∙ said.gives_is
          ∙ sym (ap (λ (t : Bool). gives opts (Inside word) (if t then Clock k (level_of opts.mosi value) (level_of opts.miso value) else Deselect k)) said.selected)

      pub clock_next_is : (held : Held) → true ≡ is_clock lines held low → clocked opts lines held k low ≡ next opts held (event_of opts held k value)
      clock_next_is Fresh is = absurd (true≢false is)
      clock_next_is Outside is = absurd (true≢false is)
      clock_next_is (Inside word) is =
          let said = says word is in
          ap (λ (w : Bits). Inside w) (when_yes (selects lines low) (bits_next opts lines word k low) word (sym is))
          ∙ said.next_is
          ∙ sym (ap (λ (t : Bool). next opts (Inside word) (if t then Clock k (level_of opts.mosi value) (level_of opts.miso value) else Deselect k)) said.selected)

-- where it isn't
pub left_silent : (opts : SpiOpts) (lines : Lines) (held : Held) (k half : ℕ) → false ≡ is_clock lines held half → clock_outs opts lines held k half ≡ []
left_silent opts lines Fresh k half is = refl
left_silent opts lines Outside k half is = refl
left_silent opts lines (Inside word) k half is = when_no (selects lines half) (bits_give opts lines word k half) [] (sym is)

pub left_held : (opts : SpiOpts) (lines : Lines) (held : Held) (k half : ℕ) → false ≡ is_clock lines held half → clocked opts lines held k half ≡ held
left_held opts lines Fresh k half is = refl
left_held opts lines Outside k half is = refl
left_held opts lines (Inside word) k half is = ap (λ (w : Bits). Inside w) (when_no (selects lines half) (bits_next opts lines word k half) word (sym is))

-- such a clock isn't the first selected sample
pub clock_later : (lines : Lines) (held : Held) (half : ℕ) → true ≡ is_clock lines held half → is_fresh held ≡ false
clock_later lines Fresh half is = absurd (true≢false is)
clock_later lines Outside half is = refl
clock_later lines (Inside word) half is = refl
