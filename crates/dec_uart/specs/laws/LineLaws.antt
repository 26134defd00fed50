-- The laws of a serial line: its points rise, and what it gives starts where its frames do.
use Rattle.std.proofs.Common.{◌≡◌, ℕ, suc, ◌+◌, ◌-◌, ◌*◌, ◌/◌, ◌%◌, ◌<◌, ◌≤◌, min, Bool, true}
use Rattle.std.proofs.Common.{false, List, [], ◌∷◌, ◌++◌, length, Option, Some, None, refl, sym}
use Rattle.std.proofs.Common.{subst, arith, if◌then◌else◌, ◌==◌}
use Rattle.std.specs.Prelude.{nat_lt}
use Rattle.std.proofs.Math.Nat.{le-min, le_refl, min-eq_left}
use Rattle.la_base.specs.declared.samples.Rate.{Rate}
use Rattle.la_base.specs.declared.wires.Out.{Out}
use Rattle.la_base.specs.declared.wires.PacketKind.TheVariants.{UartFrame, UartBreak}
use Rattle.la_base.specs.declared.wires.Wire.TheVariants.{Uart}
use Rattle.list_cuts.specs.Bits.{bit_of}
use Rattle.decoder_core.specs.Outputs.{span_note, span_piece, span_packet}
use Rattle.decoder_core.specs.Promises.{NotesFrom, PacketsOn, GivesOn, packet_starts}
use Rattle.decoder_core.specs.laws.OutLaws.{PacketsOn-append}
use Rattle.sample_walks.specs.Walks.{Between, Sound}
use Rattle.rate_math.proofs.PointLaws.{first_point, points_rise}
use Rattle.dec_uart.specs.declared.options.UartOpts.{UartOpts}
use Rattle.dec_uart.specs.Chain.{Look, Ahead, FalseStart, Whole, AllLow, rise_outs, look, look_outs}
use Rattle.dec_uart.specs.Chain.{starts, frames_outs, chain_outs}
use Rattle.dec_uart.specs.Frames.{last_bit, bit_point, break_length, data_of, parity_wrong}
use Rattle.dec_uart.specs.Frames.{stop_wrong, frame_outs, break_outs, shape_of, uart_outs}
use Rattle.dec_uart.specs.Ranges.{InRange, FastEnough}
use Rattle.dec_uart.specs.laws.Machine.{line_walk}
use Rattle.dec_uart.specs.laws.Sound.{Tame, line_fits, line_timed, line_sound}

module _ (opts : UartOpts) where
  -- what a frame gives, by what it says: a parity error, a frame error, two pieces
  abbrev told : ℕ → ℕ → ℕ → Bool → Bool → Bool → List Out
  told f q value parity stop two =
      span_note 1 f q value 0
      ∷ (if parity then span_note 2 f q 0 0 ∷ [] else [])
      ++ (if stop then span_note 3 f q 0 0 ∷ [] else [])
      ++ (if two then span_piece 0 f q (value / 256) ∷ span_piece 0 f q (value % 256) ∷ []
      else span_piece 0 f q value ∷ [])
      ++ span_packet UartFrame f q value (bit_of parity + 2 * bit_of stop) ∷ []

  told_few : (f q value : ℕ) (parity stop two : Bool) → length (told f q value parity stop two) ≤ 16
  told_few f q value true true true = omega arith
  told_few f q value true true false = omega arith
  told_few f q value true false true = omega arith
  told_few f q value true false false = omega arith
  told_few f q value false true true = omega arith
  told_few f q value false true false = omega arith
  told_few f q value false false true = omega arith
  told_few f q value false false false = omega arith

  told_notes : (f q value : ℕ) (parity stop two : Bool) → f ≤ min f q
      → NotesFrom f (told f q value parity stop two)
  told_notes f q value true true true here = (here, (here, (here, tt)))
  told_notes f q value true true false here = (here, (here, (here, tt)))
  told_notes f q value true false true here = (here, (here, tt))
  told_notes f q value true false false here = (here, (here, tt))
  told_notes f q value false true true here = (here, (here, tt))
  told_notes f q value false true false here = (here, (here, tt))
  told_notes f q value false false true here = (here, tt)
  told_notes f q value false false false here = (here, tt)

  told_starts : (f q value : ℕ) (parity stop two : Bool)
      → packet_starts (told f q value parity stop two) ≡ min f q ∷ []
  told_starts f q value true true true = refl
  told_starts f q value true true false = refl
  told_starts f q value true false true = refl
  told_starts f q value true false false = refl
  told_starts f q value false true true = refl
  told_starts f q value false true false = refl
  told_starts f q value false false true = refl
  told_starts f q value false false false = refl

  told_on : (f q value : ℕ) (parity stop two : Bool)
      → PacketsOn Uart (told f q value parity stop two)
  told_on f q value true true true = (refl, tt)
  told_on f q value true true false = (refl, tt)
  told_on f q value true false true = (refl, tt)
  told_on f q value true false false = (refl, tt)
  told_on f q value false true true = (refl, tt)
  told_on f q value false true false = (refl, tt)
  told_on f q value false false true = (refl, tt)
  told_on f q value false false false = (refl, tt)

  -- what stands between two places
  start_in : (f q : ℕ) → f ≤ q → f ≤ min f q
  start_in f q within = le-min (le_refl f) within

  start_below : (f q high : ℕ) → f ≤ q → f ≤ high → min f q ≤ high
  start_below f q high within below = let same : min f q ≡ f = min-eq_left within in
      omega (arith, same, below)

  frame_packets : (f q : ℕ) (levels : List Bool) (high : ℕ) → f ≤ q → f ≤ high
      → Between f high (packet_starts (frame_outs opts f q levels))
  frame_packets f q levels high within below =
      subst (λ (l : List ℕ). Between f high l)
      (sym (told_starts f q (data_of opts levels) (parity_wrong opts levels)
      (stop_wrong opts levels) (opts.bits == 9)))
      (start_in f q within, start_below f q high within below)

  module _ (rate : Rate) where
    rise_few : (f q : ℕ) → length (break_outs opts rate f q) ≤ 16
    rise_few f q = by (nat_lt (q - f) (break_length opts rate))
      where
        by : (b : Bool) → length
            (if b then [] else span_note 4 f q 0 0 ∷ span_packet UartBreak f q 0 0 ∷ []) ≤ 16
        by true = omega arith
        by false = omega arith

    rise_notes : (f q : ℕ) → f ≤ q → NotesFrom f (break_outs opts rate f q)
    rise_notes f q within = by (nat_lt (q - f) (break_length opts rate))
      where
        by : (b : Bool) → NotesFrom f
            (if b then [] else span_note 4 f q 0 0 ∷ span_packet UartBreak f q 0 0 ∷ [])
        by true = tt
        by false = (start_in f q within, tt)

    rise_packets : (f q high : ℕ) → f ≤ q → f ≤ high
        → Between f high (packet_starts (break_outs opts rate f q))
    rise_packets f q high within below = by (nat_lt (q - f) (break_length opts rate))
      where
        by : (b : Bool) → Between f high
            (packet_starts
            (if b then [] else span_note 4 f q 0 0 ∷ span_packet UartBreak f q 0 0 ∷ []))
        by true = below
        by false = (start_in f q within, start_below f q high within below)

    rise_on : (f q : ℕ) → PacketsOn Uart (break_outs opts rate f q)
    rise_on f q = by (nat_lt (q - f) (break_length opts rate))
      where
        by : (b : Bool) → PacketsOn Uart
            (if b then [] else span_note 4 f q 0 0 ∷ span_packet UartBreak f q 0 0 ∷ [])
        by true = tt
        by false = (refl, tt)

    tame : Tame (shape_of opts rate)
    tame = record {
      false_few = λ f q. omega arith;
      frame_few =
          λ f q levels. told_few f q (data_of opts levels) (parity_wrong opts levels)
          (stop_wrong opts levels) (opts.bits == 9);
      rise_few = rise_few;
      false_notes = λ f q within. (start_in f q within, tt);
      frame_notes =
          λ f q levels within. told_notes f q (data_of opts levels) (parity_wrong opts levels)
          (stop_wrong opts levels) (opts.bits == 9) (start_in f q within);
      rise_notes = rise_notes;
      false_packets = λ f q high within below. below;
      frame_packets = frame_packets;
      rise_packets = rise_packets;
    }

    -- each packet is of the wire of serial lines, whatever the options are
    look_on : (f : ℕ) (l : Look) → PacketsOn Uart (look_outs (shape_of opts rate) f l)
    look_on f Ahead = tt
    look_on f FalseStart = tt
    look_on f (Whole levels) =
        told_on f (f + bit_point opts rate (last_bit opts)) (data_of opts levels)
        (parity_wrong opts levels) (stop_wrong opts levels) (opts.bits == 9)
    look_on f (AllLow levels high) =
        PacketsOn-append Uart (frame_outs opts f (f + bit_point opts rate (last_bit opts)) levels)
        (rise_outs (shape_of opts rate) f high)
        (told_on f (f + bit_point opts rate (last_bit opts)) (data_of opts levels)
        (parity_wrong opts levels) (stop_wrong opts levels) (opts.bits == 9)) (by high)
      where
        by : (o : Option ℕ) → PacketsOn Uart (rise_outs (shape_of opts rate) f o)
        by None = tt
        by (Some r) = rise_on f r

    pub uart_on_wire : GivesOn Uart (uart_outs opts rate)
    unfolding chain_outs
    uart_on_wire samples = by (starts (shape_of opts rate) samples)
      where
        by : (fs : List ℕ) → PacketsOn Uart (frames_outs (shape_of opts rate) samples fs)
        by [] = tt
        by (f ∷ fs) =
            PacketsOn-append Uart
            (look_outs (shape_of opts rate) f (look (shape_of opts rate) samples f))
            (frames_outs (shape_of opts rate) samples fs)
            (look_on f (look (shape_of opts rate) samples f)) (by fs)

    module _ {most : ℕ} (ranges : InRange most opts) (fast : FastEnough opts rate) where
      pub first_bit : 1 ≤ bit_point opts rate 0
      first_bit =
          first_point rate.num rate.den opts.baud opts.sp rate.above_zero.1 ranges.baud.0 fast

      pub bits_rise : (i : ℕ) → bit_point opts rate i < bit_point opts rate (suc i)
      bits_rise =
          points_rise rate.num rate.den opts.baud opts.sp rate.above_zero.1 ranges.baud.0
          ranges.sp.1 fast

      pub uart_sound : Sound (line_walk (shape_of opts rate)) (line_fits (shape_of opts rate))
          (line_timed (shape_of opts rate))
      uart_sound = line_sound (shape_of opts rate) first_bit bits_rise tame
