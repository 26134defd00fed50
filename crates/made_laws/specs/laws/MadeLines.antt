-- Made captures say on the serial line what was put in.
use Rattle.std.proofs.Common.{◌≡◌, ℕ, zero, suc, ◌+◌, ◌*◌, ◌/◌, ◌<◌, Bool, true, false, List, [], ◌∷◌, ◌++◌, None, refl, ◌∙◌, ap, arith}
use Rattle.std.specs.List.{flat_map}
use Rattle.std.proofs.Math.Nat.{mul-div_cancel}
use Rattle.la_base.specs.declared.samples.Rate.{Rate}
use Rattle.la_base.specs.declared.wires.Out.{Out}
use Rattle.la_base.specs.declared.wires.PacketKind.TheVariants.{UartFrame}
use Rattle.decoder_core.specs.Outputs.{span_note, span_piece, span_packet}
use Rattle.sample_walks.specs.Walks.{given}
use Rattle.capture_make.specs.declared.drawing.Sent.{Sent}
use Rattle.capture_make.specs.Made.{sent, sent_from, low_bits, ten, rx_levels, block, made}
use Rattle.dec_uart.specs.Chain.{Shape}
use Rattle.dec_uart.specs.Frames.{bit_point, shape_of, uart_outs}
use Rattle.dec_uart.specs.Ranges.{InRange, FastEnough}
use Rattle.dec_uart.specs.laws.Grown.{outs_walked}
use Rattle.dec_uart.specs.laws.LineLaws.{first_bit, bits_rise}
use Rattle.dec_uart.specs.laws.Machine.{Idle}
use Rattle.made_laws.specs.LineTold.{made_opts, line_told, all_told}
use Rattle.made_laws.specs.LineLevels.{levels_of, levels_give}
use Rattle.made_laws.specs.laws.LineLevelLaws.{by_levels}
use Rattle.made_laws.specs.laws.BitCells.{idle_ten, start_cell, bit_cells, stop_cell}
use Rattle.made_laws.specs.laws.LineBytes.{byte_again}
use Rattle.made_laws.specs.laws.MadeLevels.{more_levels}

-- the options are in range
made_range : InRange 64 made_opts
made_range = record {
  rx = omega arith;
  baud = (omega arith, omega arith);
  bits = (omega arith, omega arith);
  parity = omega arith;
  stop = (omega arith, omega arith);
  sp = (omega arith, omega arith);
}

-- what a byte tells from f to q
abbrev byte_told : ℕ → ℕ → ℕ → List Out
byte_told f q value = span_note 1 f q value 0 ∷ span_piece 0 f q value ∷ span_packet UartFrame f q value 0 ∷ []

module _ (rate : Rate) (million : rate.num ≡ 1000000) (whole : rate.den ≡ 1) where
  abbrev line : Shape
  line = shape_of made_opts rate

  -- the rate is high enough
  fast : FastEnough made_opts rate
  fast = omega (arith, million, whole)

  -- a bit has ten samples
  points : (i : ℕ) → bit_point made_opts rate i ≡ 10 * i + 5
  points i =
      let at : (100 * i + 50) * 1000000 ≡ (10 * i + 5) * 10000000 = omega arith in
      (λ k. (100 * i + 50) * million k / (100 * 100000 * whole k))
      ∙ ap (λ (n : ℕ). n / 10000000) at
      ∙ mul-div_cancel (10 * i + 5) (omega arith)

  -- a frame with the bits of a byte
  frame_is : (f q value : ℕ) → value < 256 → line.frame f q (false ∷ low_bits value ++ true ∷ []) ≡ byte_told f q value
  frame_is f q value small = ap (λ (n : ℕ). byte_told f q n) (byte_again value small)

  -- a transaction tells its byte, and leaves the line high behind it
  transaction_tells : (s : Sent) (t : ℕ) (before : Bool) (more : List Bool) → s.serial < 256
      → levels_give line Idle t before (rx_levels s ++ more) ≡ line_told t s ++ levels_give line Idle (t + 120) true more
  transaction_tells s t before more small =
      let begin = t + 10 in
      let bits = low_bits s.serial in
      let stop = begin + 10 + 10 * 8 in
      let there : stop ≡ begin + 90 = omega arith in
      let told_at : stop + 5 ≡ t + 105 = omega arith in
      let next : stop + 10 + 10 ≡ t + 120 = omega arith in
      idle_ten line t before (ten false ++ flat_map ten bits ++ ten true ++ ten true ++ more)
      ∙ start_cell line points refl begin (flat_map ten bits ++ ten true ++ ten true ++ more)
      ∙ bit_cells line points refl begin bits [] false (begin + 10) false (ten true ++ ten true ++ more) refl (omega arith)
      ∙ stop_cell line points refl begin bits false stop false (ten true ++ more) there refl
      ∙ (λ i. frame_is begin (told_at i) s.serial small i ++ idle_ten line (stop + 10) true more i)
      ∙ ap (λ (n : ℕ). line_told t s ++ levels_give line Idle n true more) next

  -- all transactions, one after another
  transactions_tell : (seed count j t : ℕ) (before : Bool)
      → levels_give line Idle t before (levels_of 2 (flat_map block (sent_from seed j count))) ≡ all_told t (sent_from seed j count)
  transactions_tell seed zero j t before = refl
  transactions_tell seed (suc count) j t before =
      let s = sent seed j in
      let later = sent_from seed (suc j) count in
      ap (λ (l : List Bool). levels_give line Idle t before l) (more_levels s later)
      ∙ transaction_tells s t before (levels_of 2 (flat_map block later)) (omega arith)
      ∙ ap (λ (l : List Out). line_told t s ++ l) (transactions_tell seed count (suc j) (t + 120) true)

  -- made captures tell what was sent
  pub made_tell : (seed count : ℕ) → uart_outs made_opts rate (made seed count) ≡ all_told 0 (sent_from seed 0 count)
  unfolding made given
  made_tell seed count =
      outs_walked line (first_bit made_opts rate made_range fast) (bits_rise made_opts rate made_range fast) (made seed count)
      ∙ by_levels line (made seed count) Idle 0 None
      ∙ transactions_tell seed count 0 0 false
