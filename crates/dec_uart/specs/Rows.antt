-- Samples whose outputs are worked by hand.
use Rattle.std.specs.Prelude.{ℕ, ◌≡◌, [], ◌∷◌, ◌++◌, replicate}
use Rattle.std.proofs.Common.{refl}
use Rattle.std.proofs.Math.Nat.{le_refl, le-add_right}
use Rattle.la_base.specs.declared.samples.Rate.{Rate}
use Rattle.la_base.specs.declared.wires.PacketKind.TheVariants.{UartFrame, UartBreak}
use Rattle.decoder_core.specs.Outputs.{span_note, span_piece, span_packet}
use Rattle.dec_uart.specs.declared.options.UartOpts.{UartOpts}
use Rattle.dec_uart.specs.Chain.{chain_outs, chain_near}
use Rattle.dec_uart.specs.Frames.{uart_outs, uart_near}

-- 1,000 samples a second
abbrev kilohertz : Rate
kilohertz = record { num = 1000; den = 1; above_zero = (le-add_right 1 999, le_refl 1) }

-- line 0 with 8 data bits and 1 stop bit, read in the middle of a bit
abbrev line : ℕ → ℕ → UartOpts
line baud parity = record { rx = 0; baud = baud; bits = 8; parity = parity; stop = 1; sp = 50 }

-- the letter A, with bits of three and of four samples
pub a_letter :
    uart_outs (line 300 0) kilohertz
    (replicate 4 1 ++ replicate 3 0 ++ replicate 3 1 ++ replicate 17 0 ++ replicate 3 1
    ++ replicate 4 0 ++ replicate 6 1)
    ≡ span_note 1 4 35 65 0 ∷ span_piece 0 4 35 65 ∷ span_packet UartFrame 4 35 65 0 ∷ []
unfolding chain_outs
a_letter = refl

-- two frames without a one under odd parity, the second without its stop bit: it goes on as a break
pub a_break :
    uart_outs (line 250 1) kilohertz
    (replicate 2 1 ++ replicate 40 0 ++ replicate 4 1 ++ replicate 54 0 ++ replicate 2 1)
    ≡ span_note 1 2 44 0 0 ∷ span_note 2 2 44 0 0 ∷ span_piece 0 2 44 0
    ∷ span_packet UartFrame 2 44 0 1
    ∷ span_note 1 46 88 0 0 ∷ span_note 2 46 88 0 0 ∷ span_note 3 46 88 0 0 ∷ span_piece 0 46 88 0
    ∷ span_packet UartFrame 46 88 0 3
    ∷ span_note 4 46 100 0 0 ∷ span_packet UartBreak 46 100 0 0 ∷ []
unfolding chain_outs
a_break = refl

-- a pulse that is shorter than half a bit
pub a_false_start : uart_outs (line 100 0) kilohertz
    (replicate 2 1 ++ replicate 2 0 ++ replicate 17 1) ≡ span_note 0 2 7 0 0 ∷ []
unfolding chain_outs
a_false_start = refl

-- a frame that may still become a break has begun at 46
pub before_a_break : uart_near (line 250 1) kilohertz
    (replicate 2 1 ++ replicate 40 0 ++ replicate 4 1 ++ replicate 50 0) ≡ 46
unfolding chain_near
before_a_break = refl
