-- What the transactions of made captures say on a serial line: a byte for each, the first sample of
-- which is t.
use Rattle.std.specs.Prelude.{ℕ, zero, suc, ◌+◌, ◌*◌, List, [], ◌∷◌, ◌++◌}
use Rattle.la_base.specs.declared.wires.Out.{Out}
use Rattle.la_base.specs.declared.wires.PacketKind.TheVariants.{UartFrame}
use Rattle.decoder_core.specs.Outputs.{span_note, span_piece, span_packet}
use Rattle.dec_uart.specs.declared.options.UartOpts.{UartOpts}
use Rattle.capture_make.specs.declared.drawing.Sent.{Sent}

-- the options of the line: bit 2 of the samples at 100000 baud, eight bits, no parity, one stop
-- bit, read in the middle
abbrev pub made_opts : UartOpts
made_opts = record { rx = 2; baud = 100000; bits = 8; parity = 0; stop = 1; sp = 50 }

-- a byte, from its start bit to the sample at which its stop bit is read
abbrev pub line_told : ℕ → Sent → List Out
line_told t s =
    span_note 1 (t + 10) (t + 105) s.serial 0 ∷ span_piece 0 (t + 10) (t + 105) s.serial
    ∷ span_packet UartFrame (t + 10) (t + 105) s.serial 0 ∷ []

-- all transactions, the first of which begins at sample t; each takes 120
abbrev pub all_told : ℕ → List Sent → List Out
all_told t [] = []
all_told t (s ∷ later) = line_told t s ++ all_told (t + 120) later
