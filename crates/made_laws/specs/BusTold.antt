-- What the transactions of made captures put on an I2C bus, as notes: eight for each, the first
-- sample of which is t.
use Rattle.std.specs.Prelude.{ℕ, zero, suc, ◌+◌, ◌*◌, List, [], ◌∷◌, ◌++◌}
use Rattle.la_base.specs.declared.wires.Out.{Out}
use Rattle.la_base.specs.declared.wires.PacketKind.TheVariants.{I2cStart, I2cStop, I2cAddress}
use Rattle.la_base.specs.declared.wires.PacketKind.TheVariants.{I2cData, I2cAck}
use Rattle.decoder_core.specs.Outputs.{note_at, packet_at, span_note, span_piece, span_packet}
use Rattle.capture_make.specs.declared.drawing.Sent.{Sent}

-- a data byte that is written, and its acknowledge
abbrev pub data_told : ℕ → ℕ → ℕ → ℕ → List Out
data_told first last ack byte =
    span_note 5 first last byte 0 ∷ span_piece 0 first last byte
    ∷ span_packet I2cData first last byte 0
    ∷ note_at 7 ack 0 ∷ packet_at I2cAck ack 0 ∷ []

-- START, the address with R/W 0 and its acknowledge, both data bytes, STOP
abbrev pub bus_told : ℕ → Sent → List Out
bus_told t s =
    note_at 0 (t + 2) 0 ∷ packet_at I2cStart (t + 2) 0
    ∷ span_note 3 (t + 6) (t + 34) s.address 0 ∷ span_packet I2cAddress (t + 6) (t + 34) s.address 0
    ∷ note_at 7 (t + 38) 0 ∷ packet_at I2cAck (t + 38) 0
    ∷ data_told (t + 42) (t + 70) (t + 74) s.first
    ++ data_told (t + 78) (t + 106) (t + 110) s.second
    ++ note_at 2 (t + 116) 0 ∷ packet_at I2cStop (t + 116) 0 ∷ []

-- all transactions, the first of which begins at sample t; each takes 120
abbrev pub all_told : ℕ → List Sent → List Out
all_told t [] = []
all_told t (s ∷ later) = bus_told t s ++ all_told (t + 120) later
