-- What a device tells of a byte of its phases.
use Rattle.std.specs.Prelude.{ℕ}
use Rattle.decoder_core.specs.Outputs.{span_note, span_piece}
use Rattle.la_base.specs.declared.wires.Packet.{Packet}
use Rattle.la_base.specs.declared.wires.Out.{Out}
use Rattle.i2c_phases.specs.Phases.{byte_of}

-- a note and a piece of one byte
abbrev pub byte_note : ℕ → Packet → ℕ → ℕ → Out
byte_note class packet a b = span_note class packet.start packet.end a b

abbrev pub byte_piece : ℕ → Packet → Out
byte_piece class packet = span_piece class packet.start packet.end (byte_of packet)
