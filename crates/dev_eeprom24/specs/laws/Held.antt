-- What an EEPROM keeps of the phases that it knows, and what a byte gives.
use Rattle.std.specs.Prelude.{ℕ, ◌≡◌, ◌+◌, ◌-◌, ◌*◌, ◌%◌, nat_le, if◌then◌else◌, List, [], ◌∷◌}
use Rattle.std.specs.Prelude.{length}
use Rattle.decoder_core.specs.Outputs.{span_note}
use Rattle.la_base.specs.declared.wires.Packet.{Packet}
use Rattle.la_base.specs.declared.wires.Out.{Out}
use Rattle.dev_eeprom24.specs.declared.chip.Chip.{Chip}
use Rattle.dev_eeprom24.specs.declared.held.Word.{Word}
use Rattle.dev_eeprom24.specs.declared.held.Word.TheVariants.{Empty, Half, Whole}
use Rattle.dev_eeprom24.specs.declared.held.Held.{Held}
use Rattle.dev_eeprom24.specs.declared.held.Eeprom.{Eeprom}
use Rattle.i2c_phases.specs.Phases.{Meaning, Nothing, Writes, Reads, Reset, byte_of}
use Rattle.i2c_phases.specs.Bytes.{byte_note, byte_piece}
use Rattle.i2c_phases.specs.Pointers.{of_last}
use Rattle.dev_eeprom24.specs.Eeprom.{has_word, word_of, data_of, pointer}

-- the first byte of a word address
abbrev pub half_of : List Packet → Word
half_of [] = Empty
half_of (packet ∷ packets) = Half (byte_of packet) packet.start

module _ (o : Chip) where
  -- what is kept of the bytes of a write phase, and of the open phase
  abbrev pub word_known : List Packet → Word
  word_known bytes =
      if has_word o bytes
      then Whole (word_of o bytes - word_of o bytes % o.page)
      ((word_of o bytes + length (data_of o bytes)) % o.page)
      else half_of bytes

  abbrev pub word_in : Meaning → Word
  word_in Nothing = Empty
  word_in (Writes bytes) = word_known bytes
  word_in (Reads bytes) = Empty
  word_in Reset = Empty

  -- what is kept of phases
  unfoldable pub held_of : List Meaning → Held
  held_of phases = record { pointer = pointer o phases; word = of_last word_in Empty phases }

  -- what is kept behind a whole word address, and behind one more byte that is written
  abbrev pub started : ℕ → Held
  started w =
      record {
        pointer = (w - w % o.page + w % o.page) % o.size;
        word = Whole (w - w % o.page) (w % o.page);
      }

  abbrev pub put_by : ℕ → Word → Packet → Held
  put_by at Empty packet =
      if nat_le o.size 256 then started (byte_of packet % o.size)
      else (record { pointer = at; word = Half (byte_of packet) packet.start })
  put_by at (Half high first) packet = started ((high * 256 + byte_of packet) % o.size)
  put_by at (Whole front place) packet =
      record {
        pointer = (front + (place + 1) % o.page) % o.size;
        word = Whole front ((place + 1) % o.page);
      }

  -- what a byte that is written gives
  abbrev pub put_gives : Word → Packet → List Out
  put_gives Empty packet =
      if nat_le o.size 256 then byte_note 0 packet (byte_of packet % o.size) 0 ∷ [] else []
  put_gives (Half high first) packet =
      span_note 0 first packet.end ((high * 256 + byte_of packet) % o.size) 0 ∷ []
  put_gives (Whole front place) packet =
      byte_note 1 packet (byte_of packet) (front + place) ∷ byte_piece 0 packet ∷ []

  -- what a byte that is read gives
  abbrev pub get_gives : ℕ → Packet → List Out
  get_gives at packet = byte_note 2 packet (byte_of packet) at ∷ byte_piece 1 packet ∷ []

-- an EEPROM knows phases: it keeps what they leave
abbrev pub Knows : Eeprom → List Meaning → Type 0
Knows device phases = device.held ≡ held_of device.chip phases
