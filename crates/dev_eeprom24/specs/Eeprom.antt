-- A serial EEPROM on a whole list of packets that count.
use Rattle.std.specs.Prelude.{ℕ, ◌+◌, ◌-◌, ◌*◌, ◌%◌, nat_le, Bool, true, false, if◌then◌else◌, List}
use Rattle.std.specs.Prelude.{[], ◌∷◌, ◌++◌, length, take, drop}
use Rattle.std.specs.List.{fold, flat_map, enumerate_from}
use Rattle.decoder_core.specs.Outputs.{span_note}
use Rattle.la_base.specs.declared.wires.Packet.{Packet}
use Rattle.la_base.specs.declared.wires.Out.{Out}
use Rattle.list_cuts.specs.Along.{along}
use Rattle.dev_eeprom24.specs.declared.chip.Chip.{Chip}
use Rattle.i2c_phases.specs.Phases.{Meaning, Nothing, Writes, Reads, Reset, byte_of, meanings}
use Rattle.i2c_phases.specs.Bytes.{byte_note, byte_piece}
use Rattle.i2c_phases.specs.Pointers.{pointer_behind}

-- how many bytes a word address has
abbrev pub address_len : ℕ → ℕ
address_len size = if nat_le size 256 then 1 else 2

-- the number that bytes make up, high first
abbrev pub number_of : List Packet → ℕ
number_of bytes = fold (λ n packet. n * 256 + byte_of packet) 0 bytes

-- the note of a word address, over its bytes
abbrev pub word_note : List Packet → ℕ → List Out
word_note [] w = []
word_note (first ∷ []) w = byte_note 0 first w 0 ∷ []
word_note (first ∷ last ∷ others) w = span_note 0 first.start last.end w 0 ∷ []

module _ (o : Chip) where
  -- a write phase has a whole word address
  abbrev pub has_word : List Packet → Bool
  has_word bytes = nat_le (address_len o.size) (length bytes)

  -- its word address, and the bytes of data behind it
  abbrev pub word_of : List Packet → ℕ
  word_of bytes = number_of (take (address_len o.size) bytes) % o.size

  abbrev pub data_of : List Packet → List Packet
  data_of bytes = drop (address_len o.size) bytes

  -- the address of data byte i behind word address w: it stays in its page
  abbrev pub in_page : ℕ → ℕ → ℕ
  in_page w i = w - w % o.page + (w + i) % o.page

  -- a phase that sets the pointer, and to what
  abbrev pub sets : Meaning → Bool
  sets Nothing = false
  sets (Writes bytes) = has_word bytes
  sets (Reads bytes) = false
  sets Reset = true

  abbrev pub set_to : Meaning → ℕ
  set_to Nothing = 0
  set_to (Writes bytes) = in_page (word_of bytes) (length (data_of bytes))
  set_to (Reads bytes) = 0
  set_to Reset = 0

  -- how many bytes a phase reads
  abbrev pub reads_of : Meaning → ℕ
  reads_of Nothing = 0
  reads_of (Writes bytes) = 0
  reads_of (Reads bytes) = length bytes
  reads_of Reset = 0

  -- the pointer behind some phases: what the last phase that sets it made it, and as many bytes on
  -- as were read since
  abbrev pub pointer : List Meaning → ℕ
  pointer before = pointer_behind sets set_to reads_of before % o.size

  -- data byte i of a write phase, and byte i of a read phase
  abbrev pub write_outs : ℕ → ℕ × Packet → List Out
  write_outs w part =
      byte_note 1 part.1 (byte_of part.1) (in_page w part.0) ∷ byte_piece 0 part.1 ∷ []

  abbrev pub read_outs : ℕ → ℕ × Packet → List Out
  read_outs from part =
      byte_note 2 part.1 (byte_of part.1) ((from + part.0) % o.size) ∷ byte_piece 1 part.1 ∷ []

  -- what a phase gives, by the pointer before it
  abbrev pub phase_outs : ℕ → Meaning → List Out
  phase_outs from Nothing = []
  phase_outs from (Writes bytes) =
      if has_word bytes then word_note (take (address_len o.size) bytes) (word_of bytes)
      ++ flat_map (write_outs (word_of bytes)) (enumerate_from 0 (data_of bytes)) else []
  phase_outs from (Reads bytes) = flat_map (read_outs from) (enumerate_from 0 bytes)
  phase_outs from Reset = []

  -- what a phase gives behind earlier ones
  abbrev pub step : List Meaning → Meaning → List Out
  step before phase = phase_outs (pointer before) phase

  -- *outputs*: all that packets give
  unfoldable pub eeprom_outs : List Packet → List Out
  eeprom_outs packets = along step (meanings (80 + o.addr) (o.resets) packets)
