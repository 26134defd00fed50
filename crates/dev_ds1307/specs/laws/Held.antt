-- What a DS1307 keeps of the phases that it knows, and what a byte gives.
use Rattle.std.specs.Prelude.{ℕ, ◌≡◌, ◌+◌, ◌*◌, ◌/◌, ◌%◌, ◌^◌, ◌==◌, ◌&&◌, nat_le, Bool}
use Rattle.std.specs.Prelude.{if◌then◌else◌, List, [], ◌∷◌, ◌++◌, length}
use Rattle.la_base.specs.declared.wires.Packet.{Packet}
use Rattle.la_base.specs.declared.wires.Out.{Out}
use Rattle.decoder_core.specs.Outputs.{span_note}
use Rattle.i2c_phases.specs.Phases.{Meaning, Nothing, Writes, Reads, Reset, byte_of}
use Rattle.i2c_phases.specs.Bytes.{byte_note, byte_piece}
use Rattle.i2c_phases.specs.Pointers.{of_last}
use Rattle.dev_ds1307.specs.declared.held.Part.{Part}
use Rattle.dev_ds1307.specs.declared.held.Part.TheVariants.{Fresh, Apart, Row}
use Rattle.dev_ds1307.specs.declared.held.Held.{Held}
use Rattle.dev_ds1307.specs.declared.held.Clock.{Clock}
use Rattle.dev_ds1307.specs.Clock.{last_bytes, register, start_of}

-- a number of seven bytes behind one more: it comes in as the highest, and the lowest is lost
abbrev pub collect : ℕ → Packet → ℕ
collect number packet = number / 256 + byte_of packet * 2 ^ 48

abbrev pub collected : ℕ → List Packet → ℕ
collected number [] = number
collected number (byte ∷ bytes) = collected (collect number byte) bytes

-- behind so many bytes of a phase, of which the next is at this register, the last are those of
-- registers from 0 on
abbrev pub in_row : ℕ → ℕ → Bool
in_row at count = nat_le 1 at && (nat_le at 6 && nat_le at count)

-- what bytes leave; `none` where they are no such row
abbrev pub row_of : Part → ℕ → List Packet → Part
row_of none at bytes =
    if in_row at (length bytes)
    then Row (start_of (last_bytes at bytes)) (collected 0 (last_bytes at bytes)) else none

-- what a phase leaves, by the register of the next byte
abbrev pub part_in : ℕ → Meaning → Part
part_in at Nothing = Fresh
part_in at (Writes []) = Fresh
part_in at (Writes (first ∷ bytes)) = row_of Apart at bytes
part_in at (Reads bytes) = row_of Fresh at bytes
part_in at Reset = Fresh

-- what is kept of phases
unfoldable pub held_of : List Meaning → Held
held_of phases =
    record { register = register phases; part = of_last (part_in (register phases)) Fresh phases }

-- what bytes leave behind one more, which is at this register
abbrev pub next_row : Part → Part → Packet → Part
next_row none Fresh packet = none
next_row none Apart packet = none
next_row none (Row start number) packet = Row start (collect number packet)

abbrev pub next_part : Part → ℕ → Part → Packet → Part
next_part none at part packet =
    if at == 0 then Row packet.start (collect 0 packet)
    else (if nat_le 6 at then none else next_row none part packet)

abbrev pub moved : Part → ℕ → Part → Packet → Held
moved none at part packet =
    record { register = (at + 1) % 64; part = next_part none at part packet }

-- the time, where a byte at this register is its last
abbrev pub time_gives : ℕ → Part → Packet → List Out
time_gives class Fresh packet = []
time_gives class Apart packet = []
time_gives class (Row start number) packet =
    span_note class start packet.end (collect number packet) 0 ∷ []

abbrev pub row_gives : ℕ → ℕ → Part → Packet → List Out
row_gives class at part packet = if at == 6 then time_gives class part packet else []

-- what a byte gives at this register
abbrev pub byte_gives : ℕ → ℕ → ℕ → ℕ → Part → Packet → List Out
byte_gives note time piece at part packet =
    byte_note note packet (byte_of packet) at ∷ row_gives time at part packet
    ++ byte_piece piece packet ∷ []

-- what a byte that is written gives, and what is then kept
abbrev pub put_gives : ℕ → Part → Packet → List Out
put_gives at Fresh packet = byte_note 0 packet (byte_of packet % 64) 0 ∷ []
put_gives at Apart packet = byte_gives 1 3 0 at Apart packet
put_gives at (Row start number) packet = byte_gives 1 3 0 at (Row start number) packet

abbrev pub put_by : ℕ → Part → Packet → Held
put_by at Fresh packet = record { register = byte_of packet % 64; part = Apart }
put_by at Apart packet = moved Apart at Apart packet
put_by at (Row start number) packet = moved Apart at (Row start number) packet

-- a DS1307 knows phases: it keeps what they leave
abbrev pub Knows : Clock → List Meaning → Type 0
Knows device phases = device.held ≡ held_of phases
