-- What a byte of an I2C segment is and gives, by the bytes before it there (UM10204): address and
-- R/W (3.1.10), ten-bit addresses (3.1.11), general call (3.1.13).
use Rattle.std.specs.Prelude.{ℕ, ◌+◌, ◌*◌, ◌/◌, ◌%◌, ◌&&◌, Bool, not, ◌==◌, if◌then◌else◌, List, []}
use Rattle.std.specs.Prelude.{◌∷◌, Option, Some, None}
use Rattle.la_base.specs.declared.wires.Out.{Out}
use Rattle.la_base.specs.declared.wires.PacketKind.TheVariants.{I2cAddress, I2cData}
use Rattle.decoder_core.specs.Outputs.{span_note, span_piece, span_packet}
use Rattle.dec_i2c.specs.declared.held.Role.{Role}
use Rattle.dec_i2c.specs.declared.held.Role.TheVariants.{First, Lower, Command, Write, Read}

-- R/W, the lowest bit of a first byte: 1 is read
abbrev pub is_read : ℕ → Bool
is_read first = first % 2 == 1

-- a prefix of ten-bit addresses: the upper five bits are 11110; the two behind them are the upper
-- bits of the address
abbrev pub is_prefix : ℕ → Bool
is_prefix first = first / 8 == 30

abbrev pub two_bits : ℕ → ℕ
two_bits first = first / 2 % 4

-- the ten-bit address of its upper two bits and its lower eight
abbrev pub ten_bits : ℕ → ℕ → ℕ
ten_bits two lower = 256 * two + lower

-- a prefix with R/W 0, behind which the lower eight bits follow
abbrev pub is_write_prefix : ℕ → Bool
is_write_prefix first = is_prefix first && not (is_read first)

-- the ten-bit address that a segment with these bytes writes to
abbrev pub written : List ℕ → Option ℕ
written [] = None
written (first ∷ []) = None
written (first ∷ lower ∷ others) =
    if is_write_prefix first then Some (ten_bits (two_bits first) lower) else None

-- a ten-bit address, where a first byte reads from it: it is a prefix with R/W 1 and the same two
-- bits
abbrev pub read_by : ℕ → Option ℕ → Option ℕ
read_by first None = None
read_by first (Some address) =
    if is_prefix first && is_read first && two_bits first == address / 256 then Some address
    else None

-- data in the direction of their segment
abbrev pub direction : ℕ → Role
direction first = if is_read first then Read else Write

-- what the second byte of a segment is, by the first
abbrev pub role_second : ℕ → Role
role_second first =
    if is_write_prefix first then Lower (two_bits first)
    else if first == 0 then Command
    else direction first

-- what a byte is, by the bytes of its segment before it
abbrev pub role_behind : List ℕ → Role
role_behind [] = First
role_behind (first ∷ []) = role_second first
role_behind (first ∷ second ∷ others) = direction first

-- a byte of an address: the class and value of its note, and the second value of its packet
abbrev pub address_outs : ℕ → ℕ → ℕ → ℕ → ℕ → List Out
address_outs class first last a b =
    span_note class first last a 0 ∷ span_packet I2cAddress first last a b ∷ []

-- a data byte: the class of its note, and 0 where it is written, 1 where it is read
abbrev pub data_outs : ℕ → ℕ → ℕ → ℕ → ℕ → List Out
data_outs class read first last byte =
    span_note class first last byte 0 ∷ span_piece read first last byte
    ∷ span_packet I2cData first last byte read ∷ []

-- the class of a first byte that reads from no ten-bit address: a general call, a prefix, or an
-- address
abbrev pub first_class : ℕ → ℕ
first_class byte =
    if byte == 0 then 9
    else if is_prefix byte then (if is_read byte then 13 else 10)
    else (if is_read byte then 4 else 3)

-- a first byte, by the ten-bit address that it reads from
abbrev pub first_outs : Option ℕ → ℕ → ℕ → ℕ → List Out
first_outs None first last byte = address_outs (first_class byte) first last (byte / 2) (byte % 2)
first_outs (Some address) first last byte = address_outs 12 first last address 3

-- a byte from one sample up to another, by what it is; `known` says from which ten-bit address a
-- first byte reads
abbrev pub byte_outs : (ℕ → Option ℕ) → Role → ℕ → ℕ → ℕ → List Out
byte_outs known First first last byte = first_outs (known byte) first last byte
byte_outs known (Lower two) first last byte = address_outs 11 first last (ten_bits two byte) 2
byte_outs known Command first last byte = data_outs 14 0 first last byte
byte_outs known Write first last byte = data_outs 5 0 first last byte
byte_outs known Read first last byte = data_outs 6 1 first last byte
