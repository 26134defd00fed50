-- What is kept between two packets, as plain parts.
use Rattle.std.specs.Prelude.{ℕ, ◌≡◌, ◌==◌, Bool, true, false, Option, Some, None, refl}
use Rattle.list_cuts.specs.Bits.{bit_of}
use Rattle.dec_modbus.specs.declared.held.Held.{Held}
use Rattle.dec_modbus.specs.declared.held.Held.TheVariants.{Outside, Inside}
use Rattle.dec_modbus.specs.declared.held.Message.{Message}

abbrev pub MessageParts : Type 0
MessageParts = (ℕ × (ℕ × ℕ)) × (ℕ × ((ℕ × ℕ) × ℕ))

-- where it starts and ends; how many bytes it has; the CRC of all but the last two, and these;
-- whether one of its frames has an error
abbrev pub message_parts : Message → MessageParts
message_parts message = (
  (message.start, (message.end, message.count)),
  (message.crc, ((message.low, message.high), bit_of message.errors)),
)

abbrev pub message_of : MessageParts → Message
message_of parts =
    record {
      start = parts.0.0;
      end = parts.0.1.0;
      count = parts.0.1.1;
      crc = parts.1.0;
      low = parts.1.1.0.0;
      high = parts.1.1.0.1;
      errors = parts.1.1.1 == 1;
    }

-- nothing, or the parts of the message
abbrev pub held_parts : Held → Option MessageParts
held_parts Outside = None
held_parts (Inside message) = Some (message_parts message)

abbrev pub held_of : Option MessageParts → Held
held_of None = Outside
held_of (Some parts) = Inside (message_of parts)

bit_back : (b : Bool) → (bit_of b == 1) ≡ b
bit_back true = refl
bit_back false = refl

message_back : (message : Message) → message_of (message_parts message) ≡ message
message_back message = λ i. record {
  start = message.start;
  end = message.end;
  count = message.count;
  crc = message.crc;
  low = message.low;
  high = message.high;
  errors = bit_back message.errors i;
}

-- the parts tell what is kept
pub held_back : (held : Held) → held_of (held_parts held) ≡ held
held_back Outside = refl
held_back (Inside message) = λ i. Inside (message_back message i)
