-- What an I2C decoder waits for, what it keeps of a bus between two events, and what one event
-- gives and changes.
use Rattle.std.specs.Prelude.{ℕ, ◌+◌, ◌*◌, ◌%◌, ◌^◌, nat_lt, Bool, true, false, ◌==◌, ◌&&◌}
use Rattle.std.specs.Prelude.{if◌then◌else◌, List, [], ◌∷◌, length, Option, Some, None, is_some}
use Rattle.la_base.specs.Samples.{is_high}
use Rattle.la_base.specs.declared.wires.Out.{Out}
use Rattle.la_base.specs.declared.wires.Wire.TheVariants.{I2c as I2cWire}
use Rattle.wait_cond.specs.declared.alt.Alt.{Alt}
use Rattle.list_cuts.specs.Bits.{bit_of}
use Rattle.list_cuts.specs.Groups.{after_groups}
use Rattle.list_cuts.specs.Parts.{parts}
use Rattle.list_cuts.specs.Places.{first_place}
use Rattle.sample_walks.specs.Events.{EventWalk}
use Rattle.dec_i2c.specs.declared.held.Role.{Role}
use Rattle.dec_i2c.specs.declared.held.Role.TheVariants.{First, Lower, Command, Write, Read}
use Rattle.dec_i2c.specs.declared.held.Segment.{Segment}
use Rattle.dec_i2c.specs.Bytes.{is_write_prefix, two_bits, ten_bits, read_by, role_second}
use Rattle.dec_i2c.specs.Bytes.{role_behind, byte_outs}
use Rattle.dec_i2c.specs.Bus.{Event, Start, Stop, Clock, place_of, value_of, values_of, bytes_of}
use Rattle.dec_i2c.specs.Bus.{bytes_in, event_at, start_outs, stop_outs, ack_outs, is_mark}
use Rattle.dec_i2c.specs.Bus.{segment_in}

-- SCL stays high and SDA rises or falls; or SCL rises. More alternatives would cost each sample
-- more
abbrev pub mark_alt : ℕ → ℕ → Alt
mark_alt scl sda =
    record {
      low = 0;
      high = 2 ^ scl;
      rise = 0;
      fall = 0;
      edge = 2 ^ sda;
      steady = 2 ^ scl;
      skip = 0;
    }

abbrev pub clock_alt : ℕ → Alt
clock_alt scl =
    record { low = 0; high = 0; rise = 2 ^ scl; fall = 0; edge = 0; steady = 0; skip = 0 }

abbrev pub i2c_alts : ℕ → ℕ → List Alt
i2c_alts scl sda = mark_alt scl sda ∷ clock_alt scl ∷ []

-- the event at sample k, by the set of alternatives that it meets and the level of SDA
abbrev pub event_met : ℕ → ℕ → Bool → Event
event_met met k level = if met == 1 then (if level then Stop k else Start k) else Clock k level

-- the ten-bit address that can be read from behind a segment with these bytes, where that one could
-- before it: the one it writes to, or again the one it reads from
abbrev pub left_by : Option ℕ → List ℕ → Option ℕ
left_by ten [] = None
left_by ten (first ∷ []) = read_by first ten
left_by ten (first ∷ lower ∷ others) =
    if is_write_prefix first then Some (ten_bits (two_bits first) lower) else read_by first ten

-- behind some parts
abbrev pub left_behind : Option ℕ → List (List Event) → Option ℕ
left_behind ten [] = ten
left_behind ten (part ∷ others) = left_behind (left_by ten (bytes_in (segment_in part))) others

-- and what is kept of it in a segment with these bytes so far: before the first of them it stays
abbrev pub ten_in : Option ℕ → List ℕ → Option ℕ
ten_in ten [] = ten
ten_in ten (first ∷ others) = left_by ten (first ∷ others)

-- what is kept of an open segment: its bytes so far, and the clocks behind the whole groups of nine
abbrev pub segment_with : Option ℕ → List ℕ → List Event → Segment
segment_with ten bytes rest = record {
  role = role_behind bytes;
  ten = ten_in ten bytes;
  bits = length rest;
  byte = value_of rest;
  first = first_place place_of rest;
}

abbrev pub segment_by : Option ℕ → List Event → Segment
segment_by ten clocks = segment_with ten (values_of (bytes_of clocks)) (after_groups 9 clocks)

abbrev pub held_of : Option ℕ → Option (List Event) → Option Segment
held_of ten None = None
held_of ten (Some clocks) = Some (segment_by ten clocks)

-- what is kept of parts, and of events
abbrev pub held_last : Option ℕ → List (List Event) → Option Segment
held_last ten [] = None
held_last ten (part ∷ []) = held_of ten (segment_in part)
held_last ten (part ∷ next ∷ others) =
    held_last (left_by ten (bytes_in (segment_in part))) (next ∷ others)

abbrev pub held_after : List Event → Option Segment
held_after list = held_last None (parts is_mark list)

-- where the byte starts that has begun and isn't given yet, else the number of samples
abbrev pub near_by : Option Segment → ℕ → ℕ
near_by None next = next
near_by (Some segment) next =
    if nat_lt 0 segment.bits && nat_lt segment.bits 8 then segment.first else next

-- the ten-bit address that an open segment leaves to the next: none without a first byte
abbrev pub handed_by : Role → Option ℕ → Option ℕ
handed_by First ten = None
handed_by (Lower two) ten = ten
handed_by Command ten = ten
handed_by Write ten = ten
handed_by Read ten = ten

abbrev pub handed : Option Segment → Option ℕ
handed None = None
handed (Some segment) = handed_by segment.role segment.ten

-- a byte with one more bit behind it
abbrev pub grown : ℕ → Bool → ℕ
grown byte level = byte % 128 * 2 + bit_of level

-- what follows a byte of a segment, and the ten-bit address behind it
abbrev pub role_next : Role → ℕ → Role
role_next First byte = role_second byte
role_next (Lower two) byte = Write
role_next Command byte = Write
role_next Write byte = Write
role_next Read byte = Read

abbrev pub ten_next : Role → ℕ → Option ℕ → Option ℕ
ten_next First byte ten = read_by byte ten
ten_next (Lower two) byte ten = Some (ten_bits two byte)
ten_next Command byte ten = ten
ten_next Write byte ten = ten
ten_next Read byte ten = ten

-- where the byte starts that clock k belongs to
abbrev pub start_of : ℕ → ℕ → ℕ → ℕ
start_of bits first k = if bits == 0 then k else first

-- what a clock at place k gives in an open segment of this role, with so many bits of a byte that
-- began at `first`
abbrev pub clock_outs : (ℕ → Option ℕ) → Role → ℕ → ℕ → ℕ → ℕ → Bool → List Out
clock_outs known role bits byte first k level =
    if bits == 7 then byte_outs known role first k (grown byte level)
    else (if bits == 8 then ack_outs k level else [])

abbrev pub clock_gives : Segment → ℕ → Bool → List Out
clock_gives s k level = clock_outs (λ own. read_by own s.ten) s.role s.bits s.byte s.first k level

-- and what is then kept
abbrev pub byte_next : Segment → ℕ → Segment
byte_next s byte =
    record {
      role = role_next s.role byte;
      ten = ten_next s.role byte s.ten;
      bits = 8;
      byte = byte;
      first = s.first;
    }

abbrev pub bit_next : Segment → ℕ → ℕ → Segment
bit_next s byte k =
    record {
      role = s.role;
      ten = s.ten;
      bits = s.bits + 1;
      byte = byte;
      first = start_of s.bits s.first k;
    }

abbrev pub group_next : Segment → Segment
group_next s = record { role = s.role; ten = s.ten; bits = 0; byte = 0; first = 0 }

abbrev pub clock_next : Segment → ℕ → Bool → Segment
clock_next s k level =
    if s.bits == 7 then byte_next s (grown s.byte level)
    else if nat_lt s.bits 7 then bit_next s (grown s.byte level) k
    else group_next s

-- a segment that has just begun
abbrev pub begun : Option ℕ → Segment
begun ten = record { role = First; ten = ten; bits = 0; byte = 0; first = 0 }

-- what an event gives, and what is then kept
abbrev pub gives : Option Segment → Event → List Out
gives held (Start k) = start_outs (is_some held) k
gives held (Stop k) = stop_outs k
gives None (Clock k level) = []
gives (Some segment) (Clock k level) = clock_gives segment k level

abbrev pub next : Option Segment → Event → Option Segment
next held (Start k) = Some (begun (handed held))
next held (Stop k) = None
next None (Clock k level) = None
next (Some segment) (Clock k level) = Some (clock_next segment k level)

-- an event that gives nothing and ends nothing, by the set of alternatives that it meets: a clock
-- before the eighth of a byte, or one outside of a segment
abbrev pub is_clock_before : Option Segment → Bool
is_clock_before None = true
is_clock_before (Some segment) = nat_lt segment.bits 7

abbrev pub is_bit : Option Segment → ℕ → Bool
is_bit held met = if met == 1 then false else is_clock_before held

-- what is kept where such an event is taken, and no other
abbrev pub bit_taken : Option Segment → ℕ → Bool → Option Segment
bit_taken None k level = None
bit_taken (Some segment) k level =
    Some (if nat_lt segment.bits 7 then bit_next segment (grown segment.byte level) k else segment)

abbrev pub taken : Option Segment → ℕ → ℕ → Bool → Option Segment
taken held met k level = if met == 1 then held else bit_taken held k level

abbrev pub i2c_walk : ℕ → ℕ → EventWalk (Option Segment) Event
i2c_walk scl sda = record {
  event_at = event_at scl sda;
  begin = None;
  next = next;
  gives = gives;
  alts = λ held. i2c_alts scl sda;
  near = near_by;
  event_of = λ held at value met. event_met met at (is_high value sda);
  wire = I2cWire;
}
