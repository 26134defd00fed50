-- I2C on a whole list of samples, by UM10204: START and STOP conditions (3.1.4), bytes with the
-- most significant bit first (3.1.5), acknowledge (3.1.6), address and R/W (3.1.10), ten-bit
-- addresses (3.1.11), general call (3.1.13).
use Rattle.std.specs.Prelude.{ℕ, nat_lt, ◌&&◌, Bool, true, false, not, ◌==◌, if◌then◌else◌, List}
use Rattle.std.specs.Prelude.{[], ◌∷◌, ◌++◌, length, map, take, drop, Option, Some, None, is_some}
use Rattle.std.specs.List.{flat_map}
use Rattle.la_base.specs.Samples.{is_high}
use Rattle.la_base.specs.declared.wires.Out.{Out}
use Rattle.la_base.specs.declared.wires.PacketKind.TheVariants.{I2cStart, I2cStop, I2cAck}
use Rattle.list_cuts.specs.Along.{along}
use Rattle.list_cuts.specs.Bits.{high_first}
use Rattle.list_cuts.specs.Groups.{groups, after_groups}
use Rattle.list_cuts.specs.LastWhere.{last_that}
use Rattle.list_cuts.specs.Neighbours.{at_neighbours, last_of}
use Rattle.list_cuts.specs.Parts.{parts}
use Rattle.list_cuts.specs.Places.{first_place, last_place}
use Rattle.decoder_core.specs.Outputs.{note_at, packet_at}
use Rattle.dec_i2c.specs.Bytes.{byte_outs, role_behind, read_by, written}

-- what happens on the bus, and at which sample; a clock comes with the level of SDA
pub data Event : Type 0 where
  Start : ℕ → Event
  Stop : ℕ → Event
  Clock : ℕ → Bool → Event

-- the event at sample k, by the levels of SCL before it and at it, and of SDA before it and at it
abbrev pub event_by : ℕ → Bool → Bool → Bool → Bool → List Event
event_by k true true true false = Start k ∷ []
event_by k true true false true = Stop k ∷ []
event_by k true true true true = []
event_by k true true false false = []
event_by k true false sda now = []
event_by k false true sda now = Clock k now ∷ []
event_by k false false sda now = []

-- the event at sample k, by the sample before it and its own; there is none at the first
abbrev pub event_at : ℕ → ℕ → ℕ → Option ℕ → ℕ → List Event
event_at scl sda k None now = []
event_at scl sda k (Some before) now =
    event_by k (is_high before scl) (is_high now scl) (is_high before sda) (is_high now sda)

-- all events of a list of samples
abbrev pub events : ℕ → ℕ → List ℕ → List Event
events scl sda samples = at_neighbours (event_at scl sda) samples

abbrev pub place_of : Event → ℕ
place_of (Start k) = k
place_of (Stop k) = k
place_of (Clock k level) = k

abbrev pub level_of : Event → Bool
level_of (Start k) = false
level_of (Stop k) = false
level_of (Clock k level) = level

-- a START, repeated or not
abbrev pub start_outs : Bool → ℕ → List Out
start_outs false k = note_at 0 k 0 ∷ packet_at I2cStart k 0 ∷ []
start_outs true k = note_at 1 k 0 ∷ packet_at I2cStart k 1 ∷ []

abbrev pub stop_outs : ℕ → List Out
stop_outs k = note_at 2 k 0 ∷ packet_at I2cStop k 0 ∷ []

-- an acknowledge bit: SDA low is ACK, high is NACK
abbrev pub ack_outs : ℕ → Bool → List Out
ack_outs k false = note_at 7 k 0 ∷ packet_at I2cAck k 0 ∷ []
ack_outs k true = note_at 8 k 0 ∷ packet_at I2cAck k 1 ∷ []

-- the clocks of a segment, byte by byte: eight clocks are a byte and the ninth acknowledges it;
-- behind the whole groups of nine a byte may stand without its ninth, and fewer than eight clocks
-- are nothing
abbrev pub last_byte : List Event → List (List Event)
last_byte rest = if length rest == 8 then rest ∷ [] else []

unfoldable pub bytes_of : List Event → List (List Event)
bytes_of clocks = groups 9 clocks ++ last_byte (after_groups 9 clocks)

-- the number that clocks make up: the first bit is the highest
abbrev pub value_of : List Event → ℕ
value_of clocks = high_first (map level_of clocks)

-- the value of a byte, and the values of bytes
abbrev pub byte_value : List Event → ℕ
byte_value byte = value_of (take 8 byte)

abbrev pub values_of : List (List Event) → List ℕ
values_of bytes = map byte_value bytes

-- eight clocks, by the bytes of their segment before them
abbrev pub eight_outs : (ℕ → Option ℕ) → List ℕ → List Event → List Out
eight_outs known before clocks =
    byte_outs known (role_behind before) (first_place place_of clocks) (last_place place_of clocks)
    (value_of clocks)

-- a byte with its acknowledge bit, by the bytes of its segment before it
abbrev pub group_outs : (ℕ → Option ℕ) → List (List Event) → List Event → List Out
group_outs known before byte =
    eight_outs known (values_of before) (take 8 byte)
    ++ flat_map (λ clock. ack_outs (place_of clock) (level_of clock)) (drop 8 byte)

-- the clocks of a segment; `known` says from which ten-bit address it would read with this first
-- byte
unfoldable pub clocks_outs : (ℕ → Option ℕ) → List Event → List Out
clocks_outs known clocks = along (group_outs known) (bytes_of clocks)

-- START and STOP cut the events into parts; a part that begins with a START is a segment
abbrev pub is_mark : Event → Bool
is_mark (Start k) = true
is_mark (Stop k) = true
is_mark (Clock k level) = false

-- the clocks of a part, where it is a segment
abbrev pub segment_in : List Event → Option (List Event)
segment_in [] = None
segment_in (Start k ∷ clocks) = Some clocks
segment_in (Stop k ∷ clocks) = None
segment_in (Clock k level ∷ clocks) = None

-- the segment that is open behind some parts: the last of them, where that isn't a STOP
abbrev pub segment_of : Option (List Event) → Option (List Event)
segment_of None = None
segment_of (Some part) = segment_in part

abbrev pub open_segment : List (List Event) → Option (List Event)
open_segment earlier = segment_of (last_of earlier)

-- the values of the bytes of a part; a STOP has none
abbrev pub bytes_in : Option (List Event) → List ℕ
bytes_in None = []
bytes_in (Some clocks) = values_of (bytes_of clocks)

-- whether a part is no segment that begins with this byte: a STOP, a segment without a byte, or one
-- with another first byte
abbrev pub begins_with : ℕ → List ℕ → Bool
begins_with byte [] = false
begins_with byte (first ∷ others) = first == byte

abbrev pub is_other : ℕ → List Event → Bool
is_other byte part = not (begins_with byte (bytes_in (segment_in part)))

-- the ten-bit address that a segment with this first byte reads from, by the parts before it: the
-- last of them that doesn't begin with that byte too is a segment that writes to this address, and
-- so no STOP stands between that one and this
abbrev pub read_from : List (List Event) → ℕ → Option ℕ
read_from earlier byte =
    read_by byte (written (bytes_in (segment_of (last_that (is_other byte) earlier))))

-- a part, by the parts before it: a START is repeated where a segment is open. Clocks behind a STOP
-- give nothing
abbrev pub part_outs : List (List Event) → List Event → List Out
part_outs earlier [] = []
part_outs earlier (Start k ∷ clocks) =
    start_outs (is_some (open_segment earlier)) k ++ clocks_outs (read_from earlier) clocks
part_outs earlier (Stop k ∷ clocks) = stop_outs k
part_outs earlier (Clock k level ∷ clocks) = []

abbrev pub events_outs : List Event → List Out
events_outs list = along part_outs (parts is_mark list)

-- *outputs*: all that samples give
unfoldable pub i2c_outs : ℕ → ℕ → List ℕ → List Out
i2c_outs scl sda samples = events_outs (events scl sda samples)

-- where the clocks behind the whole groups begin, if they are one to seven: a byte that isn't given
-- yet
abbrev pub begun_at : List Event → ℕ → ℕ
begun_at rest next =
    if nat_lt 0 (length rest) && nat_lt (length rest) 8 then first_place place_of rest else next

abbrev pub near_in : Option (List Event) → ℕ → ℕ
near_in None next = next
near_in (Some clocks) next = begun_at (after_groups 9 clocks) next

-- *near*: where the byte that has begun and isn't given yet starts, else the number of samples
unfoldable pub i2c_near : ℕ → ℕ → List ℕ → ℕ
i2c_near scl sda samples =
    near_in (open_segment (parts is_mark (events scl sda samples))) (length samples)
