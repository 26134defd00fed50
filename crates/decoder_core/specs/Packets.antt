-- The packets that count for a decoder of packets.
use Rattle.std.specs.Prelude.{ℕ, ◌≡◌, ◌≤◌, nat_le, Bool, ◌&&◌, if◌then◌else◌, List, [], ◌∷◌, ◌++◌}
use Rattle.la_base.specs.Kinds.{same_wire, wire_of}
use Rattle.la_base.specs.declared.wires.Packet.{Packet}
use Rattle.la_base.specs.declared.wires.Out.{Out}
use Rattle.la_base.specs.declared.wires.Wire.{Wire}
use Rattle.decoder_core.specs.Inputs.{Item, Sample, Pack}
use Rattle.decoder_core.specs.Promises.{NotesFrom, PacketsFrom, packet_starts}
use Rattle.std.specs.List.Sorted.{IsNonDecreasing}

-- a packet counts behind one that starts at `last`: it is of this wire, and starts no earlier
abbrev pub counts : Wire → ℕ → Packet → Bool
counts wire last packet = same_wire (wire_of packet.kind) wire && nat_le last packet.start

-- those that count, behind one that starts at `last`
abbrev pub counting : Wire → ℕ → List Item → List Packet
counting wire last [] = []
counting wire last (Sample value ∷ items) = counting wire last items
counting wire last (Pack packet ∷ items) =
    if counts wire last packet then packet ∷ counting wire packet.start items
    else counting wire last items

-- those that count of a whole input
unfoldable pub counted_packets : Wire → List Item → List Packet
counted_packets wire items = counting wire 0 items

-- the start of the last packet, or `last` where there is none
abbrev pub last_start : ℕ → List Packet → ℕ
last_start last [] = last
last_start last (packet ∷ packets) = last_start packet.start packets

-- packets that all count, behind one that starts at `last`
abbrev pub CountFrom : Wire → ℕ → List Packet → Type 0
CountFrom wire last [] = Unit {0}
CountFrom wire last (packet ∷ packets) =
    (wire_of packet.kind ≡ wire) × (last ≤ packet.start) × CountFrom wire packet.start packets

-- packets that all count
abbrev pub AllCount : Wire → List Packet → Type 0
AllCount wire packets = CountFrom wire 0 packets

-- each packet among items starts at this sample or later
abbrev pub ItemsFrom : ℕ → List Item → Type 0
ItemsFrom above [] = Unit {0}
ItemsFrom above (Sample value ∷ items) = ItemsFrom above items
ItemsFrom above (Pack packet ∷ items) = (above ≤ packet.start) × ItemsFrom above items

-- *floor* over what comes from `above` on: each note and each packet that further items add starts
-- there or later, where each packet among them starts at `above` or later
abbrev pub IsFloorOver : ℕ → (List Item → List Out) → List Item → ℕ → Type 0
IsFloorOver above outs input floor =
    (more : List Item) (new : List Out) → ItemsFrom above more
    → outs (input ++ more) ≡ outs input ++ new → NotesFrom floor new × PacketsFrom floor new

-- *floor* of packets: each note and each packet that further packets add, which count after one
-- that starts at `from`, starts there or later
abbrev pub IsPacketFloor : Wire → (List Packet → List Out) → List Packet → ℕ → ℕ → Type 0
IsPacketFloor wire outs seen from floor =
    (more : List Packet) (new : List Out) → AllCount wire seen → CountFrom wire from more
    → outs (seen ++ more) ≡ outs seen ++ new → NotesFrom floor new × PacketsFrom floor new

-- *order* of packets: where packets count, the starts of those that are put out never fall
abbrev pub PacketsStayInOrder : Wire → (List Packet → List Out) → Type 0
PacketsStayInOrder wire outs =
    (packets : List Packet) → AllCount wire packets → IsNonDecreasing (packet_starts (outs packets))

-- *one machine*: two machines of one setup that stand for the same packets are equal
abbrev pub OnePacketMachine : {D S : Type 0} → (D → S) → (D → List Packet → Type 0) → Type 0
OnePacketMachine {D} setup stands =
    (one other : D) (packets : List Packet) → setup one ≡ setup other → stands one packets
    → stands other packets → one ≡ other

-- behind an input, none of these items counts
abbrev pub NoneCount : Wire → List Item → List Item → Type 0
NoneCount wire input more = counted_packets wire (input ++ more) ≡ counted_packets wire input

-- a follower has consumed this input: its machine stands for the packets that count, the last of
-- which starts at `last`
pub record Follows {D : Type 0} (stands : D → List Packet → Type 0) (wire : Wire) (machine : D)
    (last : ℕ) (input : List Item) : Type 0 where
  pub machine_stands : stands machine (counted_packets wire input)
  pub last_is : last ≡ last_start 0 (counted_packets wire input)
