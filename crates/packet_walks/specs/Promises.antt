-- What the outputs of a sound walk over packets promise.
use Rattle.std.specs.Prelude.{ℕ, ◌≡◌, ◌≤◌, List}
use Rattle.la_base.specs.declared.wires.Out.{Out}
use Rattle.la_base.specs.declared.wires.Packet.{Packet}
use Rattle.la_base.specs.declared.wires.Wire.{Wire}
use Rattle.decoder_core.specs.Packets.{AllCount, IsPacketFloor, last_start}
use Rattle.packet_walks.specs.Outputs.{PacketOuts}
use Rattle.packet_walks.specs.Walks.{PacketWalk, SoundPackets, PushedPackets}

-- what all outputs promise, and the floor of all packets that come from a place on
pub record Promises {H : Type 0} (w : PacketWalk H) (wants gives : Wire)
    (outs : List Packet → List Out) (kept : List Packet → H) : Type 0 where
  pub all : PacketOuts wants gives outs
  pub floor : (seen : List Packet) (from : ℕ) → last_start 0 seen ≤ from
      → IsPacketFloor wants outs seen from (w.near (kept seen) from)

-- a state that packets leave which count, the last of which starts there or earlier
abbrev pub Reached : {H : Type 0} → Wire → (List Packet → H) → H → ℕ → Type 0
Reached wants kept h last =
    (packets : List Packet) × AllCount wants packets × (kept packets ≡ h)
    × (last_start 0 packets ≤ last)

-- outputs that go on as a walk says which is sound where packets lead keep these promises
abbrev pub KeepsPromises : Type 0 → Type 0
KeepsPromises H =
    (w : PacketWalk H) (wants gives : Wire) (outs : List Packet → List Out) (kept : List Packet → H)
    → SoundPackets w gives (Reached wants kept) → PushedPackets w outs kept
    → Promises w wants gives outs kept
