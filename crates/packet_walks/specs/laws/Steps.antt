-- A device's transactions packet by packet: what is kept of the one that is open, and what a device
-- owes of it.
use Rattle.std.specs.Prelude.{ℕ, ◌≡◌, ◌≤◌, if◌then◌else◌, List, [], ◌∷◌, ◌++◌, length, Option, Some}
use Rattle.std.specs.Prelude.{None}
use Rattle.la_base.specs.declared.wires.Out.{Out}
use Rattle.la_base.specs.declared.wires.Out.TheVariants.{Note as NoteOut, Piece as PieceOut}
use Rattle.la_base.specs.declared.wires.Out.TheVariants.{Packet as PacketOut}
use Rattle.la_base.specs.declared.wires.Packet.{Packet}
use Rattle.decoder_core.specs.Promises.{NotesFrom}
use Rattle.packet_walks.specs.Walks.{PacketWalk}
use Rattle.packet_walks.specs.Transactions.{Device, open_part}

-- no packet is among outputs
abbrev pub NoPackets : List Out → Type 0
NoPackets [] = Unit {0}
NoPackets (NoteOut note ∷ outs) = NoPackets outs
NoPackets (PieceOut piece ∷ outs) = NoPackets outs
NoPackets (PacketOut packet ∷ outs) = ⊥

-- what is kept of the transaction that is open: behind the packet that begins it; how one more
-- packet changes it, and what that gives; what the packet gives that ends it; and where that starts
-- which may still give notes, by the place from which on all that come start
pub record Steps (O : Type 0) : Type 0 where
  pub opens : Packet → O
  pub next : O → Packet → O
  pub gives : O → Packet → List Out
  pub closes : O → List Out
  pub near : O → ℕ → ℕ

module _ {O : Type 0} (device : Device) (steps : Steps O) where
  -- what is kept behind a packet where no transaction is open
  abbrev pub begin_next : Packet → Option O
  begin_next packet = if device.begins packet then Some (steps.opens packet) else None

  -- what a packet gives, and what is kept behind it
  abbrev pub held_gives : Option O → Packet → List Out
  held_gives None packet = []
  held_gives (Some kept) packet =
      if device.ends packet then steps.closes kept else steps.gives kept packet

  abbrev pub held_next : Option O → Packet → Option O
  held_next None packet = begin_next packet
  held_next (Some kept) packet =
      if device.ends packet then begin_next packet else Some (steps.next kept packet)

  -- where that starts which may still give notes; where no transaction is open, where the last
  -- packet does
  abbrev pub held_near : Option O → ℕ → ℕ
  held_near None last = last
  held_near (Some kept) last = steps.near kept last

  -- the walk from packet to packet
  abbrev pub transaction_walk : PacketWalk (Option O)
  transaction_walk = record { begin = None; next = held_next; gives = held_gives; near = held_near }

  module _ (kept : Packet → List Packet → O) where
    -- what is kept of a transaction that may be open
    abbrev pub held_in : List Packet → Option O
    held_in [] = None
    held_in (first ∷ packets) = Some (kept first packets)

    -- what is kept of all packets
    unfoldable pub held_of : List Packet → Option O
    held_of packets = held_in (open_part device packets)

  -- what a device owes of the packets inside of one transaction, by what is kept of them
  pub record Pushed (kept : Packet → List Packet → O) : Type 0 where
    pub no_packets : device.inside [] ≡ []
    pub none_kept : (first : Packet) → kept first [] ≡ steps.opens first
    pub inside_push : (first : Packet) (ps : List Packet) (p : Packet)
        → device.inside (ps ++ p ∷ []) ≡ device.inside ps ++ steps.gives (kept first ps) p
    pub kept_push : (first : Packet) (ps : List Packet) (p : Packet)
        → kept first (ps ++ p ∷ []) ≡ steps.next (kept first ps) p
    pub closing_is : (first : Packet) (ps : List Packet)
        → device.closing ps ≡ steps.closes (kept first ps)
    pub near_after : (first : Packet) (ps : List Packet) (last : ℕ)
        → first.start ≤ steps.near (kept first ps) last

  -- what a device owes of one transaction and one packet. `fits`: this may be kept behind packets
  -- the last of which starts there or earlier
  pub record Sound (fits : O → ℕ → Type 0) : Type 0 where
    pub opens_fits : (p : Packet) → fits (steps.opens p) p.start
    pub next_fits : (kept : O) (last : ℕ) (p : Packet) → fits kept last → last ≤ p.start
        → fits (steps.next kept p) p.start
    pub later_fits : (kept : O) (last from : ℕ) → fits kept last → last ≤ from → fits kept from
    pub opens_near : (p : Packet) → p.start ≤ steps.near (steps.opens p) p.start
    pub next_near : (kept : O) (last : ℕ) (p : Packet) → fits kept last → last ≤ p.start
        → steps.near kept last ≤ steps.near (steps.next kept p) p.start
    pub near_below : (kept : O) (last : ℕ) → fits kept last → steps.near kept last ≤ last
    pub few : (kept : O) (p : Packet) → length (steps.gives kept p) ≤ 16
    pub few_closing : (kept : O) → length (steps.closes kept) ≤ 16
    pub no_packet : (kept : O) (p : Packet) → NoPackets (steps.gives kept p)
    pub no_packet_closing : (kept : O) → NoPackets (steps.closes kept)
    pub notes : (kept : O) (last : ℕ) (p : Packet) → fits kept last → last ≤ p.start
        → NotesFrom (steps.near kept last) (steps.gives kept p)
    pub notes_closing : (kept : O) (last : ℕ) → fits kept last
        → NotesFrom (steps.near kept last) (steps.closes kept)
