-- A walk over packets: what is kept of the packets so far, and what one more of them gives and
-- changes. What a definition over whole lists promises that goes on as a walk says.
use Rattle.std.specs.Prelude.{◌≡◌, ℕ, ◌≤◌, List, [], ◌∷◌, ◌++◌, length}
use Rattle.la_base.specs.declared.wires.Out.{Out}
use Rattle.la_base.specs.declared.wires.Packet.{Packet}
use Rattle.la_base.specs.declared.wires.Wire.{Wire}
use Rattle.decoder_core.specs.Promises.{NotesFrom, PacketsOn, packet_starts}
use Rattle.sample_walks.specs.Walks.{Between}

-- a walk: its states, what one more packet does to one, and where that starts which has begun and
-- isn't given yet, by the place from which on all that come start
pub record PacketWalk (H : Type 0) : Type 0 where
  pub begin : H
  pub next : H → Packet → H
  pub gives : H → Packet → List Out
  pub near : H → ℕ → ℕ

-- what a walk owes, of one state and one packet that counts. `fits`: a state may stand behind
-- packets the last of which starts there or earlier
pub record SoundPackets {H : Type 0} (w : PacketWalk H) (on : Wire)
    (fits : H → ℕ → Type 0) : Type 0 where
  pub begin_fits : fits w.begin 0
  pub next_fits : (h : H) (last : ℕ) (p : Packet) → fits h last → last ≤ p.start
      → fits (w.next h p) p.start
  pub later_fits : (h : H) (last from : ℕ) → fits h last → last ≤ from → fits h from
  pub few : (h : H) (p : Packet) → length (w.gives h p) ≤ 16
  pub on_wire : (h : H) (p : Packet) → PacketsOn on (w.gives h p)
  pub notes : (h : H) (last : ℕ) (p : Packet) → fits h last → last ≤ p.start
      → NotesFrom (w.near h last) (w.gives h p)
  pub packets : (h : H) (last : ℕ) (p : Packet) → fits h last → last ≤ p.start
      → Between (w.near h last) (w.near (w.next h p) p.start) (packet_starts (w.gives h p))

-- a definition over whole lists of packets, and what it leaves, with one more packet
pub record PushedPackets {H : Type 0} (w : PacketWalk H) (outs : List Packet → List Out)
    (kept : List Packet → H) : Type 0 where
  pub no_outs : outs [] ≡ []
  pub no_kept : kept [] ≡ w.begin
  pub outs_push : (ps : List Packet) (p : Packet)
      → outs (ps ++ p ∷ []) ≡ outs ps ++ w.gives (kept ps) p
  pub kept_push : (ps : List Packet) (p : Packet) → kept (ps ++ p ∷ []) ≡ w.next (kept ps) p

-- where what is open starts, by the definition, is where the walk says that it does
abbrev pub IsNear : {H : Type 0} → PacketWalk H → (List Packet → ℕ → ℕ) → (List Packet → H) → Type 0
IsNear w near kept =
    (packets : List Packet) (from : ℕ) → near packets from ≡ w.near (kept packets) from
