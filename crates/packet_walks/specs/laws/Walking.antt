-- Decoders of packets that keep the state of a walk.
use Rattle.std.proofs.Common.{◌≡◌, ℕ, ◌≤◌, List, [], ◌∷◌, ◌++◌, sym, ◌∙◌, ap, subst}
use Rattle.std.proofs.Math.Nat.{le_refl}
use Rattle.la_base.specs.declared.wires.Out.{Out}
use Rattle.la_base.specs.declared.wires.Packet.{Packet}
use Rattle.la_base.specs.declared.wires.Wire.{Wire}
use Rattle.decoder_core.specs.Packets.{IsPacketFloor, last_start}
use Rattle.packet_walks.specs.declared.walking.Walking.{Walking}
use Rattle.packet_walks.specs.Walks.{IsNear, PacketWalk, PushedPackets, SoundPackets}
use Rattle.packet_walks.specs.laws.WalkLaws.{walk_floor}

module _ {W S : Type 0} where
  -- the setup and what is kept make a decoder
  pub same_walking : (one other : Walking W S) → one.setup ≡ other.setup → one.held ≡ other.held
      → one ≡ other
  same_walking one other setup held = λ i. record { setup = setup i; held = held i }

  module _ (kept : S → List Packet → W) where
    -- a decoder stands for packets: it keeps what they leave
    abbrev pub StandsFor : Walking W S → List Packet → Type 0
    StandsFor machine packets = machine.held ≡ kept machine.setup packets

    pub one_walking : (one other : Walking W S) (packets : List Packet)
        → one.setup ≡ other.setup → StandsFor one packets → StandsFor other packets → one ≡ other
    one_walking one other packets same stands also =
        same_walking one other same
        (stands ∙ ap (λ (setup : S). kept setup packets) same ∙ sym also)

-- what is kept of packets says what one more packet does, and makes the near place and the floor
module _ {H : Type 0} (w : PacketWalk H) (outs : List Packet → List Out) (kept : List Packet → H)
    (pushed : PushedPackets w outs kept) (held : H) (seen : List Packet)
    (stands : held ≡ kept seen) where
  module _ (packet : Packet) where
    pub kept_stands : (new : H) → new ≡ w.next held packet → new ≡ kept (seen ++ packet ∷ [])
    kept_stands new is =
        is ∙ ap (λ (h : H). w.next h packet) stands ∙ sym (pushed.kept_push seen packet)

    pub kept_loud : (into : List Out) → into ≡ w.gives held packet
        → outs (seen ++ packet ∷ []) ≡ outs seen ++ into
    kept_loud into is =
        pushed.outs_push seen packet
        ∙ ap (λ (l : List Out). outs seen ++ l)
        (ap (λ (h : H). w.gives h packet) (sym stands) ∙ sym is)

  module _ (from result : ℕ) (is : result ≡ w.near held from) where
    near_kept : w.near (kept seen) from ≡ result
    near_kept = sym (is ∙ ap (λ (h : H). w.near h from) stands)

    pub kept_near : (near : List Packet → ℕ → ℕ) → IsNear w near kept → near seen from ≤ result
    kept_near near near_is =
        subst (λ (n : ℕ). near seen from ≤ n) (near_is seen from ∙ near_kept)
        (le_refl (near seen from))

    pub kept_floor : (wire on : Wire) (fits : H → ℕ → Type 0) → SoundPackets w on fits
        → last_start 0 seen ≤ from → IsPacketFloor wire outs seen from result
    kept_floor wire on fits sound later =
        subst (IsPacketFloor wire outs seen from) near_kept
        (walk_floor w outs kept pushed on fits sound wire seen from later)
