-- Samples and packets whose outputs are worked by hand.
use Rattle.std.specs.Prelude.{ℕ, zero, suc, ◌+◌, ◌-◌, ◌*◌, ◌/◌, ◌%◌, ◌≡◌, Bool, true, false, ◌&&◌}
use Rattle.std.specs.Prelude.{◌==◌, List, [], ◌∷◌, ◌++◌, replicate}
use Rattle.std.proofs.Common.{refl}
use Rattle.std.proofs.Math.Nat.{le_refl, le-add_right}
use Rattle.la_base.specs.declared.samples.Rate.{Rate}
use Rattle.la_base.specs.declared.wires.Packet.{Packet}
use Rattle.la_base.specs.declared.wires.PacketKind.{PacketKind}
use Rattle.la_base.specs.declared.wires.PacketKind.TheVariants.{OwReset, OwPresence, OwBit}
use Rattle.la_base.specs.declared.wires.PacketKind.TheVariants.{NetReset, NetCommand, NetRom}
use Rattle.la_base.specs.declared.wires.PacketKind.TheVariants.{NetByte}
use Rattle.list_cuts.specs.Groups.{groups, after_groups}
use Rattle.decoder_core.specs.Outputs.{span_note, span_piece, span_packet}
use Rattle.dec_onewire.specs.declared.link.options.OwLinkOpts.{OwLinkOpts}
use Rattle.dec_onewire.specs.Link.{link_outs, link_near}
use Rattle.dec_onewire.specs.Net.{crc8, net_outs, net_near}

-- 100,000 samples a second
abbrev hundred_kilohertz : Rate
hundred_kilohertz = record { num = 100000; den = 1; above_zero = (le-add_right 1 99999, le_refl 1) }

-- a reset has 48 samples, its answer comes within 10, and a 0 has 2
abbrev usual : OwLinkOpts
usual = record { dq = 0; reset = 480000; window = 100000; bit = 20000 }

-- a reset with its answer, a 1 and two zeros, the second as short as one may be
pub reset_and_bits :
    link_outs usual hundred_kilohertz
    (replicate 1 1 ++ replicate 48 0 ++ replicate 3 1 ++ replicate 12 0 ++ replicate 35 1
    ++ replicate 1 0 ++ replicate 6 1 ++ replicate 6 0 ++ replicate 1 1 ++ replicate 2 0
    ++ replicate 1 1)
    ≡ span_note 0 1 49 0 0 ∷ span_packet OwReset 1 49 0 0 ∷ span_note 1 52 64 0 0
    ∷ span_packet OwPresence 52 64 0 0
    ∷ span_note 2 99 100 1 0 ∷ span_packet OwBit 99 100 1 0 ∷ span_note 2 106 112 0 0
    ∷ span_packet OwBit 106 112 0 0
    ∷ span_note 2 113 115 0 0 ∷ span_packet OwBit 113 115 0 0 ∷ []
unfolding link_outs
reset_and_bits = refl

-- an answer at the end of its window, and one that comes too late
pub late_answer :
    link_outs usual hundred_kilohertz
    (replicate 1 1 ++ replicate 48 0 ++ replicate 10 1 ++ replicate 12 0 ++ replicate 5 1
    ++ replicate 49 0 ++ replicate 11 1 ++ replicate 12 0 ++ replicate 1 1)
    ≡ span_note 0 1 49 0 0 ∷ span_packet OwReset 1 49 0 0 ∷ span_note 1 59 71 0 0
    ∷ span_packet OwPresence 59 71 0 0
    ∷ span_note 0 76 125 0 0 ∷ span_packet OwReset 76 125 0 0 ∷ span_note 2 136 148 0 0
    ∷ span_packet OwBit 136 148 0 0 ∷ []
unfolding link_outs
late_answer = refl

-- a line that is low from the front on has no pulse yet, and one that hasn't risen isn't given
pub open_pulse : link_outs usual hundred_kilohertz
    (replicate 60 0 ++ replicate 2 1 ++ replicate 60 0) ≡ []
unfolding link_outs
open_pulse = refl

-- its start is the near place
pub open_pulse_near : link_near usual (replicate 60 0 ++ replicate 2 1 ++ replicate 60 0) ≡ 62
unfolding link_near
open_pulse_near = refl

-- packet j goes from 10 j to 10 j + 5
abbrev packet : ℕ → PacketKind → ℕ → Packet
packet j kind a =
    record {
      kind = kind;
      start = 10 * j;
      end = 10 * j + 5;
      a = a;
      b = 0;
      in_order = le-add_right (10 * j) 5;
    }

-- so many bits of a number, the lowest first
abbrev bits : ℕ → ℕ → ℕ → List Packet
bits zero j number = []
bits (suc n) j number = packet j OwBit (number % 2) ∷ bits n (j + 1) (number / 2)

-- the CRC of the first seven bytes of a ROM
pub a_crc : crc8 (2 ∷ 28 ∷ 184 ∷ 1 ∷ 0 ∷ 0 ∷ 0 ∷ []) ≡ 162
a_crc = refl

-- Match ROM with the ROM 02 1C B8 01 00 00 00 A2, a byte, and three bits of another one
pub matched :
    net_outs (packet 0 OwReset 0 ∷ packet 1 OwPresence 0 ∷ bits 8 2 85
    ++ bits 64 10 11673330234173168642 ++ bits 8 74 190 ++ bits 3 82 7)
    ≡ span_note 0 0 15 0 0 ∷ span_packet NetReset 0 15 0 0 ∷ span_note 1 20 95 85 0
    ∷ span_packet NetCommand 20 95 85 0
    ∷ span_note 2 100 735 11673330234173168642 0 ∷ span_packet NetRom 100 735 11673330234173168642 0
    ∷ span_note 3 740 815 190 0 ∷ span_piece 0 740 815 190 ∷ span_packet NetByte 740 815 190 0 ∷ []
unfolding net_outs groups after_groups
matched = refl

-- the same with A3 as the last byte of the ROM
pub matched_wrongly :
    net_outs (packet 0 OwReset 0 ∷ packet 1 OwPresence 0 ∷ bits 8 2 85
    ++ bits 64 10 11745387828211096578)
    ≡ span_note 0 0 15 0 0 ∷ span_packet NetReset 0 15 0 0 ∷ span_note 1 20 95 85 0
    ∷ span_packet NetCommand 20 95 85 0
    ∷ span_note 2 100 735 11745387828211096578 1 ∷ span_packet NetRom 100 735 11745387828211096578 1
    ∷ []
unfolding net_outs groups after_groups
matched_wrongly = refl

-- what is read where two parts send a bit: 0 if one of them does. A part that the direction isn't
-- that of doesn't send any more
abbrev read_of : ℕ → ℕ → Bool → ℕ
read_of own other true = own * other
read_of own other false = own

-- so many steps of a search that finds one of two ROMs
abbrev steps : ℕ → ℕ → ℕ → ℕ → Bool → List Packet
steps zero j own other both = []
steps (suc n) j own other both =
    packet j OwBit (read_of (own % 2) (other % 2) both)
    ∷ packet (j + 1) OwBit (read_of (1 - own % 2) (1 - other % 2) both)
    ∷ packet (j + 2) OwBit (own % 2)
    ∷ steps n (j + 3) (own / 2) (other / 2) (both && own % 2 == other % 2)

-- a search with two parts on the line: it finds 28 11 22 33 44 55 66 56, and then 10 A1 B2 C3 D4 E5
-- F6 49
pub found_one :
    net_outs (packet 0 OwReset 0 ∷ packet 1 OwPresence 0 ∷ bits 8 2 240
    ++ steps 64 10 6225757286290297128 5329699911018651920 true)
    ≡ span_note 0 0 15 0 0 ∷ span_packet NetReset 0 15 0 0 ∷ span_note 1 20 95 240 0
    ∷ span_packet NetCommand 20 95 240 0
    ∷ span_note 2 100 2015 6225757286290297128 0 ∷ span_packet NetRom 100 2015 6225757286290297128 0
    ∷ []
unfolding net_outs groups after_groups
found_one = refl

-- the other one
pub found_other :
    net_outs (packet 0 OwReset 0 ∷ packet 1 OwPresence 0 ∷ bits 8 2 240
    ++ steps 64 10 5329699911018651920 6225757286290297128 true)
    ≡ span_note 0 0 15 0 0 ∷ span_packet NetReset 0 15 0 0 ∷ span_note 1 20 95 240 0
    ∷ span_packet NetCommand 20 95 240 0
    ∷ span_note 2 100 2015 5329699911018651920 0 ∷ span_packet NetRom 100 2015 5329699911018651920 0
    ∷ []
unfolding net_outs groups after_groups
found_other = refl

-- bits without a reset that was answered give nothing
pub unanswered : net_outs
    (packet 0 OwBit 1 ∷ packet 1 OwPresence 0 ∷ bits 8 2 204 ++ packet 10 OwReset 0 ∷ bits 8 11 204
    ++ packet 19 OwPresence 0 ∷ bits 8 20 204) ≡ []
unfolding net_outs groups after_groups
unanswered = refl

-- Skip ROM has no ROM, and what has begun behind it is a byte
pub begun_byte : net_near
    (packet 0 OwReset 0 ∷ packet 1 OwPresence 0 ∷ bits 8 2 204 ++ bits 3 10 7) 120
    ≡ 100
unfolding net_near groups after_groups
begun_byte = refl
