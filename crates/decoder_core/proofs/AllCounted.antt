-- Packets of one wire in order all count.
use Rattle.std.proofs.Common.{◌≡◌, ◌≤◌, ◌<◌, ℕ, Bool, true, List, [], ◌∷◌, length, map, get_or, refl, ◌∙◌, ap, arith, if◌then◌else◌}
use Rattle.std.specs.Prelude.{nat_le, ◌&&◌}
use Rattle.std.specs.List.Sorted.{IsNonDecreasing}
use Rattle.std.proofs.lemmas.Bool.Decides.{nat_tests}
use Rattle.std.proofs.lemmas.List.Sorted.{IsNonDecreasingBy-drop}
use Rattle.la_base.specs.Kinds.{same_wire, wire_of}
use Rattle.la_base.specs.declared.wires.Out.{Out}
use Rattle.la_base.specs.declared.wires.Out.TheVariants.{Note as NoteOut, Piece as PieceOut, Packet as PacketOut}
use Rattle.la_base.specs.declared.wires.Packet.{Packet}
use Rattle.la_base.specs.declared.wires.Wire.{Wire}
use Rattle.la_base.specs.declared.wires.Wire.TheVariants.{Logic, I2c, Spi, Uart, OwLink, OwNet, Nothing}
use Rattle.decoder_core.specs.Inputs.{Item, Pack}
use Rattle.decoder_core.specs.Promises.{PacketsOn, packet_starts}
use Rattle.decoder_core.specs.Packets.{counting, counts, counted_packets}
use Rattle.decoder_core.specs.Trees.{packets_of}

same_itself : (wire : Wire) → same_wire wire wire ≡ true
same_itself Logic = refl
same_itself I2c = refl
same_itself Spi = refl
same_itself Uart = refl
same_itself OwLink = refl
same_itself OwNet = refl
same_itself Nothing = refl

it_counts : (wire : Wire) (last : ℕ) (packet : Packet) → wire_of packet.kind ≡ wire → last ≤ packet.start → counts wire last packet ≡ true
it_counts wire last packet on later =
    let same : same_wire (wire_of packet.kind) wire ≡ true = ap (λ (w : Wire). same_wire w wire) on ∙ same_itself wire in
    let less : nat_le last packet.start ≡ true = grind (arith, nat_tests) in
    λ i. same i && less i

all_on : (wire : Wire) (last : ℕ) (outs : List Out) → PacketsOn wire outs → IsNonDecreasing (packet_starts outs) → ((d : ℕ) → 0 < length (packet_starts outs) → last ≤ get_or (packet_starts outs) 0 d)
    → map Pack (counting wire last (packets_of outs)) ≡ packets_of outs
all_on wire last [] on order low = refl
all_on wire last (NoteOut note ∷ outs) on order low = all_on wire last outs on order low
all_on wire last (PieceOut piece ∷ outs) on order low = all_on wire last outs on order low
all_on wire last (PacketOut packet ∷ outs) on order low =
    let first : last ≤ packet.start = low 0 (omega arith) in
    let test = it_counts wire last packet on.0 first in
    let rest : IsNonDecreasing (packet_starts outs) = IsNonDecreasingBy-drop (λ n. n) 1 (packet.start ∷ packet_starts outs) order in
    let next : (d : ℕ) → 0 < length (packet_starts outs) → packet.start ≤ get_or (packet_starts outs) 0 d = λ d some. order 0 1 d (omega arith) (omega (arith, some)) in
    ap (λ (b : Bool). map Pack (if b then packet ∷ counting wire packet.start (packets_of outs) else counting wire last (packets_of outs))) test
    ∙ ap (λ (l : List Item). Pack packet ∷ l) (all_on wire packet.start outs on.1 rest next)

pub all_counted : (wire : Wire) (outs : List Out) → PacketsOn wire outs → IsNonDecreasing (packet_starts outs) → map Pack (counted_packets wire (packets_of outs)) ≡ packets_of outs
unfolding counted_packets
all_counted wire outs on order = all_on wire 0 outs on order (λ d some. omega arith)
