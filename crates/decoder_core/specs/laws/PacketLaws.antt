-- What outputs of the packets that count promise, where outputs of packets promise it.
use Rattle.std.proofs.Common.{◌≡◌, ℕ, ◌+◌, ◌≤◌, Bool, true, false, List, [], ◌∷◌, ◌++◌, length, map}
use Rattle.std.proofs.Common.{refl, sym, ◌∙◌, ap, subst, if◌then◌else◌, arith, max}
use Rattle.std.specs.Prelude.{nat_le, ◌&&◌}
use Rattle.std.proofs.lemmas.Bool.Decides.{nat_tests}
use Rattle.std.proofs.lemmas.List.{append-nil}
use Rattle.std.proofs.Math.Nat.{le-add_right}
use Rattle.la_base.specs.Kinds.{same_wire, wire_of}
use Rattle.la_base.specs.declared.wires.Packet.{Packet}
use Rattle.la_base.specs.declared.wires.Out.{Out}
use Rattle.la_base.specs.declared.wires.Out.TheVariants.{Note as NoteOut, Piece as PieceOut}
use Rattle.la_base.specs.declared.wires.Out.TheVariants.{Packet as PacketOut}
use Rattle.la_base.specs.declared.wires.PacketKind.{PacketKind}
use Rattle.la_base.specs.declared.wires.PacketKind.TheVariants.{I2cStart, I2cStop, I2cAddress}
use Rattle.la_base.specs.declared.wires.PacketKind.TheVariants.{I2cData, I2cAck, SpiSelect, SpiWord}
use Rattle.la_base.specs.declared.wires.PacketKind.TheVariants.{SpiDeselect, UartFrame, UartBreak}
use Rattle.la_base.specs.declared.wires.PacketKind.TheVariants.{OwReset, OwPresence, OwBit}
use Rattle.la_base.specs.declared.wires.PacketKind.TheVariants.{NetReset, NetCommand, NetRom}
use Rattle.la_base.specs.declared.wires.PacketKind.TheVariants.{NetByte}
use Rattle.std.proofs.lemmas.List.Sorted.{IsNonDecreasingBy-short}
use Rattle.std.specs.List.Sorted.{IsNonDecreasing}
use Rattle.la_base.specs.declared.wires.Wire.{Wire}
use Rattle.la_base.specs.declared.wires.Wire.TheVariants.{Logic, I2c, Spi, Uart, OwLink, OwNet}
use Rattle.la_base.specs.declared.wires.Wire.TheVariants.{Nothing}
use Rattle.decoder_core.specs.Inputs.{Item, Sample, Pack}
use Rattle.decoder_core.specs.Promises.{GivesNothing, KeepsFront, PacketsInOrder, AddsFew, GivesOn}
use Rattle.decoder_core.specs.Promises.{GivesFrom, PacketsFrom, PacketsOn, packet_starts}
use Rattle.decoder_core.specs.Packets.{counts, counting, counted_packets, last_start, CountFrom}
use Rattle.decoder_core.specs.Packets.{AllCount, PacketsStayInOrder, IsPacketFloor}
use Rattle.decoder_core.specs.Packets.{IsFloorOver, ItemsFrom}

pub same_wire_true : (one other : Wire) → same_wire one other ≡ true → one ≡ other
same_wire_true Logic Logic e = refl
same_wire_true I2c I2c e = refl
same_wire_true Spi Spi e = refl
same_wire_true Uart Uart e = refl
same_wire_true OwLink OwLink e = refl
same_wire_true OwNet OwNet e = refl
same_wire_true Nothing Nothing e = refl
same_wire_true one other e = cc

both_true : (a b : Bool) → (a && b) ≡ true → (a ≡ true) × (b ≡ true)
both_true true b e = (refl, e)
both_true false b e = absurd cc

pub counts_means : (wire : Wire) (last : ℕ) (packet : Packet) → counts wire last packet ≡ true
    → (wire_of packet.kind ≡ wire) × (last ≤ packet.start)
counts_means wire last packet e =
    let parts = both_true (same_wire (wire_of packet.kind) wire) (nat_le last packet.start) e in
    let test = parts.1 in (
      same_wire_true (wire_of packet.kind) wire parts.0,
      (let less : last ≤ packet.start = grind (arith, nat_tests) in less),
    )

-- whatever comes starts at the first sample or later
pub from_nought : (items : List Item) → ItemsFrom 0 items
from_nought [] = tt
from_nought (Sample v ∷ items) = from_nought items
from_nought (Pack p ∷ items) = (omega arith, from_nought items)

-- one input behind another
pub counting-append : (wire : Wire) (last : ℕ) (xs ys : List Item)
    → counting wire last (xs ++ ys)
    ≡ counting wire last xs ++ counting wire (last_start last (counting wire last xs)) ys
counting-append wire last [] ys = refl
counting-append wire last (Sample v ∷ xs) ys = counting-append wire last xs ys
counting-append wire last (Pack p ∷ xs) ys =
    by (counts wire last p) (counting-append wire p.start xs ys) (counting-append wire last xs ys)
  where
    by : (b : Bool) → counting wire p.start (xs ++ ys)
        ≡ counting wire p.start xs
        ++ counting wire (last_start p.start (counting wire p.start xs)) ys
        → counting wire last (xs ++ ys)
        ≡ counting wire last xs ++ counting wire (last_start last (counting wire last xs)) ys
        → (if b then p ∷ counting wire p.start (xs ++ ys) else counting wire last (xs ++ ys))
        ≡ (if b then p ∷ counting wire p.start xs else counting wire last xs)
        ++ counting wire (last_start last
        (if b then p ∷ counting wire p.start xs else counting wire last xs)) ys
    by true longer passed = ap (λ (l : List Packet). p ∷ l) longer
    by false longer passed = passed

-- what counts counts
pub all_count : (wire : Wire) (last : ℕ) (items : List Item)
    → CountFrom wire last (counting wire last items)
all_count wire last [] = tt
all_count wire last (Sample v ∷ items) = all_count wire last items
all_count wire last (Pack p ∷ items) =
    by (counts wire last p) refl (all_count wire p.start items) (all_count wire last items)
  where
    by : (b : Bool) → counts wire last p ≡ b → CountFrom wire p.start (counting wire p.start items)
        → CountFrom wire last (counting wire last items)
        → CountFrom wire last
        (if b then p ∷ counting wire p.start items else counting wire last items)
    by true e longer passed = let m = counts_means wire last p e in (m.0, m.1, longer)
    by false e longer passed = passed

module _ (wire : Wire) where
  pub packets_count : (input : List Item) → AllCount wire (counted_packets wire input)
  unfolding counted_packets
  packets_count input = all_count wire 0 input

  pub counted_on : (input more : List Item)
      → counted_packets wire (input ++ more) ≡ counted_packets wire input
      ++ counting wire (last_start 0 (counted_packets wire input)) more
  unfolding counted_packets
  counted_on input more = counting-append wire 0 input more

  pub none_counted : counted_packets wire [] ≡ []
  unfolding counted_packets
  none_counted = refl

  pub packet_counted : (input : List Item) (p : Packet)
      → counts wire (last_start 0 (counted_packets wire input)) p ≡ true
      → counted_packets wire (input ++ Pack p ∷ []) ≡ counted_packets wire input ++ p ∷ []
  packet_counted input p e =
      counted_on input (Pack p ∷ [])
      ∙ ap (λ (b : Bool). counted_packets wire input ++ (if b then p ∷ [] else [])) e

  pub packet_passed : (input : List Item) (p : Packet)
      → counts wire (last_start 0 (counted_packets wire input)) p ≡ false
      → counted_packets wire (input ++ Pack p ∷ []) ≡ counted_packets wire input
  packet_passed input p e =
      counted_on input (Pack p ∷ [])
      ∙ ap (λ (b : Bool). counted_packets wire input ++ (if b then p ∷ [] else [])) e
      ∙ append-nil (counted_packets wire input)

  only_samples : (last : ℕ) (l : List ℕ) → counting wire last (map Sample l) ≡ []
  only_samples last [] = refl
  only_samples last (v ∷ l) = only_samples last l

  pub samples_passed : (input : List Item) (l : List ℕ)
      → counted_packets wire (input ++ map Sample l) ≡ counted_packets wire input
  samples_passed input l =
      counted_on input (map Sample l)
      ∙ ap (λ (ps : List Packet). counted_packets wire input ++ ps)
      (only_samples (last_start 0 (counted_packets wire input)) l)
      ∙ append-nil (counted_packets wire input)

  module _ (outs : List Packet → List Out) where
    pub nothing_followed : GivesNothing outs
        → GivesNothing (λ input. outs (counted_packets wire input))
    nothing_followed none = ap outs none_counted ∙ none

    pub front_followed : KeepsFront outs → KeepsFront (λ input. outs (counted_packets wire input))
    front_followed keeps input more =
        let had = counted_packets wire input in
        let k = keeps had (counting wire (last_start 0 had) more) in
        (k.0, ap outs (counted_on input more) ∙ k.1)

    pub order_followed : PacketsStayInOrder wire outs
        → PacketsInOrder (λ input. outs (counted_packets wire input))
    order_followed order input = order (counted_packets wire input) (packets_count input)

    pub wire_followed : (gives : Wire) → GivesOn gives outs
        → GivesOn gives (λ input. outs (counted_packets wire input))
    wire_followed gives on input = on (counted_packets wire input)

    few_by : (had : List Packet) (p : Packet) (now : List Packet) (b : Bool) → AddsFew outs
        → now ≡ had ++ (if b then p ∷ [] else []) → length (outs now) ≤ length (outs had) + 16
    few_by had p now true few is =
        subst (λ (l : List Packet). length (outs l) ≤ length (outs had) + 16) (sym is) (few had p)
    few_by had p now false few is =
        subst (λ (l : List Packet). length (outs l) ≤ length (outs had) + 16)
        (sym (is ∙ append-nil had)) (le-add_right (length (outs had)) 16)

    pub few_followed : AddsFew outs → AddsFew (λ input. outs (counted_packets wire input))
    few_followed few input (Sample v) =
        let had = counted_packets wire input in
        subst (λ (l : List Packet). length (outs l) ≤ length (outs had) + 16)
        (sym (samples_passed input (v ∷ []))) (le-add_right (length (outs had)) 16)
    few_followed few input (Pack p) =
        few_by (counted_packets wire input) p (counted_packets wire (input ++ Pack p ∷ []))
        (counts wire (last_start 0 (counted_packets wire input)) p) few
        (counted_on input (Pack p ∷ []))

    -- what counts of items whose packets start there or later counts from there on
    count_above : (last above : ℕ) (items : List Item) → ItemsFrom above items
        → CountFrom wire (max last above) (counting wire last items)
    count_above last above [] from = tt
    count_above last above (Sample v ∷ items) from = count_above last above items from
    count_above last above (Pack p ∷ items) from =
        by (counts wire last p) refl (all_count wire p.start items)
        (count_above last above items from.1)
      where
        by : (b : Bool) → counts wire last p ≡ b
            → CountFrom wire p.start (counting wire p.start items)
            → CountFrom wire (max last above) (counting wire last items)
            → CountFrom wire (max last above)
            (if b then p ∷ counting wire p.start items else counting wire last items)
        by true e longer passed =
            let m = counts_means wire last p e in (m.0, omega (arith, m.1, from.0), longer)
        by false e longer passed = passed

    pub floor_followed : (input : List Item) (above floor : ℕ)
        → IsPacketFloor wire outs (counted_packets wire input)
        (max (last_start 0 (counted_packets wire input)) above) floor
        → IsFloorOver above (λ i. outs (counted_packets wire i)) input floor
    floor_followed input above floor holds more new from is =
        let had = counted_packets wire input in
        let added = counting wire (last_start 0 had) more in
        holds added new (packets_count input) (count_above (last_start 0 had) above more from)
        (ap outs (sym (counted_on input more)) ∙ is)

-- no kind of packet is of the wire Nothing
none_of : (kind : PacketKind) → wire_of kind ≡ Nothing → ⊥
none_of I2cStart e = absurd cc
none_of I2cStop e = absurd cc
none_of I2cAddress e = absurd cc
none_of I2cData e = absurd cc
none_of I2cAck e = absurd cc
none_of SpiSelect e = absurd cc
none_of SpiWord e = absurd cc
none_of SpiDeselect e = absurd cc
none_of UartFrame e = absurd cc
none_of UartBreak e = absurd cc
none_of OwReset e = absurd cc
none_of OwPresence e = absurd cc
none_of OwBit e = absurd cc
none_of NetReset e = absurd cc
none_of NetCommand e = absurd cc
none_of NetRom e = absurd cc
none_of NetByte e = absurd cc

no_starts : (outs : List Out) → PacketsOn Nothing outs → packet_starts outs ≡ []
no_starts [] on = refl
no_starts (NoteOut note ∷ outs) on = no_starts outs on
no_starts (PieceOut piece ∷ outs) on = no_starts outs on
no_starts (PacketOut packet ∷ outs) on = absurd (none_of packet.kind on.0)

-- what puts no packet out puts none out from any place on
no_packets_from : (floor : ℕ) (outs : List Out) → PacketsOn Nothing outs → PacketsFrom floor outs
no_packets_from floor [] on = tt
no_packets_from floor (NoteOut note ∷ outs) on = no_packets_from floor outs on
no_packets_from floor (PieceOut piece ∷ outs) on = no_packets_from floor outs on
no_packets_from floor (PacketOut packet ∷ outs) on = absurd (none_of packet.kind on.0)

rest_on : (xs ys : List Out) → PacketsOn Nothing (xs ++ ys) → PacketsOn Nothing ys
rest_on [] ys on = on
rest_on (NoteOut note ∷ xs) ys on = rest_on xs ys on
rest_on (PieceOut piece ∷ xs) ys on = rest_on xs ys on
rest_on (PacketOut packet ∷ xs) ys on = rest_on xs ys on.1

pub from_free : {X : Type 0} (outs : List X → List Out) → GivesOn Nothing outs
    → (input : List X) (floor : ℕ) → GivesFrom outs input floor
from_free outs on input floor more new is =
    no_packets_from floor new
    (rest_on (outs input) new (subst (PacketsOn Nothing) is (on (input ++ more))))

-- what puts no packet out puts packets out in order
pub order_free : (wire : Wire) (outs : List Packet → List Out) → GivesOn Nothing outs
    → PacketsStayInOrder wire outs
order_free wire outs on packets all =
    subst IsNonDecreasing (sym (no_starts (outs packets) (on packets)))
    (IsNonDecreasingBy-short (λ x. x) [] (omega arith))

-- what is behind packets that count counts behind the last of them
pub count_rest : (wire : Wire) (last : ℕ) (seen more : List Packet)
    → CountFrom wire last (seen ++ more) → CountFrom wire (last_start last seen) more
count_rest wire last [] more all = all
count_rest wire last (x ∷ seen) more all = count_rest wire x.start seen more all.2
