-- Outputs behind outputs.
use Rattle.std.proofs.Common.{◌≡◌, ℕ, List, [], ◌∷◌, ◌++◌, refl, ap}
use Rattle.la_base.specs.declared.wires.Out.{Out}
use Rattle.la_base.specs.declared.wires.Out.TheVariants.{Note as NoteOut, Piece as PieceOut}
use Rattle.la_base.specs.declared.wires.Out.TheVariants.{Packet as PacketOut}
use Rattle.decoder_core.specs.Promises.{NotesFrom, PacketsFrom, PacketsOn, packet_starts}
use Rattle.la_base.specs.declared.wires.Wire.{Wire}

pub NotesFrom-append : (floor : ℕ) (xs ys : List Out) → NotesFrom floor xs → NotesFrom floor ys
    → NotesFrom floor (xs ++ ys)
NotesFrom-append floor [] ys first rest = rest
NotesFrom-append floor (NoteOut note ∷ xs) ys first rest =
    (first.0, NotesFrom-append floor xs ys first.1 rest)
NotesFrom-append floor (PieceOut piece ∷ xs) ys first rest = NotesFrom-append floor xs ys first rest
NotesFrom-append floor (PacketOut packet ∷ xs) ys first rest =
    NotesFrom-append floor xs ys first rest

pub PacketsFrom-append : (floor : ℕ) (xs ys : List Out) → PacketsFrom floor xs
    → PacketsFrom floor ys → PacketsFrom floor (xs ++ ys)
PacketsFrom-append floor [] ys first rest = rest
PacketsFrom-append floor (NoteOut note ∷ xs) ys first rest =
    PacketsFrom-append floor xs ys first rest
PacketsFrom-append floor (PieceOut piece ∷ xs) ys first rest =
    PacketsFrom-append floor xs ys first rest
PacketsFrom-append floor (PacketOut packet ∷ xs) ys first rest =
    (first.0, PacketsFrom-append floor xs ys first.1 rest)

pub packet_starts-append : (xs ys : List Out)
    → packet_starts (xs ++ ys) ≡ packet_starts xs ++ packet_starts ys
packet_starts-append [] ys = refl
packet_starts-append (NoteOut note ∷ xs) ys = packet_starts-append xs ys
packet_starts-append (PieceOut piece ∷ xs) ys = packet_starts-append xs ys
packet_starts-append (PacketOut packet ∷ xs) ys =
    ap (λ (l : List ℕ). packet.start ∷ l) (packet_starts-append xs ys)

pub PacketsOn-append : (wire : Wire) (xs ys : List Out) → PacketsOn wire xs → PacketsOn wire ys
    → PacketsOn wire (xs ++ ys)
PacketsOn-append wire [] ys first rest = rest
PacketsOn-append wire (NoteOut note ∷ xs) ys first rest = PacketsOn-append wire xs ys first rest
PacketsOn-append wire (PieceOut piece ∷ xs) ys first rest = PacketsOn-append wire xs ys first rest
PacketsOn-append wire (PacketOut packet ∷ xs) ys first rest =
    (first.0, PacketsOn-append wire xs ys first.1 rest)
