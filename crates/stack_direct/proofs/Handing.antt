-- The outputs of a machine in two parts: its notes and pieces, and its packets.
use Rattle.std.proofs.Common.{◌≡◌, ◌∙◌, ◌<◌, ◌+◌, ℕ, Bool, false, List, [], ◌∷◌, ◌++◌, take, drop, length, get_or, refl, sym, ap, subst, take-append-drop}
use Rattle.std.proofs.lemmas.List.{append-nil, take_more}
use Rattle.la_base.specs.declared.wires.Mark.{Mark}
use Rattle.la_base.specs.declared.wires.Mark.TheVariants.{Note as NoteMark, Piece as PieceMark}
use Rattle.la_base.specs.declared.wires.Out.{Out}
use Rattle.la_base.specs.declared.wires.Out.TheVariants.{Note as NoteOut, Piece as PieceOut, Packet as PacketOut}
use Rattle.tree_io.specs.Feeds.{marks_of}
use Rattle.tree_io.proofs.Taking.{marks-append}
use Rattle.decoder_core.specs.Inputs.{Item, Pack}
use Rattle.decoder_core.specs.Trees.{packets_of}
use Rattle.tree_runs.specs.Passing.{TookFront}
use Rattle.tree_runs.specs.Reaching.{Reaches}
use Rattle.tree_runs.proofs.Lists.{packets-append}
use Rattle.stack_direct.specs.Trees.{handed_of}

-- the notes and the pieces
abbrev pub told_of : List Out → List Out
told_of [] = []
told_of (NoteOut note ∷ outs) = NoteOut note ∷ told_of outs
told_of (PieceOut piece ∷ outs) = PieceOut piece ∷ told_of outs
told_of (PacketOut packet ∷ outs) = told_of outs

marks_told : (outs : List Out) → marks_of (told_of outs) ≡ marks_of outs
marks_told [] = refl
marks_told (NoteOut note ∷ outs) = ap (λ (l : List Mark). NoteMark note ∷ l) (marks_told outs)
marks_told (PieceOut piece ∷ outs) = ap (λ (l : List Mark). PieceMark piece ∷ l) (marks_told outs)
marks_told (PacketOut packet ∷ outs) = marks_told outs

pub packets_told : (outs : List Out) → packets_of (told_of outs) ≡ []
packets_told [] = refl
packets_told (NoteOut note ∷ outs) = packets_told outs
packets_told (PieceOut piece ∷ outs) = packets_told outs
packets_told (PacketOut packet ∷ outs) = packets_told outs

marks_handed : (outs : List Out) → marks_of (handed_of outs) ≡ []
marks_handed [] = refl
marks_handed (NoteOut note ∷ outs) = marks_handed outs
marks_handed (PieceOut piece ∷ outs) = marks_handed outs
marks_handed (PacketOut packet ∷ outs) = marks_handed outs

packets_handed : (outs : List Out) → packets_of (handed_of outs) ≡ packets_of outs
packets_handed [] = refl
packets_handed (NoteOut note ∷ outs) = packets_handed outs
packets_handed (PieceOut piece ∷ outs) = packets_handed outs
packets_handed (PacketOut packet ∷ outs) = ap (λ (l : List Item). Pack packet ∷ l) (packets_handed outs)

-- both together
pub marks_both : (outs : List Out) → marks_of (told_of outs ++ handed_of outs) ≡ marks_of outs
marks_both outs = marks-append (told_of outs) (handed_of outs) ∙ ap (λ (l : List Mark). marks_of (told_of outs) ++ l) (marks_handed outs) ∙ append-nil (marks_of (told_of outs)) ∙ marks_told outs

pub packets_both : (outs : List Out) → packets_of (told_of outs ++ handed_of outs) ≡ packets_of outs
packets_both outs = packets-append (told_of outs) (handed_of outs) ∙ ap (λ (l : List Item). l ++ packets_of (handed_of outs)) (packets_told outs) ∙ packets_handed outs

pub told_front : {done : Bool} {old new : (ℕ → List Mark) → Type 0} {i : ℕ} (outs : List Out) → TookFront done old new i (marks_of outs) → TookFront done old new i (marks_of (told_of outs))
told_front {done} {old} {new} {i} outs front = subst (λ (l : List Mark). TookFront done old new i l) (sym (marks_told outs)) front

-- one more packet
handed-append : (xs ys : List Out) → handed_of (xs ++ ys) ≡ handed_of xs ++ handed_of ys
handed-append [] ys = refl
handed-append (NoteOut note ∷ xs) ys = handed-append xs ys
handed-append (PieceOut piece ∷ xs) ys = handed-append xs ys
handed-append (PacketOut packet ∷ xs) ys = ap (λ (l : List Out). PacketOut packet ∷ l) (handed-append xs ys)

pub handed_next : (outs : List Out) (i : ℕ) (out : Out) → i < length outs → out ≡ get_or outs i out → handed_of (take i outs) ++ handed_of (out ∷ []) ≡ handed_of (take (i + 1) outs)
handed_next outs i out within is = sym (ap handed_of (take_more outs i out within ∙ ap (λ (o : Out). take i outs ++ o ∷ []) (sym is)) ∙ handed-append (take i outs) (out ∷ []))

pub handed_front : (outs : List Out) (i : ℕ) (out : Out) → i < length outs → out ≡ get_or outs i out → Reaches false (handed_of (take i outs) ++ handed_of (out ∷ [])) (handed_of outs)
handed_front outs i out within is = (
  handed_of (drop (i + 1) outs),
  ap (λ (l : List Out). l ++ handed_of (drop (i + 1) outs)) (handed_next outs i out within is) ∙ sym (handed-append (take (i + 1) outs) (drop (i + 1) outs)) ∙ ap handed_of (take-append-drop (i + 1) outs),
)
