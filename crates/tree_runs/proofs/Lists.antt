-- Lists of outputs and marks, one behind another.
use Rattle.std.proofs.Common.{◌≡◌, ℕ, Bool, true, false, List, [], ◌∷◌, ◌++◌, refl, sym, ◌∙◌, ap, subst, append_assoc}
use Rattle.std.proofs.lemmas.List.{append-nil}
use Rattle.la_base.specs.declared.wires.Mark.{Mark}
use Rattle.la_base.specs.declared.wires.Mark.TheVariants.{Note as NoteMark, Piece as PieceMark, Floor as FloorMark, End as EndMark}
use Rattle.la_base.specs.declared.wires.Out.{Out}
use Rattle.la_base.specs.declared.wires.Out.TheVariants.{Note as NoteOut, Piece as PieceOut, Packet as PacketOut}
use Rattle.decoder_core.specs.Inputs.{Item, Pack}
use Rattle.decoder_core.specs.Promises.{NotesFrom}
use Rattle.decoder_core.specs.Trees.{packets_of}
use Rattle.decoder_core.specs.Marks.{shown, MarksFrom, FloorsHold}
use Rattle.tree_io.specs.Feeds.{marks_of}
use Rattle.tree_io.proofs.Taking.{marks-append}
use Rattle.tree_runs.specs.Passing.{NoEnd}
use Rattle.tree_runs.specs.Reaching.{Reaches}

pub packets-append : (xs ys : List Out) → packets_of (xs ++ ys) ≡ packets_of xs ++ packets_of ys
packets-append [] ys = refl
packets-append (NoteOut note ∷ xs) ys = packets-append xs ys
packets-append (PieceOut piece ∷ xs) ys = packets-append xs ys
packets-append (PacketOut packet ∷ xs) ys = ap (λ (l : List Item). Pack packet ∷ l) (packets-append xs ys)

pub shown-append : (xs ys : List Mark) → shown (xs ++ ys) ≡ shown xs ++ shown ys
shown-append [] ys = refl
shown-append (NoteMark note ∷ xs) ys = ap (λ (l : List Mark). NoteMark note ∷ l) (shown-append xs ys)
shown-append (PieceMark piece ∷ xs) ys = ap (λ (l : List Mark). PieceMark piece ∷ l) (shown-append xs ys)
shown-append (FloorMark start ∷ xs) ys = shown-append xs ys
shown-append (EndMark ∷ xs) ys = shown-append xs ys

pub no_end-append : (xs ys : List Mark) → NoEnd xs → NoEnd ys → NoEnd (xs ++ ys)
no_end-append [] ys p q = q
no_end-append (NoteMark note ∷ xs) ys p q = no_end-append xs ys p q
no_end-append (PieceMark piece ∷ xs) ys p q = no_end-append xs ys p q
no_end-append (FloorMark start ∷ xs) ys p q = no_end-append xs ys p q
no_end-append (EndMark ∷ xs) ys p q = absurd p

-- the marks of outputs are notes and pieces alone
pub shown_front : (done : Bool) (marks : List Mark) (outs : List Out) → Reaches done marks (marks_of outs) → Reaches done (shown marks) (marks_of outs) × NoEnd marks × ((all : List Mark) → FloorsHold marks all)
shown_front true marks outs is = (ap shown is ∙ plain outs, subst NoEnd (sym is) (none outs), λ all. subst (λ (l : List Mark). FloorsHold l all) (sym is) (hold outs all))
  where
    plain : (outs : List Out) → shown (marks_of outs) ≡ marks_of outs
    plain [] = refl
    plain (NoteOut note ∷ outs) = ap (λ (l : List Mark). NoteMark note ∷ l) (plain outs)
    plain (PieceOut piece ∷ outs) = ap (λ (l : List Mark). PieceMark piece ∷ l) (plain outs)
    plain (PacketOut packet ∷ outs) = plain outs

    none : (outs : List Out) → NoEnd (marks_of outs)
    none [] = tt
    none (NoteOut note ∷ outs) = none outs
    none (PieceOut piece ∷ outs) = none outs
    none (PacketOut packet ∷ outs) = none outs

    hold : (outs : List Out) (all : List Mark) → FloorsHold (marks_of outs) all
    hold [] all = tt
    hold (NoteOut note ∷ outs) all = hold outs _
    hold (PieceOut piece ∷ outs) all = hold outs _
    hold (PacketOut packet ∷ outs) all = hold outs all
shown_front false marks outs front = by marks outs front.0 front.1
  where
    by : (marks : List Mark) (outs : List Out) (rest : List Mark) → marks ++ rest ≡ marks_of outs → Reaches false (shown marks) (marks_of outs) × NoEnd marks × ((all : List Mark) → FloorsHold marks all)
    by [] outs rest is = ((rest, is), tt, λ all. tt)
    by (m ∷ marks) [] rest is = absurd cc
    by (m ∷ marks) (PacketOut packet ∷ outs) rest is = by (m ∷ marks) outs rest is
    by (NoteMark n ∷ marks) (NoteOut note ∷ outs) rest is =
        let r = by marks outs rest cc in
        let same : NoteMark n ≡ NoteMark note = cc in
        ((r.0.0, λ i. same i ∷ r.0.1 i), r.1, λ all. r.2 _)
    by (PieceMark n ∷ marks) (PieceOut piece ∷ outs) rest is =
        let r = by marks outs rest cc in
        let same : PieceMark n ≡ PieceMark piece = cc in
        ((r.0.0, λ i. same i ∷ r.0.1 i), r.1, λ all. r.2 _)
    by (m ∷ marks) (NoteOut note ∷ outs) rest is = absurd cc
    by (m ∷ marks) (PieceOut piece ∷ outs) rest is = absurd cc

-- floors that hold of what follows hold of marks behind marks
pub floors-append : (ms ns rest : List Mark) → FloorsHold ms (shown ms ++ rest) → FloorsHold ns rest → FloorsHold (ms ++ ns) (shown ms ++ rest)
floors-append [] ns rest h k = k
floors-append (NoteMark note ∷ ms) ns rest h k = floors-append ms ns rest h k
floors-append (PieceMark piece ∷ ms) ns rest h k = floors-append ms ns rest h k
floors-append (FloorMark start ∷ ms) ns rest h k = (h.0, floors-append ms ns rest h.1 k)
floors-append (EndMark ∷ ms) ns rest h k = floors-append ms ns rest h k

pub marks_from : (floor : ℕ) (outs : List Out) → NotesFrom floor outs → MarksFrom floor (marks_of outs)
marks_from floor [] h = tt
marks_from floor (NoteOut note ∷ outs) h = (h.0, marks_from floor outs h.1)
marks_from floor (PieceOut piece ∷ outs) h = marks_from floor outs h
marks_from floor (PacketOut packet ∷ outs) h = marks_from floor outs h

module _ {X : Type 0} where
  pub reaches_all : (done : Bool) (xs : List X) → Reaches done xs xs
  reaches_all true xs = refl
  reaches_all false xs = ([], append-nil xs)

  pub reaches_weaker : (done : Bool) (xs ys : List X) → xs ≡ ys → Reaches done xs ys
  reaches_weaker true xs ys is = is
  reaches_weaker false xs ys is = ([], append-nil xs ∙ is)

  pub reaches-append : (done : Bool) (zs xs ys : List X) → Reaches done xs ys → Reaches done (zs ++ xs) (zs ++ ys)
  reaches-append true zs xs ys is = ap (λ (l : List X). zs ++ l) is
  reaches-append false zs xs ys front = (front.0, append_assoc zs xs front.0 ∙ ap (λ (l : List X). zs ++ l) front.1)

  pub reaches_trans : (done : Bool) (xs ys zs : List X) → Reaches done xs ys → Reaches done ys zs → Reaches done xs zs
  reaches_trans true xs ys zs one other = one ∙ other
  reaches_trans false xs ys zs one other = (one.0 ++ other.0, sym (append_assoc xs one.0 other.0) ∙ ap (λ (l : List X). l ++ other.0) one.1 ∙ other.1)

pub reaches_packets : (done : Bool) (xs ys : List Out) → Reaches done xs ys → Reaches done (packets_of xs) (packets_of ys)
reaches_packets true xs ys is = ap packets_of is
reaches_packets false xs ys front = (packets_of front.0, sym (packets-append xs front.0) ∙ ap packets_of front.1)

pub reaches_marks : (done : Bool) (xs ys : List Out) → Reaches done xs ys → Reaches done (marks_of xs) (marks_of ys)
reaches_marks true xs ys is = ap marks_of is
reaches_marks false xs ys front = (marks_of front.0, sym (marks-append xs front.0) ∙ ap marks_of front.1)
