-- Lists of feeds, of marks and of outputs.
use Rattle.std.proofs.Common.{◌≡◌, ℕ, Bool, true, false, List, [], ◌∷◌, ◌++◌, map, Option, Some, None, refl, sym, ◌∙◌, ap, append_assoc}
use Rattle.la_base.specs.declared.samples.Run.{Run}
use Rattle.la_base.specs.declared.wires.Feed.{Feed}
use Rattle.la_base.specs.declared.wires.Feed.TheVariants.{Run as RunFeed, Packet as PacketFeed}
use Rattle.la_base.specs.declared.wires.Mark.{Mark}
use Rattle.la_base.specs.declared.wires.Mark.TheVariants.{Note as NoteMark, Piece as PieceMark, Floor as FloorMark, End as EndMark}
use Rattle.la_base.specs.declared.wires.Note.{Note}
use Rattle.la_base.specs.declared.wires.Out.{Out}
use Rattle.la_base.specs.declared.wires.Out.TheVariants.{Note as NoteOut, Piece as PieceOut, Packet as PacketOut}
use Rattle.annot_merge.specs.Marks.{notes_in}
use Rattle.decoder_core.specs.Inputs.{Item, items_of}
use Rattle.decoder_core.specs.Marks.{shown}
use Rattle.tree_io.specs.Feeds.{marks_of}
use Rattle.tree_runs.specs.Listings.{notes_of}
use Rattle.stack_laws.specs.Links.{EndsLast, some}
use Rattle.stack_laws.specs.Feeds.{ends_feed, ends_marks, feed_end, items_in, feeds_of, floor_mark}

pub items-append : (xs ys : List Feed) → items_in (xs ++ ys) ≡ items_in xs ++ items_in ys
items-append [] ys = refl
items-append (x ∷ xs) ys = ap (λ (l : List Item). items_of x ++ l) (items-append xs ys) ∙ sym (append_assoc (items_of x) (items_in xs) (items_in ys))

pub feeds-append : (xs ys : List Out) → feeds_of (xs ++ ys) ≡ feeds_of xs ++ feeds_of ys
feeds-append [] ys = refl
feeds-append (NoteOut note ∷ xs) ys = feeds-append xs ys
feeds-append (PieceOut piece ∷ xs) ys = feeds-append xs ys
feeds-append (PacketOut packet ∷ xs) ys = ap (λ (l : List Feed). PacketFeed packet ∷ l) (feeds-append xs ys)

pub no_end_of_runs : (runs : List Run) → some ends_feed (map RunFeed runs) ≡ false
no_end_of_runs [] = refl
no_end_of_runs (run ∷ runs) = no_end_of_runs runs

pub no_end_of_packets : (outs : List Out) → some ends_feed (feeds_of outs) ≡ false
no_end_of_packets [] = refl
no_end_of_packets (NoteOut note ∷ outs) = no_end_of_packets outs
no_end_of_packets (PieceOut piece ∷ outs) = no_end_of_packets outs
no_end_of_packets (PacketOut packet ∷ outs) = no_end_of_packets outs

pub feed_end_is : (b : Bool) → (some ends_feed (feed_end b) ≡ b) × EndsLast ends_feed (feed_end b)
feed_end_is true = (refl, ((λ _. refl), tt))
feed_end_is false = (refl, tt)

pub no_end_of_marks : (outs : List Out) (floor : Option ℕ) → some ends_marks (marks_of outs ++ floor_mark floor) ≡ false
no_end_of_marks [] None = refl
no_end_of_marks [] (Some start) = refl
no_end_of_marks (NoteOut note ∷ outs) floor = no_end_of_marks outs floor
no_end_of_marks (PieceOut piece ∷ outs) floor = no_end_of_marks outs floor
no_end_of_marks (PacketOut packet ∷ outs) floor = no_end_of_marks outs floor

pub notes-append : (xs ys : List Mark) → notes_in (xs ++ ys) ≡ notes_in xs ++ notes_in ys
notes-append [] ys = refl
notes-append (NoteMark note ∷ xs) ys = ap (λ (l : List Note). note ∷ l) (notes-append xs ys)
notes-append (PieceMark piece ∷ xs) ys = notes-append xs ys
notes-append (FloorMark start ∷ xs) ys = notes-append xs ys
notes-append (EndMark ∷ xs) ys = notes-append xs ys

pub notes_shown : (marks : List Mark) → notes_in (shown marks) ≡ notes_in marks
notes_shown [] = refl
notes_shown (NoteMark note ∷ marks) = ap (λ (l : List Note). note ∷ l) (notes_shown marks)
notes_shown (PieceMark piece ∷ marks) = notes_shown marks
notes_shown (FloorMark start ∷ marks) = notes_shown marks
notes_shown (EndMark ∷ marks) = notes_shown marks

pub notes_of_marks : (outs : List Out) → notes_in (marks_of outs) ≡ notes_of outs
notes_of_marks [] = refl
notes_of_marks (NoteOut note ∷ outs) = ap (λ (l : List Note). note ∷ l) (notes_of_marks outs)
notes_of_marks (PieceOut piece ∷ outs) = notes_of_marks outs
notes_of_marks (PacketOut packet ∷ outs) = notes_of_marks outs

pub notes_of-append : (xs ys : List Out) → notes_of (xs ++ ys) ≡ notes_of xs ++ notes_of ys
notes_of-append [] ys = refl
notes_of-append (NoteOut note ∷ xs) ys = ap (λ (l : List Note). note ∷ l) (notes_of-append xs ys)
notes_of-append (PieceOut piece ∷ xs) ys = notes_of-append xs ys
notes_of-append (PacketOut packet ∷ xs) ys = notes_of-append xs ys
