-- What floors and bounds say of all that is still to come.
use Rattle.std.proofs.Common.{◌≡◌, ℕ, ◌≤◌, true, false, subst, List, [], ◌∷◌, ◌++◌, Some, None, refl, arith}
use Rattle.std.specs.List.{All}
use Rattle.std.specs.Ordering.{nat_cmp, ordering_then, is_lt}
use Rattle.std.proofs.lemmas.Bool.Decides.{nat_tests}
use Rattle.std.proofs.lemmas.List.Elements.{All-nil, All-cons}
use Rattle.la_base.specs.declared.wires.Mark.{Mark}
use Rattle.la_base.specs.declared.wires.Mark.TheVariants.{Note as NoteMark, Piece as PieceMark, Floor as FloorMark, End as EndMark}
use Rattle.la_base.specs.declared.wires.Note.{Note}
use Rattle.note_order.specs.Order.{is_before, entry_of}
use Rattle.note_order.specs.declared.entry.Entry.{Entry}
use Rattle.annot_merge.specs.Bounds.{Allows, bound_behind}
use Rattle.annot_merge.specs.Marks.{notes_in}
use Rattle.decoder_core.specs.Marks.{shown, MarksFrom, FloorsHold}
use Rattle.stack_laws.specs.Feeds.{ends_marks}
use Rattle.stack_laws.specs.Links.{EndsLast, some}

-- marks that leave no bound have an end
pub bound_none : (floor : ℕ) (marks : List Mark) → bound_behind (Some floor) marks ≡ None → some ends_marks marks ≡ true
bound_none floor [] is = absurd cc
bound_none floor (NoteMark note ∷ marks) is = bound_none floor marks is
bound_none floor (PieceMark piece ∷ marks) is = bound_none floor marks is
bound_none floor (FloorMark start ∷ marks) is = bound_none start marks is
bound_none floor (EndMark ∷ marks) is = refl

-- what stands behind marks starts at their bound or later
pub bound_from : (floor : ℕ) (marks kept rest : List Mark) (bound : ℕ) → bound_behind (Some floor) marks ≡ Some bound → EndsLast ends_marks (marks ++ kept)
    → FloorsHold (marks ++ kept) (shown marks ++ rest) → MarksFrom floor (shown marks ++ rest) → MarksFrom bound rest
bound_from floor [] kept rest bound is last holds from = subst (λ (n : ℕ). MarksFrom n rest) (some_same floor bound is) from
  where
    some_same : (m n : ℕ) → Some m ≡ Some n → m ≡ n
    some_same m n e = cc
bound_from floor (NoteMark note ∷ marks) kept rest bound is last holds from = bound_from floor marks kept rest bound is last.1 holds from.1
bound_from floor (PieceMark piece ∷ marks) kept rest bound is last holds from = bound_from floor marks kept rest bound is last.1 holds from
bound_from floor (FloorMark start ∷ marks) kept rest bound is last holds from = bound_from start marks kept rest bound is last.1 holds.1 holds.0
bound_from floor (EndMark ∷ marks) kept rest bound is last holds from = absurd (unbounded marks (last.0 refl) is)
  where
    unbounded : (marks : List Mark) → marks ++ kept ≡ [] → bound_behind None marks ≡ Some bound → ⊥
    unbounded [] none is = cc
    unbounded (mark ∷ marks) none is = cc

pub from_zero : (marks : List Mark) → MarksFrom 0 marks
from_zero [] = tt
from_zero (NoteMark note ∷ marks) = (omega arith, from_zero marks)
from_zero (PieceMark piece ∷ marks) = from_zero marks
from_zero (FloorMark start ∷ marks) = from_zero marks
from_zero (EndMark ∷ marks) = from_zero marks

pub notes_start : (floor : ℕ) (marks : List Mark) → MarksFrom floor marks → All (λ note. floor ≤ note.start) (notes_in marks)
notes_start floor [] from = All-nil (λ note. floor ≤ note.start)
notes_start floor (NoteMark note ∷ marks) from = All-cons (λ note. floor ≤ note.start) note (notes_in marks) from.0 (notes_start floor marks from.1)
notes_start floor (PieceMark piece ∷ marks) from = notes_start floor marks from
notes_start floor (FloorMark start ∷ marks) from = notes_start floor marks from
notes_start floor (EndMark ∷ marks) from = notes_start floor marks from

-- End is no floor
pub floors_end : (marks all : List Mark) → FloorsHold marks all → FloorsHold (marks ++ EndMark ∷ []) all
floors_end [] all holds = tt
floors_end (NoteMark note ∷ marks) all holds = floors_end marks _ holds
floors_end (PieceMark piece ∷ marks) all holds = floors_end marks _ holds
floors_end (FloorMark start ∷ marks) all holds = (holds.0, floors_end marks all holds.1)
floors_end (EndMark ∷ marks) all holds = floors_end marks all holds

behind_floor : (start first j i floor : ℕ) → first ≤ floor → (floor ≡ first → i ≤ j) → floor ≤ start → is_lt (ordering_then (nat_cmp start first) (nat_cmp j i)) ≡ false
behind_floor start first j i floor low at from = grind (arith, nat_tests, low, at, from)

-- a note of instance j at a floor or later doesn't stand before an entry that the floor allows
pub allowed_first : (j floor : ℕ) (entry : Entry) → Allows (Some floor) j entry → (note : Note) → floor ≤ note.start → is_before (entry_of j note) entry ≡ false
allowed_first j floor entry allows note from = behind_floor note.start entry.note.start j entry.instance floor allows.0 allows.1 from
