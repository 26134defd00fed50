-- Merging.
use Rattle.std.proofs.Common.{◌≡◌, ◌≢◌, ◌⊎◌, inl, inr, ℕ, zero, suc, ◌+◌, ◌-◌, ◌^◌, ◌≤◌, ◌<◌, Bool, true, false, not, cond, ◌&&◌, List, [], ◌∷◌, ◌++◌, length, drop, map, set, Option, Some, None, refl, sym, ◌∙◌, ap, subst, append_assoc, arith}
use Rattle.std.specs.Bool.{MatchBool}
use Rattle.std.specs.List.{All, slice_get}
use Rattle.std.specs.List.Sorted.{ties}
use Rattle.std.specs.Ordering.{nat_cmp, ordering_then, is_lt}
use Rattle.std.proofs.Math.Seq.{drop-append_seam}
use Rattle.std.proofs.lemmas.Bool.{cases_eq, cases_lt}
use Rattle.std.proofs.lemmas.Bool.Decides.{nat_tests}
use Rattle.std.proofs.lemmas.List.{append-nil, length-set, map-append}
use Rattle.std.proofs.lemmas.Option.{same_Some, slice_get_within}
use Rattle.std.proofs.lemmas.List.Elements.{All-cons, All-nil, filter-append}
use Rattle.la_base.specs.declared.wires.Mark.{Mark}
use Rattle.la_base.specs.declared.wires.Mark.TheVariants.{Note as NoteMark, Piece as PieceMark, Floor as FloorMark, End as EndMark}
use Rattle.la_base.specs.declared.wires.Note.{Note}
use Rattle.la_base.specs.declared.wires.Piece.{Piece}
use Rattle.note_order.specs.Order.{entries_from, entry_of, in_order, is_before}
use Rattle.note_order.specs.declared.entry.Entry.{Entry}
use Rattle.annot_merge.specs.Bounds.{Allows, HaveEnded, IsAllowed, bound_behind, bound_of}
use Rattle.annot_merge.specs.Held.{StandsFor}
use Rattle.annot_merge.specs.Limits.{IsLimit}
use Rattle.annot_merge.specs.declared.limit.Limit.{Limit}
use Rattle.annot_merge.specs.Marks.{AreTrue, Begins, Continues, Pushes, StartFrom, notes_from, notes_in, sorted_notes}
use Rattle.annot_merge.specs.Merging.{InOrder, Merges, NoneBefore, PutsIn}
use Rattle.annot_merge.proofs.LimitLemmas.{allowed_by, get_set_here, get_set_other}
use Rattle.annot_merge.proofs.Orders.{Alike, alike_append, alike_in_order, alike_to, comes_next, front_in_order, in_order_alike, none_before_append, one_order, order_is_in_order}

-- the notes of one list of marks and another
pub notes_append : (marks more : List Mark) → notes_in (marks ++ more) ≡ notes_in marks ++ notes_in more
notes_append [] more = refl
notes_append (NoteMark note ∷ marks) more = ap (λ (l : List Note). note ∷ l) (notes_append marks more)
notes_append (PieceMark piece ∷ marks) more = notes_append marks more
notes_append (FloorMark start ∷ marks) more = notes_append marks more
notes_append (EndMark ∷ marks) more = notes_append marks more

-- entries of two instances never tie
apart : (a b i j : ℕ) → i ≢ j → (not (is_lt (ordering_then (nat_cmp a b) (nat_cmp i j))) && not (is_lt (ordering_then (nat_cmp b a) (nat_cmp j i)))) ≡ false
apart a b i j differ = grind (arith, nat_tests, differ)

pub never_ties : (x y : Entry) → x.instance ≢ y.instance → ties is_before x y ≡ false
never_ties x y differ = apart x.note.start y.note.start x.instance y.instance differ

pub of_others : (x : Entry) (i : ℕ) → x.instance ≢ i → (notes : List Note) → alike_to x (map (entry_of i) notes) ≡ []
of_others x i differ [] = refl
of_others x i differ (note ∷ notes) = ap (λ (b : Bool). cond b (entry_of i note ∷ alike_to x (map (entry_of i) notes)) (alike_to x (map (entry_of i) notes))) (never_ties x (entry_of i note) differ) ∙ of_others x i differ notes

abbrev pub pushed : (ℕ → List Mark) → ℕ → ℕ → List Entry
pushed marks first count = entries_from first (notes_from marks first count)

-- those that are alike to one are of its instance
none_alike : (x : Entry) (marks : ℕ → List Mark) (first count : ℕ) → (x.instance < first) ⊎ (first + count ≤ x.instance) → alike_to x (pushed marks first count) ≡ []
none_alike x marks first zero out = refl
none_alike x marks first (suc count) out =
    filter-append (ties is_before x) (map (entry_of first) (notes_in (marks first))) (pushed marks (first + 1) count)
    ∙ (λ k. of_others x first (elim out [ inl below ↦ (λ same. omega (arith, same, below)) | inr above ↦ (λ same. omega (arith, same, above)) ]) (notes_in (marks first)) k
    ++ none_alike x marks (first + 1) count (elim out [ inl below ↦ inl (omega (arith, below)) | inr above ↦ inr (omega (arith, above)) ]) k)

some_alike : (x : Entry) (marks : ℕ → List Mark) (first count : ℕ) → first ≤ x.instance → x.instance < first + count → alike_to x (pushed marks first count) ≡ alike_to x (map (entry_of x.instance) (notes_in (marks x.instance)))
some_alike x marks first zero low high = absurd (omega (arith, low, high))
some_alike x marks first (suc count) low high = filter-append (ties is_before x) (map (entry_of first) (notes_in (marks first))) (pushed marks (first + 1) count) ∙ by (cases_eq x.instance first) (λ more. some_alike x marks (first + 1) count more (omega (arith, high)))
  where
    by : (x.instance ≡ first) ⊎ (x.instance ≢ first) → (first + 1 ≤ x.instance → alike_to x (pushed marks (first + 1) count) ≡ alike_to x (map (entry_of x.instance) (notes_in (marks x.instance))))
        → alike_to x (map (entry_of first) (notes_in (marks first))) ++ alike_to x (pushed marks (first + 1) count) ≡ alike_to x (map (entry_of x.instance) (notes_in (marks x.instance)))
    by (inl same) rest =
        ap (λ (l : List Entry). alike_to x (map (entry_of first) (notes_in (marks first))) ++ l) (none_alike x marks (first + 1) count (inl (omega (arith, same))))
        ∙ (append-nil (alike_to x (map (entry_of first) (notes_in (marks first)))) ∙ ap (λ (i : ℕ). alike_to x (map (entry_of i) (notes_in (marks i)))) (sym same))
    by (inr differ) rest = (λ k. of_others x first differ (notes_in (marks first)) k ++ rest (omega (arith, low, differ)) k)

-- the notes of marks and of more marks of each instance
pub alike_more : (count : ℕ) (marks later all : ℕ → List Mark) → ((j : ℕ) → j < count → all j ≡ marks j ++ later j) → Alike (pushed all 0 count) (pushed marks 0 count ++ pushed later 0 count)
alike_more count marks later all is x = by (cases_lt x.instance count) ∙ sym (filter-append (ties is_before x) (pushed marks 0 count) (pushed later 0 count))
  where
    one : (ℕ → List Mark) → List Entry
    one f = alike_to x (map (entry_of x.instance) (notes_in (f x.instance)))

    by : (x.instance < count) ⊎ (count ≤ x.instance) → alike_to x (pushed all 0 count) ≡ alike_to x (pushed marks 0 count) ++ alike_to x (pushed later 0 count)
    by (inl within) =
        some_alike x all 0 count (omega arith) (omega (arith, within))
        ∙ (ap (λ (l : List Mark). alike_to x (map (entry_of x.instance) (notes_in l))) (is x.instance within)
        ∙ (ap (λ (l : List Note). alike_to x (map (entry_of x.instance) l)) (notes_append (marks x.instance) (later x.instance))
        ∙ (ap (alike_to x) (map-append (entry_of x.instance) (notes_in (marks x.instance)) (notes_in (later x.instance)))
        ∙ (filter-append (ties is_before x) (map (entry_of x.instance) (notes_in (marks x.instance))) (map (entry_of x.instance) (notes_in (later x.instance)))
        ∙ sym (λ k. some_alike x marks 0 count (omega arith) (omega (arith, within)) k ++ some_alike x later 0 count (omega arith) (omega (arith, within)) k)))))
    by (inr out) = none_alike x all 0 count (inr (omega (arith, out))) ∙ sym (λ k. none_alike x marks 0 count (inr (omega (arith, out))) k ++ none_alike x later 0 count (inr (omega (arith, out))) k)

-- where the notes among marks are the same, so are those of all
pub alike_same : (count : ℕ) (one other : ℕ → List Mark) → ((j : ℕ) → j < count → notes_in (one j) ≡ notes_in (other j)) → Alike (pushed one 0 count) (pushed other 0 count)
alike_same count one other same x = elim (cases_lt x.instance count) [
  | inl within ↦ some_alike x one 0 count (omega arith) (omega (arith, within))
      ∙ (ap (λ (l : List Note). alike_to x (map (entry_of x.instance) l)) (same x.instance within) ∙ sym (some_alike x other 0 count (omega arith) (omega (arith, within))))
  | inr out ↦ none_alike x one 0 count (inr (omega (arith, out))) ∙ sym (none_alike x other 0 count (inr (omega (arith, out))))
]

-- one more note of an instance
pub alike_note : (count : ℕ) (marks after : ℕ → List Mark) (i : ℕ) (note : Note) → i < count → notes_in (after i) ≡ notes_in (marks i) ++ note ∷ [] → ((j : ℕ) → j ≢ i → after j ≡ marks j)
    → Alike (pushed after 0 count) (pushed marks 0 count ++ entry_of i note ∷ [])
alike_note count marks after i note below is others x = by (cases_eq x.instance i) (cases_lt x.instance count) ∙ sym (filter-append (ties is_before x) (pushed marks 0 count) (entry_of i note ∷ []))
  where
    other_entry : x.instance ≢ i → alike_to x (entry_of i note ∷ []) ≡ []
    other_entry differ = of_others x i differ (note ∷ [])

    by : (x.instance ≡ i) ⊎ (x.instance ≢ i) → (x.instance < count) ⊎ (count ≤ x.instance) → alike_to x (pushed after 0 count) ≡ alike_to x (pushed marks 0 count) ++ alike_to x (entry_of i note ∷ [])
    by (inl same) (inl within) =
        some_alike x after 0 count (omega arith) (omega (arith, within))
        ∙ (ap (λ (j : ℕ). alike_to x (map (entry_of j) (notes_in (after j)))) same
        ∙ (ap (λ (l : List Note). alike_to x (map (entry_of i) l)) is
        ∙ (ap (alike_to x) (map-append (entry_of i) (notes_in (marks i)) (note ∷ []))
        ∙ (filter-append (ties is_before x) (map (entry_of i) (notes_in (marks i))) (entry_of i note ∷ [])
        ∙ ap (λ (l : List Entry). l ++ alike_to x (entry_of i note ∷ [])) (ap (λ (j : ℕ). alike_to x (map (entry_of j) (notes_in (marks j)))) (sym same) ∙ sym (some_alike x marks 0 count (omega arith) (omega (arith, within))))))))
    by (inl same) (inr out) = absurd (omega (arith, same, out, below))
    by (inr differ) (inl within) =
        some_alike x after 0 count (omega arith) (omega (arith, within))
        ∙ (ap (λ (l : List Mark). alike_to x (map (entry_of x.instance) (notes_in l))) (others x.instance differ)
        ∙ (sym (some_alike x marks 0 count (omega arith) (omega (arith, within)))
        ∙ (sym (append-nil (alike_to x (pushed marks 0 count))) ∙ ap (λ (l : List Entry). alike_to x (pushed marks 0 count) ++ l) (sym (other_entry differ)))))
    by (inr differ) (inr out) =
        none_alike x after 0 count (inr (omega (arith, out)))
        ∙ sym (λ k. none_alike x marks 0 count (inr (omega (arith, out))) k ++ other_entry differ k)

-- what a bound says of the marks behind it
abbrev BoundHolds : Option ℕ → List Mark → Type 0
BoundHolds None marks = marks ≡ []
BoundHolds (Some floor) marks = StartFrom floor marks

from_zero : (marks : List Mark) → StartFrom 0 marks
from_zero [] = tt
from_zero (NoteMark note ∷ marks) = (omega arith, from_zero marks)
from_zero (PieceMark piece ∷ marks) = from_zero marks
from_zero (FloorMark start ∷ marks) = from_zero marks
from_zero (EndMark ∷ marks) = from_zero marks

bound_holds : (bound : Option ℕ) (marks later : List Mark) → BoundHolds bound (marks ++ later) → AreTrue (marks ++ later) → BoundHolds (bound_behind bound marks) later
bound_holds bound [] later holds are = holds
bound_holds None (mark ∷ marks) later holds are = absurd (let e : mark ∷ marks ++ later ≡ [] = holds in cc)
bound_holds (Some floor) (NoteMark note ∷ marks) later holds are = bound_holds (Some floor) marks later holds.1 are
bound_holds (Some floor) (PieceMark piece ∷ marks) later holds are = bound_holds (Some floor) marks later holds are
bound_holds (Some floor) (FloorMark start ∷ marks) later holds are = bound_holds (Some start) marks later are.0 are.1
bound_holds (Some floor) (EndMark ∷ marks) later holds are = bound_holds None marks later are (subst AreTrue (sym are) tt)

-- a note that an instance allows stands before none of the notes that it gives later
none_later : (e : Entry) (j : ℕ) (bound : Option ℕ) (later : List Mark) → Allows bound j e → BoundHolds bound later → NoneBefore e (map (entry_of j) (notes_in later))
none_later e j None later allows holds = subst (λ (l : List Mark). NoneBefore e (map (entry_of j) (notes_in l))) (sym holds) tt
none_later e j (Some floor) later allows holds = by later holds
  where
    behind : (a b i k : ℕ) → (b ≤ floor) → (floor ≡ b → k ≤ j) → floor ≤ a → is_lt (ordering_then (nat_cmp a b) (nat_cmp j k)) ≡ false
    behind a b i k low at from = grind (arith, nat_tests, low, at, from)

    by : (marks : List Mark) → StartFrom floor marks → NoneBefore e (map (entry_of j) (notes_in marks))
    by [] from = tt
    by (NoteMark note ∷ marks) from = (behind note.start e.note.start j e.instance allows.0 allows.1 from.0, by marks from.1)
    by (PieceMark piece ∷ marks) from = by marks from
    by (FloorMark start ∷ marks) from = by marks from
    by (EndMark ∷ marks) from = by marks from

none_of_all : (e : Entry) (later : ℕ → List Mark) (first count : ℕ) → ((j : ℕ) → first ≤ j → j < first + count → NoneBefore e (map (entry_of j) (notes_in (later j)))) → NoneBefore e (pushed later first count)
none_of_all e later first zero none = tt
none_of_all e later first (suc count) none =
    none_before_append e (map (entry_of first) (notes_in (later first))) (pushed later (first + 1) count) (none first (omega arith) (omega arith))
    (none_of_all e later (first + 1) count (λ j low high. none j (omega (arith, low)) (omega (arith, high))))

-- what stands behind the marks pushed so far
abbrev behind : (ℕ → List Mark) → (ℕ → List Mark) → ℕ → List Mark
behind marks all j = drop (length (marks j)) (all j)

is_behind : (front list : List Mark) → Begins front list → list ≡ front ++ drop (length front) list
is_behind front list begins = sym begins.1 ∙ ap (λ (l : List Mark). front ++ l) (sym (drop-append_seam front begins.0) ∙ ap (drop (length front)) begins.1)

-- the least note that is held is given, where it is allowed
pub gives : (count : ℕ) (marks : ℕ → List Mark) (given held : List Entry) (e : Entry) → Merges count marks given (e ∷ held) → IsAllowed count marks e → Merges count marks (given ++ e ∷ []) held
gives count marks given held e m allowed = record {
  whole = ap in_order (append_assoc given (e ∷ []) held) ∙ m.whole;
  ordered = m.ordered.1;
  front = λ all goes.
      let before = m.front all goes in
      let is : (j : ℕ) → j < count → all j ≡ marks j ++ behind marks all j = λ j within. is_behind (marks j) (all j) (goes.begins j within) in
      let later = pushed (behind marks all) 0 count in
      let same : Alike (sorted_notes count all) ((given ++ e ∷ held) ++ later) = λ x.
      in_order_alike (sorted_notes count all) (pushed all 0 count) (sym (one_order (sorted_notes count all) (sorted_notes count all) (order_is_in_order (pushed all 0 count)) (λ y. refl))) x
      ∙ (alike_more count marks (behind marks all) all is x
      ∙ alike_append (pushed marks 0 count) later (given ++ e ∷ held) later (λ y. sym (in_order_alike (given ++ e ∷ held) (pushed marks 0 count) m.whole y)) (λ y. refl) x) in
      let next = comes_next given before.0 held later e (subst InOrder (sym before.1) (order_is_in_order (pushed all 0 count)))
      (λ x. ap (alike_to x) before.1 ∙ same x) m.ordered.0
      (none_of_all e (behind marks all) 0 count (λ j low high. none_later e j (bound_of (marks j)) (behind marks all j) (allowed j (omega (arith, high)))
      (bound_holds (Some 0) (marks j) (behind marks all j) (from_zero (marks j ++ behind marks all j)) (subst AreTrue (is j (omega (arith, high))) (goes.are_true j (omega (arith, high))))))) in
      (next.0, next.1 ∙ before.1);
}

-- one more mark is pushed: those given are still a front
begins_before : (front : List Mark) (mark : Mark) (list : List Mark) → Begins (front ++ mark ∷ []) list → Begins front list
begins_before front mark list begins = (mark ∷ begins.0, sym (append_assoc front (mark ∷ []) begins.0) ∙ begins.1)

still_front : (count : ℕ) (marks after : ℕ → List Mark) (i : ℕ) (mark : Mark) → Pushes marks after i mark → (all : ℕ → List Mark) → Continues count after all → Continues count marks all
still_front count marks after i mark pushes all goes = record {
  begins = λ j within. elim (cases_eq j i) [
    | inl same ↦ begins_before (marks j) mark (all j) (subst (λ (l : List Mark). Begins l (all j)) (subst (λ (k : ℕ). after k ≡ marks k ++ mark ∷ []) (sym same) pushes.here) (goes.begins j within))
    | inr differ ↦ subst (λ (l : List Mark). Begins l (all j)) (pushes.others j differ) (goes.begins j within)
  ];
  are_true = goes.are_true;
}

-- a note that is pushed is held
pub holds_more : (count : ℕ) (marks after : ℕ → List Mark) (given held new : List Entry) (i : ℕ) (note : Note) → i < count → Merges count marks given held → Pushes marks after i (NoteMark note) → PutsIn (entry_of i note) held new → Merges count after given new
holds_more count marks after given held new i note within m pushes puts = record {
  whole = alike_in_order (given ++ new) (pushed after 0 count) (λ x.
      alike_append given new given (held ++ entry_of i note ∷ []) (λ y. refl) (in_order_alike new (held ++ entry_of i note ∷ []) puts.same) x
      ∙ (ap (alike_to x) (sym (append_assoc given held (entry_of i note ∷ [])))
      ∙ (alike_append (given ++ held) (entry_of i note ∷ []) (pushed marks 0 count) (entry_of i note ∷ []) (in_order_alike (given ++ held) (pushed marks 0 count) m.whole) (λ y. refl) x
      ∙ sym (alike_note count marks after i note within (ap notes_in pushes.here ∙ notes_append (marks i) (NoteMark note ∷ [])) pushes.others x))));
  ordered = puts.ordered;
  front = λ all goes. m.front all (still_front count marks after i (NoteMark note) pushes all goes);
}

-- no other mark changes what is held
pub holds_same : (count : ℕ) (marks after : ℕ → List Mark) (given held : List Entry) (i : ℕ) (mark : Mark) → notes_in (mark ∷ []) ≡ [] → Merges count marks given held → Pushes marks after i mark → Merges count after given held
holds_same count marks after given held i mark none m pushes = record {
  whole = m.whole ∙ alike_in_order (pushed marks 0 count) (pushed after 0 count) (alike_same count marks after (λ j within. sym (same j)));
  ordered = m.ordered;
  front = λ all goes. m.front all (still_front count marks after i mark pushes all goes);
}
  where
    same : (j : ℕ) → notes_in (after j) ≡ notes_in (marks j)
    same j = elim (cases_eq j i) [
      | inl is ↦ ap notes_in (subst (λ (k : ℕ). after k ≡ marks k ++ mark ∷ []) (sym is) pushes.here) ∙ (notes_append (marks j) (mark ∷ []) ∙ (ap (λ (l : List Note). notes_in (marks j) ++ l) none ∙ append-nil (notes_in (marks j))))
      | inr differ ↦ ap notes_in (pushes.others j differ)
    ]

-- nothing was pushed
none_pushed : (first count : ℕ) → pushed (λ _. []) first count ≡ []
none_pushed first zero = refl
none_pushed first (suc count) = none_pushed (first + 1) count

pub merges_nothing : (count : ℕ) → Merges count (λ _. []) [] []
merges_nothing count = record {
  whole = ap in_order (sym (none_pushed 0 count));
  ordered = tt;
  front = λ all goes. (sorted_notes count all, refl);
}

-- a note that stands no later is allowed where one is
sooner : (a b i k floor j : ℕ) → is_lt (ordering_then (nat_cmp a b) (nat_cmp i k)) ≡ false → a ≤ floor → (floor ≡ a → i ≤ j) → (b ≤ floor) × (floor ≡ b → k ≤ j)
sooner a b i k floor j after low at = grind (arith, nat_tests, after, low, at)

allows_sooner : (bound : Option ℕ) (j : ℕ) (e other : Entry) → is_before other e ≡ false → Allows bound j other → Allows bound j e
allows_sooner None j e other after allows = tt
allows_sooner (Some floor) j e other after allows = sooner other.note.start e.note.start other.instance e.instance floor j after allows.0 allows.1

none_of_these : (count : ℕ) (marks : ℕ → List Mark) (e : Entry) → (IsAllowed count marks e → ⊥) → (held : List Entry) → NoneBefore e held → All (λ other. IsAllowed count marks other → ⊥) held
none_of_these count marks e never [] none = All-nil (λ other. IsAllowed count marks other → ⊥)
none_of_these count marks e never (other ∷ held) none =
    All-cons (λ other. IsAllowed count marks other → ⊥) other held (λ allowed. never (λ j within. allows_sooner (bound_of (marks j)) j e other none.0 (allowed j within))) (none_of_these count marks e never held none.1)

-- where the first isn't allowed, none is
pub none_allowed : (count : ℕ) (marks : ℕ → List Mark) (e : Entry) (held : List Entry) → InOrder (e ∷ held) → (IsAllowed count marks e → ⊥) → All (λ other. IsAllowed count marks other → ⊥) (e ∷ held)
none_allowed count marks e held ordered never = All-cons (λ other. IsAllowed count marks other → ⊥) e held never (none_of_these count marks e never held ordered.0)

-- where each instance has ended, each note is allowed
pub ended_allow : (count : ℕ) (marks : ℕ → List Mark) (e : Entry) → HaveEnded count marks → IsAllowed count marks e
ended_allow count marks e ended j within = subst (λ b. Allows b j e) (sym (ended j within)) tt

-- where nothing is held and nothing will come, those given are all
pub all_given : (count : ℕ) (marks : ℕ → List Mark) (given : List Entry) → Merges count marks given [] → Continues count marks marks → given ≡ sorted_notes count marks
all_given count marks given m goes =
    let front = m.front marks goes in
    one_order given given (front_in_order given front.0 (subst InOrder (sym front.1) (order_is_in_order (pushed marks 0 count)))) (λ x. refl)
    ∙ (ap in_order (sym (append-nil given)) ∙ m.whole)

-- bounds of marks and more marks
pub bound_append : (bound : Option ℕ) (marks more : List Mark) → bound_behind bound (marks ++ more) ≡ bound_behind (bound_behind bound marks) more
bound_append bound [] more = refl
bound_append bound (NoteMark note ∷ marks) more = bound_append bound marks more
bound_append bound (PieceMark piece ∷ marks) more = bound_append bound marks more
bound_append bound (FloorMark start ∷ marks) more = bound_append (Some start) marks more
bound_append bound (EndMark ∷ marks) more = bound_append None marks more

-- a mark that sets no bound
bound_same : (marks after : ℕ → List Mark) (i : ℕ) (mark : Mark) → Pushes marks after i mark → ((bound : Option ℕ) → bound_behind bound (mark ∷ []) ≡ bound) → (j : ℕ) → bound_of (after j) ≡ bound_of (marks j)
bound_same marks after i mark pushes keeps j = elim (cases_eq j i) [
  | inl is ↦ ap bound_of (subst (λ (k : ℕ). after k ≡ marks k ++ mark ∷ []) (sym is) pushes.here) ∙ (bound_append (Some 0) (marks j) (mark ∷ []) ∙ keeps (bound_of (marks j)))
  | inr differ ↦ ap bound_of (pushes.others j differ)
]

module _ (count : ℕ) (bounds : List (Option ℕ)) (limit : Limit) (held : List Entry) where
  pub takes_note : (new : List Entry) (i : ℕ) (note : Note) → i < count → (InOrder held → PutsIn (entry_of i note) held new)
      → (marks after : ℕ → List Mark) (given : List Entry) → StandsFor count bounds limit held marks given → Pushes marks after i (NoteMark note) → StandsFor count bounds limit new after given
  takes_note new i note within puts marks after given s pushes = record {
    many = s.many;
    bounds_are = λ j below. s.bounds_are j below ∙ ap (λ b. Some b) (sym (bound_same marks after i (NoteMark note) pushes (λ b. refl) j));
    limit_is = s.limit_is;
    merges = holds_more count marks after given held new i note within s.merges pushes (puts s.merges.ordered);
  }

  pub takes_piece : (i : ℕ) (piece : Piece) (marks after : ℕ → List Mark) (given : List Entry) → StandsFor count bounds limit held marks given → Pushes marks after i (PieceMark piece) → StandsFor count bounds limit held after given
  takes_piece i piece marks after given s pushes = record {
    many = s.many;
    bounds_are = λ j below. s.bounds_are j below ∙ ap (λ b. Some b) (sym (bound_same marks after i (PieceMark piece) pushes (λ b. refl) j));
    limit_is = s.limit_is;
    merges = holds_same count marks after given held i (PieceMark piece) refl s.merges pushes;
  }

  -- a floor or an end
  pub takes_bound : (now : List (Option ℕ)) (moved : Limit) (i : ℕ) (mark : Mark) (bound : Option ℕ) → i < count → now ≡ set bounds i bound → (IsLimit bounds limit → IsLimit now moved)
      → notes_in (mark ∷ []) ≡ [] → ((before : Option ℕ) → bound_behind before (mark ∷ []) ≡ bound)
      → (marks after : ℕ → List Mark) (given : List Entry) → StandsFor count bounds limit held marks given → Pushes marks after i mark → StandsFor count now moved held after given
  takes_bound now moved i mark bound within is limits none sets marks after given s pushes = record {
    many = ap length is ∙ (length-set bounds i bound ∙ s.many);
    bounds_are = λ j below. ap (λ l. slice_get l j) is ∙ elim (cases_eq j i) [
      | inl same ↦ ap (slice_get (set bounds i bound)) same ∙ (get_set_here bounds i bound (omega (arith, within, s.many))
          ∙ ap (λ b. Some b) (sym (ap bound_of (subst (λ (k : ℕ). after k ≡ marks k ++ mark ∷ []) (sym same) pushes.here) ∙ (bound_append (Some 0) (marks j) (mark ∷ []) ∙ sets (bound_of (marks j))))))
      | inr differ ↦ get_set_other bounds i bound j differ ∙ (s.bounds_are j below ∙ ap (λ b. Some (bound_of b)) (sym (pushes.others j differ)))
    ];
    limit_is = limits s.limit_is;
    merges = holds_same count marks after given held i mark none s.merges pushes;
  }

  -- the first note that is held is given
  pub gives_first : (e : Entry) (new : List Entry) → held ≡ e ∷ new → Allows (Some limit.start) limit.instance e
      → (marks : ℕ → List Mark) (given : List Entry) → StandsFor count bounds limit held marks given → IsAllowed count marks e × StandsFor count bounds limit new marks (given ++ e ∷ [])
  gives_first e new is allows marks given s =
      let allowed : IsAllowed count marks e = λ j within. allowed_by limit (bound_of (marks j)) j e (s.limit_is.within j (bound_of (marks j)) (s.bounds_are j within)) allows in (
        allowed,
        record {
          many = s.many;
          bounds_are = s.bounds_are;
          limit_is = s.limit_is;
          merges = gives count marks given new e (subst (λ l. Merges count marks given l) is s.merges) allowed;
        },
      )

  -- the first note that is held isn't allowed
  pub gives_not : (e : Entry) (new : List Entry) → held ≡ e ∷ new → e.note.start ≤ 2 ^ 64 - 1 → e.instance ≤ 2 ^ 32 - 1 → (Allows (Some limit.start) limit.instance e → ⊥)
      → (marks : ℕ → List Mark) (given : List Entry) → StandsFor count bounds limit held marks given → IsAllowed count marks e → ⊥
  gives_not e new is start instance never marks given s allowed = elim s.limit_is.reached [
    | inl at ↦
        let within : limit.instance < count = omega (arith, slice_get_within bounds limit.instance (Some limit.start) at, s.many) in
        never (subst (λ b. Allows b limit.instance e) (same_Some (bound_of (marks limit.instance)) (Some limit.start) (sym (s.bounds_are limit.instance within) ∙ at)) (allowed limit.instance within))
    | inr top ↦ never (omega (arith, top.0, start), λ _. omega (arith, top.1, instance))
  ]

  pub gives_none : (e : Entry) (new : List Entry) → held ≡ e ∷ new → e.note.start ≤ 2 ^ 64 - 1 → e.instance ≤ 2 ^ 32 - 1 → (Allows (Some limit.start) limit.instance e → ⊥)
      → (marks : ℕ → List Mark) (given : List Entry) → StandsFor count bounds limit held marks given → All (λ other. IsAllowed count marks other → ⊥) held
  gives_none e new is start instance never marks given s =
      subst (All (λ other. IsAllowed count marks other → ⊥)) (sym is) (none_allowed count marks e new (subst InOrder is s.merges.ordered) (gives_not e new is start instance never marks given s))

  pub none_given : held ≡ [] → (marks : ℕ → List Mark) (given : List Entry) → StandsFor count bounds limit held marks given → Continues count marks marks → given ≡ sorted_notes count marks
  none_given is marks given s goes = all_given count marks given (subst (λ l. Merges count marks given l) is s.merges) goes

-- at the end, where none that is held may be given, those given are all
pub given_at_end : (count : ℕ) (marks : ℕ → List Mark) (given held : List Entry) → Merges count marks given held → All (λ e. IsAllowed count marks e → ⊥) held → HaveEnded count marks → Continues count marks marks → given ≡ sorted_notes count marks
given_at_end count marks given [] m none ended goes = all_given count marks given m goes
given_at_end count marks given (e ∷ held) m none ended goes = absurd (none 0 e (omega arith) (ended_allow count marks e ended))

pub either_way : {P Q R S : Type 0} (b : Bool) → MatchBool b P Q → (P → R) → (Q → S) → MatchBool b R S
either_way true is yes_then no_then = yes_then is
either_way false is yes_then no_then = no_then is
