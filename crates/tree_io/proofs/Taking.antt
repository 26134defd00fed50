-- Marks of an instance that were taken one behind another.
use Rattle.std.proofs.Common.{◌≡◌, ◌≢◌, ◌∙◌, inl, inr, ℕ, ◌<◌, ◌+◌, Bool, true, false, if◌then◌else◌, List, [], ◌∷◌, ◌++◌, take, drop, length, get_or, refl, sym, ap, subst, append_assoc, arith, take-append-drop}
use Rattle.std.specs.Prelude.{nat_eq}
use Rattle.std.proofs.lemmas.Bool.{cases_eq}
use Rattle.std.proofs.lemmas.Bool.Decides.{nat_tests}
use Rattle.std.proofs.lemmas.List.{append-nil, take_more}
use Rattle.la_base.specs.declared.wires.Mark.{Mark}
use Rattle.la_base.specs.declared.wires.Mark.TheVariants.{Note as NoteMark, Piece as PieceMark, Floor as FloorMark, End as EndMark}
use Rattle.la_base.specs.declared.wires.Out.{Out}
use Rattle.la_base.specs.declared.wires.Out.TheVariants.{Note as NoteOut, Piece as PieceOut, Packet as PacketOut}
use Rattle.tree_io.specs.Feeds.{AddsMarks, TakesFront, TakesMarks, marks_of, real}

pub marks-append : (xs ys : List Out) → marks_of (xs ++ ys) ≡ marks_of xs ++ marks_of ys
marks-append [] ys = refl
marks-append (NoteOut note ∷ xs) ys = ap (λ (l : List Mark). NoteMark note ∷ l) (marks-append xs ys)
marks-append (PieceOut piece ∷ xs) ys = ap (λ (l : List Mark). PieceMark piece ∷ l) (marks-append xs ys)
marks-append (PacketOut packet ∷ xs) ys = marks-append xs ys

pub real-append : (xs ys : List Mark) → real (xs ++ ys) ≡ real xs ++ real ys
real-append [] ys = refl
real-append (NoteMark n ∷ xs) ys = ap (λ (l : List Mark). NoteMark n ∷ l) (real-append xs ys)
real-append (PieceMark n ∷ xs) ys = ap (λ (l : List Mark). PieceMark n ∷ l) (real-append xs ys)
real-append (FloorMark n ∷ xs) ys = ap (λ (l : List Mark). FloorMark n ∷ l) (real-append xs ys)
real-append (EndMark ∷ xs) ys = real-append xs ys

-- one more of a list
pub marks_next : (outs : List Out) (i : ℕ) (out : Out) → i < length outs → out ≡ get_or outs i out → marks_of (take i outs) ++ marks_of (out ∷ []) ≡ marks_of (take (i + 1) outs)
marks_next outs i out within is = sym (ap marks_of (take_more outs i out within ∙ ap (λ (o : Out). take i outs ++ o ∷ []) (sym is)) ∙ marks-append (take i outs) (out ∷ []))

pub real_next : (marks : List Mark) (i : ℕ) (mark : Mark) → i < length marks → mark ≡ get_or marks i mark → real (take i marks) ++ real (mark ∷ []) ≡ real (take (i + 1) marks)
real_next marks i mark within is = sym (ap real (take_more marks i mark within ∙ ap (λ (m : Mark). take i marks ++ m ∷ []) (sym is)) ∙ real-append (take i marks) (mark ∷ []))

-- what is before one, that one, and what is behind it
pub marks_split : (outs : List Out) (i : ℕ) (out : Out) → i < length outs → out ≡ get_or outs i out → (marks_of (take i outs) ++ marks_of (out ∷ [])) ++ marks_of (drop (i + 1) outs) ≡ marks_of outs
marks_split outs i out within is = ap (λ (l : List Mark). l ++ marks_of (drop (i + 1) outs)) (marks_next outs i out within is) ∙ sym (marks-append (take (i + 1) outs) (drop (i + 1) outs)) ∙ ap marks_of (take-append-drop (i + 1) outs)

pub real_split : (marks : List Mark) (i : ℕ) (mark : Mark) → i < length marks → mark ≡ get_or marks i mark → (real (take i marks) ++ real (mark ∷ [])) ++ real (drop (i + 1) marks) ≡ real marks
real_split marks i mark within is = ap (λ (l : List Mark). l ++ real (drop (i + 1) marks)) (real_next marks i mark within is) ∙ sym (real-append (take (i + 1) marks) (drop (i + 1) marks)) ∙ ap real (take-append-drop (i + 1) marks)

-- none was taken
pub same_after : {before after : ℕ → List Mark} {i : ℕ} → AddsMarks before after i [] → before ≡ after
same_after {before} {after} {i} adds = λ t j. sym (at j) t
  where
    at : (j : ℕ) → after j ≡ before j
    at j = elim (cases_eq j i) [
      | inl same ↦ subst (λ (k : ℕ). after k ≡ before k) (sym same) (adds.here ∙ append-nil (before i))
      | inr differ ↦ adds.others j differ
    ]

pub takes_nothing : (took : (ℕ → List Mark) → Type 0) (i : ℕ) → TakesMarks took took i []
takes_nothing took i = λ before after had adds. subst took (same_after adds) had

-- what was taken behind the first of them
pub middle : (ℕ → List Mark) → ℕ → List Mark → ℕ → List Mark
middle before i xs j = if nat_eq j i then before i ++ xs else before j

pub adds_first : (before : ℕ → List Mark) (i : ℕ) (xs : List Mark) → AddsMarks before (middle before i xs) i xs
unfolding middle
adds_first before i xs = record {
  here = let same : nat_eq i i ≡ true = grind (arith, nat_tests) in ap (λ (b : Bool). if b then before i ++ xs else before i) same;
  others = λ j other. let different : nat_eq j i ≡ false = grind (arith, nat_tests) in ap (λ (b : Bool). if b then before i ++ xs else before j) different;
}

pub adds_behind : (before after : ℕ → List Mark) (i : ℕ) (xs ys : List Mark) → AddsMarks before after i (xs ++ ys) → AddsMarks (middle before i xs) after i ys
adds_behind before after i xs ys adds =
    let first = adds_first before i xs in
    record {
      here = adds.here ∙ sym (append_assoc (before i) xs ys) ∙ ap (λ (l : List Mark). l ++ ys) (sym first.here);
      others = λ j other. adds.others j other ∙ sym (first.others j other);
    }

-- some and then others
pub takes_then : (old mid new : (ℕ → List Mark) → Type 0) (i : ℕ) (xs ys zs : List Mark) → TakesMarks old mid i xs → TakesMarks mid new i ys → xs ++ ys ≡ zs → TakesMarks old new i zs
takes_then old mid new i xs ys zs first last is =
    subst (TakesMarks old new i) is
    (λ before after had adds. last (middle before i xs) after (first before (middle before i xs) had (adds_first before i xs)) (adds_behind before after i xs ys adds))

pub some_behind : {X : Type 0} (xs ys : List X) → ys ≢ [] → xs ++ ys ≢ []
some_behind [] ys some = some
some_behind (x ∷ xs) ys some = λ is. absurd cc

-- it stopped at the one behind the first i
pub stops_at : (outs : List Out) (i : ℕ) (out : Out) → i < length outs → out ≡ get_or outs i out → marks_of (out ∷ []) ≢ [] → (old mid new : (ℕ → List Mark) → Type 0) (instance : ℕ) → TakesMarks old mid instance (marks_of (take i outs)) → TakesMarks mid new instance (marks_of (out ∷ []))
    → TakesFront false old new instance (marks_of outs)
stops_at outs i out within is some old mid new instance first last =
    let next = marks_next outs i out within is in
    record {
      taken = marks_of (take (i + 1) outs);
      rest = marks_of (drop (i + 1) outs);
      front = sym (marks-append (take (i + 1) outs) (drop (i + 1) outs)) ∙ ap marks_of (take-append-drop (i + 1) outs);
      whole = λ never. absurd cc;
      some = λ done. subst (λ (l : List Mark). l ≢ []) next (some_behind (marks_of (take i outs)) (marks_of (out ∷ [])) some);
      takes = takes_then old mid new instance (marks_of (take i outs)) (marks_of (out ∷ [])) (marks_of (take (i + 1) outs)) first last next;
    }

pub stops_at_real : (marks : List Mark) (i : ℕ) (mark : Mark) → i < length marks → mark ≡ get_or marks i mark → real (mark ∷ []) ≢ [] → (old mid new : (ℕ → List Mark) → Type 0) (instance : ℕ) → TakesMarks old mid instance (real (take i marks)) → TakesMarks mid new instance (real (mark ∷ []))
    → TakesFront false old new instance (real marks)
stops_at_real marks i mark within is some old mid new instance first last =
    let next = real_next marks i mark within is in
    record {
      taken = real (take (i + 1) marks);
      rest = real (drop (i + 1) marks);
      front = sym (real-append (take (i + 1) marks) (drop (i + 1) marks)) ∙ ap real (take-append-drop (i + 1) marks);
      whole = λ never. absurd cc;
      some = λ done. subst (λ (l : List Mark). l ≢ []) next (some_behind (real (take i marks)) (real (mark ∷ [])) some);
      takes = takes_then old mid new instance (real (take i marks)) (real (mark ∷ [])) (real (take (i + 1) marks)) first last next;
    }

-- it stopped at none
pub takes_whole : (old new : (ℕ → List Mark) → Type 0) (instance : ℕ) (marks : List Mark) → TakesMarks old new instance marks → TakesFront true old new instance marks
takes_whole old new instance marks takes = record {
  taken = marks;
  rest = [];
  front = append-nil marks;
  whole = λ done. refl;
  some = λ never. absurd cc;
  takes = takes;
}
