-- What was told of an instance, list by list of runs.
use Rattle.std.proofs.Common.{◌≡◌, inl, inr, ℕ, Bool, true, List, [], ◌∷◌, ◌++◌, Option, refl, sym, ◌∙◌, ap, subst, append_assoc}
use Rattle.std.proofs.lemmas.List.{append-nil}
use Rattle.la_base.specs.declared.wires.Mark.{Mark}
use Rattle.la_base.specs.declared.wires.Mark.TheVariants.{Note as NoteMark, Piece as PieceMark, Floor as FloorMark, End as EndMark}
use Rattle.la_base.specs.declared.wires.Out.{Out}
use Rattle.tree_io.specs.Feeds.{together}
use Rattle.decoder_core.specs.Inputs.{Item}
use Rattle.decoder_core.specs.Marks.{FloorsHold, shown}
use Rattle.tree_io.specs.Feeds.{marks_of}
use Rattle.tree_runs.specs.Floors.{Floored, WithFloors}
use Rattle.tree_runs.specs.Lows.{AreLow}
use Rattle.tree_runs.specs.Machines.{near_of, whole_of}
use Rattle.tree_runs.specs.Passing.{NoEnd}
use Rattle.tree_runs.specs.Reaching.{Reaches}
use Rattle.tree_runs.specs.Runs.{ToldOf, input_on}
use Rattle.tree_runs.proofs.Flooring.{floored-append}
use Rattle.tree_io.proofs.Taking.{marks-append}
use Rattle.tree_runs.proofs.Lists.{floors-append, marks_from, no_end-append, reaches-append, reaches_weaker, shown-append}

-- floors among marks
pub with_append : (a b c d : List Mark) → WithFloors a b → WithFloors c d → WithFloors (a ++ c) (b ++ d)
with_append a [] c d none rest = subst (λ (l : List Mark). WithFloors (l ++ c) d) (sym none) rest
with_append a (FloorMark floor ∷ b) c d (inl more) rest = inl (with_append a b c d more rest)
with_append a (FloorMark floor ∷ b) c d (inr same) rest = inr (same.0 ++ c, ap (λ (l : List Mark). l ++ c) same.1, with_append same.0 b c d same.2 rest)
with_append a (NoteMark note ∷ b) c d same rest = (same.0 ++ c, ap (λ (l : List Mark). l ++ c) same.1, with_append same.0 b c d same.2 rest)
with_append a (PieceMark piece ∷ b) c d same rest = (same.0 ++ c, ap (λ (l : List Mark). l ++ c) same.1, with_append same.0 b c d same.2 rest)
with_append a (EndMark ∷ b) c d same rest = absurd same

pub with_none : (marks : List Mark) → NoEnd marks → WithFloors marks marks
with_none [] no_end = refl
with_none (FloorMark floor ∷ marks) no_end = inr (marks, refl, with_none marks no_end)
with_none (NoteMark note ∷ marks) no_end = (marks, refl, with_none marks no_end)
with_none (PieceMark piece ∷ marks) no_end = (marks, refl, with_none marks no_end)
with_none (EndMark ∷ marks) no_end = absurd no_end

-- one after another
pub told_then : {done : Bool} (whole : List Item → List Out) (near : List Item → ℕ) (was mid now : List Item) (before later : List ℕ → List Item) (between : List ℕ) (fs gs : List (List Item)) (ms ns : List Mark) → mid ≡ was ++ together fs → ((more : List ℕ) → before (between ++ more) ≡ later more)
    → ToldOf true whole near was mid before fs ms → ToldOf done whole near mid now later gs ns → ToldOf done whole near was now later (fs ++ gs) (ms ++ ns)
told_then {done} whole near was mid now before later between fs gs ms ns cut goes_on p q = record {
  new = p.new ++ q.new;
  no_end = no_end-append ms ns p.no_end q.no_end;
  adds = q.adds ∙ ap (λ (l : List Out). l ++ q.new) p.adds ∙ append_assoc (whole was) p.new q.new;
  shows = subst (λ (l : List Mark). Reaches done l (marks_of (p.new ++ q.new))) (sym (shown-append ms ns))
      (subst (λ (l : List Mark). Reaches done (shown ms ++ shown ns) l) (ap (λ (l : List Mark). l ++ marks_of q.new) p.shows ∙ sym (marks-append p.new q.new)) (reaches-append done (shown ms) (shown ns) (marks_of q.new) q.shows));
  floors = λ more rest is.
      let first : FloorsHold ms (marks_of (p.new ++ (q.new ++ rest))) =
      p.floors (between ++ more) (q.new ++ rest) (ap whole (goes_on more) ∙ is ∙ ap (λ (l : List Out). whole was ++ l) (append_assoc p.new q.new rest)) in
      let second : FloorsHold ns (marks_of (q.new ++ rest)) =
      q.floors more rest (is ∙ ap (λ (l : List Out). whole was ++ l) (append_assoc p.new q.new rest) ∙ sym (append_assoc (whole was) p.new (q.new ++ rest)) ∙ ap (λ (l : List Out). l ++ (q.new ++ rest)) (sym p.adds)) in
      let all : shown ms ++ marks_of (q.new ++ rest) ≡ marks_of (p.new ++ (q.new ++ rest)) = ap (λ (l : List Mark). l ++ marks_of (q.new ++ rest)) p.shows ∙ sym (marks-append p.new (q.new ++ rest)) in
      subst (λ (l : List Out). FloorsHold (ms ++ ns) (marks_of l)) (sym (append_assoc p.new q.new rest))
      (subst (FloorsHold (ms ++ ns)) all (floors-append ms ns (marks_of (q.new ++ rest)) (subst (FloorsHold ms) (sym all) first) second));
  plain = p.plain ++ q.plain;
  more_floors = with_append p.plain ms q.plain ns p.more_floors q.more_floors;
  floored =
      let one = p.floored in
      let two = q.floored in (
        p.plain ++ two.0,
        reaches-append done p.plain q.plain two.0 two.1,
        floored-append whole near was fs gs p.plain two.0 (subst (Floored whole near was fs) (sym one.1) one.2)
            (subst (λ (l : List Item). Floored whole near l gs two.0) cut two.2),
      );
}

-- floors alone
module _ {S : Type 0} (outputs : S → List Item → List Out) (near : S → List Item → ℕ → ℕ) (setups : List S) (parents : List (Option ℕ)) where
  abbrev input : List ℕ → ℕ → List Item
  input samples j = input_on outputs setups parents samples j

  low_hold : (samples : List ℕ) (j : ℕ) (marks : List Mark) → AreLow outputs setups parents samples j marks → (more : List ℕ) (rest : List Out) → whole_of outputs setups j (input (samples ++ more) j) ≡ whole_of outputs setups j (input samples j) ++ rest → FloorsHold marks (marks_of rest)
  low_hold samples j [] low more rest is = tt
  low_hold samples j (FloorMark floor ∷ marks) low more rest is = (marks_from floor rest (low.0 more rest is).0, low_hold samples j marks low.1 more rest is)
  low_hold samples j (NoteMark note ∷ marks) low more rest is = absurd low
  low_hold samples j (PieceMark piece ∷ marks) low more rest is = absurd low
  low_hold samples j (EndMark ∷ marks) low more rest is = absurd low

  low_plain : (samples : List ℕ) (j : ℕ) (marks : List Mark) → AreLow outputs setups parents samples j marks → WithFloors [] marks × NoEnd marks × (shown marks ≡ [])
  low_plain samples j [] low = (refl, tt, refl)
  low_plain samples j (FloorMark floor ∷ marks) low = let p = low_plain samples j marks low.1 in (inl p.0, p.1, p.2)
  low_plain samples j (NoteMark note ∷ marks) low = absurd low
  low_plain samples j (PieceMark piece ∷ marks) low = absurd low
  low_plain samples j (EndMark ∷ marks) low = absurd low

  pub told_low : (done : Bool) (samples : List ℕ) (j : ℕ) (marks : List Mark) → AreLow outputs setups parents samples j marks
      → ToldOf done (whole_of outputs setups j) (near_of near setups j) (input samples j) (input samples j) (λ more. input (samples ++ more) j) [] marks
  told_low done samples j marks low =
      let p = low_plain samples j marks low in
      record {
        new = [];
        no_end = p.1;
        adds = sym (append-nil (whole_of outputs setups j (input samples j)));
        shows = reaches_weaker done (shown marks) [] p.2;
        floors = λ more rest is. low_hold samples j marks low more rest is;
        plain = [];
        more_floors = p.0;
        floored = ([], reaches_weaker done [] [] refl, refl);
      }
