-- What was written and seen of the marks of a tree of decoders, by its listing.
use Rattle.std.proofs.Common.{◌≡◌, ◌⊎◌, inl, inr, ℕ, zero, suc, ◌+◌, ◌==◌, ◌≤◌, ◌<◌, Bool, true, false, cond, if◌then◌else◌, List, [], ◌∷◌, ◌++◌, drop, length, map, slice_get, Option, Some, None, refl, sym, ◌∙◌, ap, subst, append_assoc, arith}
use Rattle.std.specs.Prelude.{IfSome}
use Rattle.std.specs.Io.KnownBytes.{Appends}
use Rattle.std.proofs.lemmas.Bool.{cases_lt}
use Rattle.std.proofs.lemmas.List.{append-nil, length-map}
use Rattle.std.proofs.Math.Seq.{drop-append_seam}
use Rattle.la_base.specs.declared.wires.Mark.{Mark}
use Rattle.la_base.specs.declared.wires.Mark.TheVariants.{Note as NoteMark, Piece as PieceMark, Floor as FloorMark, End as EndMark}
use Rattle.la_base.specs.declared.wires.Note.{Note}
use Rattle.la_base.specs.declared.wires.Out.{Out}
use Rattle.la_base.specs.declared.wires.Out.TheVariants.{Note as NoteOut, Piece as PieceOut, Packet as PacketOut}
use Rattle.la_io.specs.Causes.{AppendsFront}
use Rattle.la_io.proofs.Fronts.{front_longer}
use Rattle.decoder_core.specs.Inputs.{Item}
use Rattle.decoder_core.specs.Marks.{FloorsHold, MarksFrom, shown}
use Rattle.tree_io.specs.Feeds.{marks_of}
use Rattle.decoder_core.specs.Promises.{GivesNothing, KeepsFront}
use Rattle.decoder_core.specs.Trees.{given}
use Rattle.decoder_core.specs.declared.end.RunEnd.{RunEnd}
use Rattle.decoder_core.specs.declared.end.RunEnd.TheVariants.{Ended}
use Rattle.note_order.specs.Order.{listed}
use Rattle.tree_runs.specs.Machines.{whole_of}
use Rattle.tree_runs.specs.Passing.{IsForest, NoEnd}
use Rattle.tree_runs.specs.Reaching.{Reaches}
use Rattle.tree_runs.specs.Runs.{ToldOn as ToldOf, input_at, nodes_of}
use Rattle.tree_runs.proofs.Fresh.{reads_nothing}
use Rattle.tree_io.proofs.Taking.{marks-append}
use Rattle.tree_runs.proofs.Telling.{given_at, given_len}
use Rattle.stack_words.specs.Accepting.{Accepted}
use Rattle.annot_merge.specs.Bounds.{bound_of}
use Rattle.annot_merge.specs.Marks.{AreTrue, Begins, Continues, StartFrom, notes_from, notes_in, sorted_notes}
use Rattle.annot_merge.specs.Held.{count_of, held_in}
use Rattle.annot_merge.specs.declared.merge.Merge.{Merge}
use Rattle.annot_merge.proofs.MergeLemmas.{bound_append, given_at_end}
use Rattle.note_lister.specs.Data.{bytes_in}
use Rattle.note_lister.specs.Lines.{note_lines, shown_entries, shown_lines}
use Rattle.note_order.specs.declared.entry.Entry.{Entry}
use Rattle.note_lister.specs.Prompt.{Prompts}
use Rattle.note_lister.specs.Taking.{WritesAll}
use Rattle.note_lister.specs.Watching.{SawFront}
use Rattle.note_lister.proofs.Seeing.{entries_append, lines_append, lines_shown}
use Rattle.note_lister.proofs.TakingLemmas.{begins_itself, bytes_in-append}
use Rattle.tree_runs.specs.Listings.{notes_of}
use Rattle.decode_job.specs.Listing.{bytes_by, bytes_of, given_behind, notes_to_list, output_of, rest_of}
use Rattle.decode_job.specs.Seen.{WritesFrontSeen, WritesSeen}
use Rattle.check_laws.proofs.Growing.{grows}
use Rattle.decode_job.proofs.Showing.{shown_notes}

-- notes and pieces alone
abbrev IsPlain : List Mark → Type 0
IsPlain [] = Unit {0}
IsPlain (NoteMark note ∷ marks) = IsPlain marks
IsPlain (PieceMark piece ∷ marks) = IsPlain marks
IsPlain (FloorMark start ∷ marks) = ⊥
IsPlain (EndMark ∷ marks) = ⊥

plain_outs : (outs : List Out) → IsPlain (marks_of outs)
plain_outs [] = tt
plain_outs (NoteOut note ∷ outs) = plain_outs outs
plain_outs (PieceOut piece ∷ outs) = plain_outs outs
plain_outs (PacketOut packet ∷ outs) = plain_outs outs

plain_rest : (xs ys : List Mark) → IsPlain (xs ++ ys) → IsPlain ys
plain_rest [] ys plain = plain
plain_rest (NoteMark note ∷ xs) ys plain = plain_rest xs ys plain
plain_rest (PieceMark piece ∷ xs) ys plain = plain_rest xs ys plain
plain_rest (FloorMark start ∷ xs) ys plain = absurd plain
plain_rest (EndMark ∷ xs) ys plain = absurd plain

plain_append : (xs ys : List Mark) → IsPlain xs → IsPlain ys → IsPlain (xs ++ ys)
plain_append [] ys one other = other
plain_append (NoteMark note ∷ xs) ys one other = plain_append xs ys one other
plain_append (PieceMark piece ∷ xs) ys one other = plain_append xs ys one other
plain_append (FloorMark start ∷ xs) ys one other = absurd one
plain_append (EndMark ∷ xs) ys one other = absurd one

plain_shown : (xs : List Mark) → IsPlain xs → shown xs ≡ xs
plain_shown [] plain = refl
plain_shown (NoteMark note ∷ xs) plain = ap (λ (l : List Mark). NoteMark note ∷ l) (plain_shown xs plain)
plain_shown (PieceMark piece ∷ xs) plain = ap (λ (l : List Mark). PieceMark piece ∷ l) (plain_shown xs plain)
plain_shown (FloorMark start ∷ xs) plain = absurd plain
plain_shown (EndMark ∷ xs) plain = absurd plain

plain_true : (xs : List Mark) → IsPlain xs → AreTrue xs
plain_true [] plain = tt
plain_true (NoteMark note ∷ xs) plain = plain_true xs plain
plain_true (PieceMark piece ∷ xs) plain = plain_true xs plain
plain_true (FloorMark start ∷ xs) plain = absurd plain
plain_true (EndMark ∷ xs) plain = absurd plain

-- floors that hold are true
start_from : (floor : ℕ) (body tail : List Mark) → MarksFrom floor (shown body ++ shown tail) → StartFrom floor (body ++ tail)
start_from floor [] tail from = by tail from
  where
    by : (marks : List Mark) → MarksFrom floor (shown marks) → StartFrom floor marks
    by [] from = tt
    by (NoteMark note ∷ marks) from = (from.0, by marks from.1)
    by (PieceMark piece ∷ marks) from = by marks from
    by (FloorMark start ∷ marks) from = by marks from
    by (EndMark ∷ marks) from = by marks from
start_from floor (NoteMark note ∷ body) tail from = (from.0, start_from floor body tail from.1)
start_from floor (PieceMark piece ∷ body) tail from = start_from floor body tail from
start_from floor (FloorMark start ∷ body) tail from = start_from floor body tail from
start_from floor (EndMark ∷ body) tail from = start_from floor body tail from

floors_true : (body tail : List Mark) → NoEnd body → FloorsHold body (shown body ++ shown tail) → AreTrue tail → AreTrue (body ++ tail)
floors_true [] tail no_end hold are = are
floors_true (NoteMark note ∷ body) tail no_end hold are = floors_true body tail no_end hold are
floors_true (PieceMark piece ∷ body) tail no_end hold are = floors_true body tail no_end hold are
floors_true (FloorMark start ∷ body) tail no_end hold are = (start_from start body tail hold.0, floors_true body tail no_end hold.1 are)
floors_true (EndMark ∷ body) tail no_end hold are = absurd no_end

-- notes and bytes among marks
pub notes_shown : (marks : List Mark) → notes_in (shown marks) ≡ notes_in marks
notes_shown [] = refl
notes_shown (NoteMark note ∷ marks) = ap (λ (l : List Note). note ∷ l) (notes_shown marks)
notes_shown (PieceMark piece ∷ marks) = notes_shown marks
notes_shown (FloorMark start ∷ marks) = notes_shown marks
notes_shown (EndMark ∷ marks) = notes_shown marks

pub notes_outs : (outs : List Out) → notes_in (marks_of outs) ≡ notes_of outs
notes_outs [] = refl
notes_outs (NoteOut note ∷ outs) = ap (λ (l : List Note). note ∷ l) (notes_outs outs)
notes_outs (PieceOut piece ∷ outs) = notes_outs outs
notes_outs (PacketOut packet ∷ outs) = notes_outs outs

bytes_shown : (class : ℕ) (marks : List Mark) → bytes_in class (shown marks) ≡ bytes_in class marks
bytes_shown class [] = refl
bytes_shown class (NoteMark note ∷ marks) = bytes_shown class marks
bytes_shown class (PieceMark piece ∷ marks) = ap (λ (l : List ℕ). cond (piece.class == class) (piece.byte ∷ l) l) (bytes_shown class marks)
bytes_shown class (FloorMark start ∷ marks) = bytes_shown class marks
bytes_shown class (EndMark ∷ marks) = bytes_shown class marks

bytes_outs : (class : ℕ) (outs : List Out) → bytes_in class (marks_of outs) ≡ bytes_of class outs
bytes_outs class [] = refl
bytes_outs class (NoteOut note ∷ outs) = bytes_outs class outs
bytes_outs class (PieceOut piece ∷ outs) = ap (λ (l : List ℕ). cond (piece.class == class) (piece.byte ∷ l) l) (bytes_outs class outs)
bytes_outs class (PacketOut packet ∷ outs) = bytes_outs class outs

-- all marks of an instance, those that were taken and those to come, as its outputs give them
pub record Full (taken : List Mark) (outs : List Out) : Type 0 where
  pub marks : List Mark
  pub begins : Begins taken marks
  pub are_true : AreTrue marks
  pub shows : shown marks ≡ marks_of outs

shown_append : (xs ys : List Mark) → shown (xs ++ ys) ≡ shown xs ++ shown ys
shown_append [] ys = refl
shown_append (NoteMark note ∷ xs) ys = ap (λ (l : List Mark). NoteMark note ∷ l) (shown_append xs ys)
shown_append (PieceMark piece ∷ xs) ys = ap (λ (l : List Mark). PieceMark piece ∷ l) (shown_append xs ys)
shown_append (FloorMark start ∷ xs) ys = shown_append xs ys
shown_append (EndMark ∷ xs) ys = shown_append xs ys

-- from what was told of it behind an input, and more input behind
full_of : (result : RunEnd) (at_end : Bool) (whole : List Item → List Out) (near : List Item → ℕ) (was now more : List Item) (later : List ℕ → List Item) (rest : List ℕ) (feeds : List (List Item)) (taken : List Mark) → later rest ≡ now ++ more → ToldOf result at_end whole near was now later feeds taken → KeepsFront whole → (at_end ≡ true → more ≡ []) → Full taken (drop (length (whole was)) (whole (now ++ more)))
full_of result at_end whole near was now more later rest feeds taken comes told keeps none = by told.closed refl
  where
    open_made : told.closed ≡ false → taken ≡ told.body
    open_made is = told.made ∙ (ap (λ (b : Bool). told.body ++ (if b then EndMark ∷ [] else [])) is ∙ append-nil told.body)

    by : (b : Bool) → told.closed ≡ b → Full taken (drop (length (whole was)) (whole (now ++ more)))
    by true is =
        let reached : shown told.body ≡ marks_of told.tells.new = subst (λ (b : Bool). Reaches b (shown told.body) (marks_of told.tells.new)) is told.tells.shows in
        let made : taken ≡ told.body ++ EndMark ∷ [] = told.made ∙ ap (λ (b : Bool). told.body ++ (if b then EndMark ∷ [] else [])) is in
        let ends : more ≡ [] = none (told.whole_at_end is) in
        let outs : drop (length (whole was)) (whole (now ++ more)) ≡ told.tells.new = ap (drop (length (whole was))) (ap (λ (l : List Item). whole (now ++ l)) ends ∙ (ap whole (append-nil now) ∙ told.tells.adds)) ∙ drop-append_seam (whole was) told.tells.new in
        let hold : FloorsHold told.body (marks_of (told.tells.new ++ [])) = told.tells.floors rest [] (ap whole (comes ∙ ap (λ (l : List Item). now ++ l) ends ∙ append-nil now) ∙ (told.tells.adds ∙ ap (λ (l : List Out). whole was ++ l) (sym (append-nil told.tells.new)))) in
        record {
          marks = taken;
          begins = begins_itself taken;
          are_true = subst AreTrue (sym made) (floors_true told.body (EndMark ∷ []) told.tells.no_end (subst (FloorsHold told.body) (ap marks_of (append-nil told.tells.new) ∙ (sym reached ∙ sym (append-nil (shown told.body)))) hold) refl);
          shows = ap shown made ∙ (shown_append told.body (EndMark ∷ []) ∙ (append-nil (shown told.body) ∙ (reached ∙ ap marks_of (sym outs))));
        }
    by false is =
        let front : Reaches false (shown told.body) (marks_of told.tells.new) = subst (λ (b : Bool). Reaches b (shown told.body) (marks_of told.tells.new)) is told.tells.shows in
        let k = keeps now more in
        let tail : List Mark = front.0 ++ marks_of k.0 in
        let plain : IsPlain tail = plain_append front.0 (marks_of k.0) (plain_rest (shown told.body) front.0 (subst IsPlain (sym front.1) (plain_outs told.tells.new))) (plain_outs k.0) in
        let adds : whole (now ++ more) ≡ whole was ++ (told.tells.new ++ k.0) = k.1 ∙ (ap (λ (l : List Out). l ++ k.0) told.tells.adds ∙ append_assoc (whole was) told.tells.new k.0) in
        let outs : drop (length (whole was)) (whole (now ++ more)) ≡ told.tells.new ++ k.0 = ap (drop (length (whole was))) adds ∙ drop-append_seam (whole was) (told.tells.new ++ k.0) in
        let all : marks_of (told.tells.new ++ k.0) ≡ shown told.body ++ tail = marks-append told.tells.new k.0 ∙ (ap (λ (l : List Mark). l ++ marks_of k.0) (sym front.1) ∙ append_assoc (shown told.body) front.0 (marks_of k.0)) in
        let hold : FloorsHold told.body (marks_of (told.tells.new ++ k.0)) = told.tells.floors rest k.0 (ap whole comes ∙ adds) in
        record {
          marks = told.body ++ tail;
          begins = (tail, ap (λ (l : List Mark). l ++ tail) (open_made is));
          are_true = floors_true told.body tail told.tells.no_end (subst (FloorsHold told.body) (all ∙ ap (λ (l : List Mark). shown told.body ++ l) (sym (plain_shown tail plain))) hold) (plain_true tail plain);
          shows = shown_append told.body tail ∙ (ap (λ (l : List Mark). shown told.body ++ l) (plain_shown tail plain) ∙ (sym all ∙ ap marks_of (sym outs)));
        }

begins_further : {X : Type 0} (a b c : List X) → Begins a b → Begins b c → Begins a c
begins_further a b c one other = (one.0 ++ other.0, sym (append_assoc a one.0 other.0) ∙ (ap (λ l. l ++ other.0) one.1 ∙ other.1))

-- lists with the same elements at each place are one
pub same_places : {X : Type 0} (xs ys : List X) → length xs ≡ length ys → ((j : ℕ) → j < length xs → slice_get xs j ≡ slice_get ys j) → xs ≡ ys
same_places [] [] len same = refl
same_places [] (y ∷ ys) len same = absurd (omega (arith, len))
same_places (x ∷ xs) [] len same = absurd (omega (arith, len))
same_places {X} (x ∷ xs) (y ∷ ys) len same = let head : Some x ≡ Some y = same 0 (omega arith) in let here : x ≡ y = cc in λ i. here i ∷ same_places xs ys (omega (arith, len)) (λ j low. same (suc j) (omega (arith, low))) i

notes_len : (marks : ℕ → List Mark) (first n : ℕ) → length (notes_from marks first n) ≡ n
notes_len marks first zero = refl
notes_len marks first (suc n) = let rest = notes_len marks (first + 1) n in omega (arith, rest)

notes_at : (marks : ℕ → List Mark) (first n j : ℕ) → j < n → slice_get (notes_from marks first n) j ≡ Some (notes_in (marks (first + j)))
notes_at marks first zero j low = absurd (omega (arith, low))
notes_at marks first (suc n) zero low = let e : first ≡ first + 0 = omega arith in ap (λ (k : ℕ). Some (notes_in (marks k))) e
notes_at marks first (suc n) (suc j) low = notes_at marks (first + 1) n j (omega (arith, low)) ∙ (let e : (first + 1) + j ≡ first + suc j = omega arith in ap (λ (k : ℕ). Some (notes_in (marks k))) e)

get_map : {X Y : Type 0} (f : X → Y) (xs : List X) (j : ℕ) (x : X) → slice_get xs j ≡ Some x → slice_get (map f xs) j ≡ Some (f x)
get_map f [] j x at = absurd cc
get_map f (y ∷ xs) zero x at = let same : y ≡ x = cc in ap (λ z. Some (f z)) same
get_map f (y ∷ xs) (suc j) x at = get_map f xs j x at

-- what instances give behind others, by their places
rest_at : (was now : List (List Out)) (j : ℕ) (before outs : List Out) → slice_get was j ≡ Some before → slice_get now j ≡ Some outs → slice_get (rest_of was now) j ≡ Some (drop (length before) outs)
rest_at [] now j before outs was_at at = absurd cc
rest_at (x ∷ was) [] j before outs was_at at = absurd cc
rest_at (x ∷ was) (y ∷ now) zero before outs was_at at = let a : x ≡ before = cc in let b : y ≡ outs = cc in λ i. Some (drop (length (a i)) (b i))
rest_at (x ∷ was) (y ∷ now) (suc j) before outs was_at at = rest_at was now j before outs was_at at

rest_len : (was now : List (List Out)) → length was ≡ length now → length (rest_of was now) ≡ length now
rest_len [] [] same = refl
rest_len [] (y ∷ now) same = absurd (omega (arith, same))
rest_len (x ∷ was) [] same = absurd (omega (arith, same))
rest_len (x ∷ was) (y ∷ now) same = ap (λ (k : ℕ). suc k) (rest_len was now (omega (arith, same)))

module _ {S : Type 0} (outputs : S → List Item → List Out) (setups : List S) (parents : List (Option ℕ)) (forest : IsForest parents) (count : length setups ≡ length parents) where
  pub behind_at : (earlier all : List ℕ) (j : ℕ) → j < length parents
      → slice_get (rest_of (given outputs earlier (nodes_of setups parents)) (given outputs all (nodes_of setups parents))) j
      ≡ Some (drop (length (whole_of outputs setups j (input_at outputs (nodes_of setups parents) earlier j))) (whole_of outputs setups j (input_at outputs (nodes_of setups parents) all j)))
  behind_at earlier all j within =
      rest_at (given outputs earlier (nodes_of setups parents)) (given outputs all (nodes_of setups parents)) j (whole_of outputs setups j (input_at outputs (nodes_of setups parents) earlier j)) (whole_of outputs setups j (input_at outputs (nodes_of setups parents) all j))
      (given_at outputs setups parents forest count earlier j within) (given_at outputs setups parents forest count all j within)

  pub behind_len : (earlier all : List ℕ) → length (rest_of (given outputs earlier (nodes_of setups parents)) (given outputs all (nodes_of setups parents))) ≡ length parents
  behind_len earlier all =
      let mine = given_len outputs setups parents forest count earlier in
      let theirs = given_len outputs setups parents forest count all in
      rest_len (given outputs earlier (nodes_of setups parents)) (given outputs all (nodes_of setups parents)) (mine ∙ sym theirs) ∙ theirs

  -- behind no samples it is all that they give
  pub behind_nothing : ((j : ℕ) → j < length parents → GivesNothing (whole_of outputs setups j)) → (samples : List ℕ) → given_behind outputs [] samples (nodes_of setups parents) ≡ given outputs samples (nodes_of setups parents)
  behind_nothing nothing samples =
      same_places (given_behind outputs [] samples (nodes_of setups parents)) (given outputs samples (nodes_of setups parents)) (behind_len [] samples ∙ sym (given_len outputs setups parents forest count samples)) (λ j low.
      let within : j < length parents = omega (arith, low, behind_len [] samples) in
      let was : whole_of outputs setups j (input_at outputs (nodes_of setups parents) [] j) ≡ [] = ap (whole_of outputs setups j) (reads_nothing outputs setups parents forest count nothing j within) ∙ nothing j within in
      behind_at [] samples j within
      ∙ (ap (λ (l : List Out). Some (drop (length l) (whole_of outputs setups j (input_at outputs (nodes_of setups parents) samples j)))) was
      ∙ sym (given_at outputs setups parents forest count samples j within)))

module _ {S : Type 0} (outputs : S → List Item → List Out) (near : ℕ → List Item → ℕ) (setups : List S) (parents : List (Option ℕ)) (forest : IsForest parents) (count : length setups ≡ length parents)
    (keeps : (j : ℕ) → j < length parents → KeepsFront (whole_of outputs setups j)) (accepted : Accepted)
    (result : RunEnd) (at_end : Bool) (earlier samples rest : List ℕ) (taken : ℕ → List Mark)
    (told : (j : ℕ) → j < length parents
    → (feeds : List (List Item)) × ToldOf result at_end (whole_of outputs setups j) (near j) (input_at outputs (nodes_of setups parents) earlier j) (input_at outputs (nodes_of setups parents) (earlier ++ samples) j) (λ more. input_at outputs (nodes_of setups parents) ((earlier ++ samples) ++ more) j) feeds (taken j))
    (none : at_end ≡ true → rest ≡ []) where
  abbrev n : ℕ
  n = length parents

  abbrev reached : List ℕ
  reached = earlier ++ samples

  abbrev all_samples : List ℕ
  all_samples = reached ++ rest

  abbrev was_at : ℕ → List Out
  was_at j = whole_of outputs setups j (input_at outputs (nodes_of setups parents) earlier j)

  abbrev outs_at : ℕ → List Out
  outs_at j = drop (length (was_at j)) (whole_of outputs setups j (input_at outputs (nodes_of setups parents) all_samples j))

  full : (j : ℕ) → j < n → Full (taken j) (outs_at j)
  full j within = by at_end refl
    where
      by : (b : Bool) → at_end ≡ b → Full (taken j) (outs_at j)
      by true is =
          let same : input_at outputs (nodes_of setups parents) reached j ++ [] ≡ input_at outputs (nodes_of setups parents) all_samples j =
          append-nil (input_at outputs (nodes_of setups parents) reached j) ∙ ap (λ (l : List ℕ). input_at outputs (nodes_of setups parents) l j) (sym (append-nil reached) ∙ ap (λ (l : List ℕ). reached ++ l) (sym (none is))) in
          subst (λ (l : List Item). Full (taken j) (drop (length (was_at j)) (whole_of outputs setups j l))) same
          (full_of result at_end (whole_of outputs setups j) (near j) (input_at outputs (nodes_of setups parents) earlier j) (input_at outputs (nodes_of setups parents) reached j) [] (λ more. input_at outputs (nodes_of setups parents) (reached ++ more) j) rest (told j within).0 (taken j) (sym same) (told j within).1 (keeps j within) (λ _. refl))
      by false is =
          let g = grows outputs setups parents forest count keeps reached rest j within in
          subst (λ (l : List Item). Full (taken j) (drop (length (was_at j)) (whole_of outputs setups j l))) (sym g.1)
          (full_of result at_end (whole_of outputs setups j) (near j) (input_at outputs (nodes_of setups parents) earlier j) (input_at outputs (nodes_of setups parents) reached j) g.0 (λ more. input_at outputs (nodes_of setups parents) (reached ++ more) j) rest (told j within).0 (taken j) g.1 (told j within).1 (keeps j within) (λ closed. absurd (opened is closed)))
        where
          opened : at_end ≡ false → at_end ≡ true → ⊥
          opened a b = cc

  pick : (j : ℕ) → (j < n) ⊎ (n ≤ j) → List Mark
  pick j (inl within) = (full j within).marks
  pick j (inr out) = []

  pub all_marks : ℕ → List Mark
  all_marks j = pick j (cases_lt j n)

  picked : (P : ℕ → List Mark → Type 0) → ((j : ℕ) (within : j < n) → P j (full j within).marks) → (j : ℕ) → j < n → P j (all_marks j)
  unfolding all_marks pick
  picked P holds j within = by (cases_lt j n)
    where
      by : (c : (j < n) ⊎ (n ≤ j)) → P j (pick j c)
      by (inl low) = holds j low
      by (inr out) = absurd (omega (arith, within, out))

  continues : (first : ℕ → List Mark) → ((j : ℕ) → Begins (first j) (taken j)) → Continues n first all_marks
  continues first begins = record {
    begins = picked (λ j marks. Begins (first j) marks) (λ j within. begins_further (first j) (taken j) (full j within).marks (begins j) (full j within).begins);
    are_true = picked (λ j marks. AreTrue marks) (λ j within. (full j within).are_true);
  }

  notes_are : (j : ℕ) → j < n → notes_in (all_marks j) ≡ notes_of (outs_at j)
  notes_are = picked (λ j marks. notes_in marks ≡ notes_of (outs_at j)) (λ j within. sym (notes_shown (full j within).marks) ∙ (ap notes_in (full j within).shows ∙ notes_outs (outs_at j)))

  bytes_are : (class j : ℕ) → j < n → bytes_in class (all_marks j) ≡ bytes_of class (outs_at j)
  bytes_are class = picked (λ j marks. bytes_in class marks ≡ bytes_of class (outs_at j)) (λ j within. sym (bytes_shown class (full j within).marks) ∙ (ap (bytes_in class) (full j within).shows ∙ bytes_outs class (outs_at j)))

  abbrev tree : List (List Out)
  tree = rest_of (given outputs earlier (nodes_of setups parents)) (given outputs all_samples (nodes_of setups parents))

  tree_len : length tree ≡ n
  tree_len = behind_len outputs setups parents forest count earlier all_samples

  tree_at : (j : ℕ) → j < n → slice_get tree j ≡ Some (outs_at j)
  tree_at j within = behind_at outputs setups parents forest count earlier all_samples j within

  -- what they give behind the earlier samples
  abbrev behind : List (List Out)
  behind = given_behind outputs earlier (samples ++ rest) (nodes_of setups parents)

  as_behind : tree ≡ behind
  as_behind = ap (λ (l : List ℕ). rest_of (given outputs earlier (nodes_of setups parents)) (given outputs l (nodes_of setups parents))) (append_assoc earlier samples rest)

  all_notes : notes_from all_marks 0 n ≡ map notes_of tree
  all_notes = same_places (notes_from all_marks 0 n) (map notes_of tree) (notes_len all_marks 0 n ∙ sym (length-map tree notes_of ∙ tree_len)) (λ j low.
      let within : j < n = omega (arith, low, notes_len all_marks 0 n) in
      notes_at all_marks 0 n j within
      ∙ ((let e : 0 + j ≡ j = omega arith in ap (λ (k : ℕ). Some (notes_in (all_marks k))) e)
      ∙ (ap (λ (l : List Note). Some l) (notes_are j within)
      ∙ sym (get_map notes_of tree j (outs_at j) (tree_at j within)))))

  -- those of all marks that are shown are the notes of the listing, and their lines the listing
  listed_are : (marks : ℕ → List Mark) → notes_from marks 0 n ≡ map notes_of tree → shown_entries accepted (sorted_notes n marks) ≡ notes_to_list accepted None behind
  listed_are marks are =
      ap (λ (l : List (List Note)). shown_entries accepted (listed l)) are
      ∙ (shown_notes accepted (map notes_of tree)
      ∙ ap (notes_to_list accepted None) as_behind)

  lines_are : (marks : ℕ → List Mark) → notes_from marks 0 n ≡ map notes_of tree → shown_lines accepted (sorted_notes n marks) ≡ output_of accepted None behind
  lines_are marks are = lines_shown accepted (sorted_notes n marks) ∙ ap (note_lines accepted.instances) (listed_are marks are)

  -- a front of what is written at once of the first marks is a front of what the tree is to write,
  -- and the first of its notes are the first of those of the listing
  pub front_of_tree : (binary : Option (ℕ × ℕ)) → IfSome binary (λ wanted. wanted.0 < n) → (first : ℕ → List Mark) → ((j : ℕ) → Begins (first j) (taken j)) → (out : List ℕ) (notes : List Entry) → Prompts accepted binary n first out notes
      → (saw : List Entry → Type 0) (old new : Option (List ℕ)) → AppendsFront old new out → SawFront accepted saw old new notes → WritesFrontSeen saw old new (output_of accepted binary behind) (notes_to_list accepted binary behind)
  front_of_tree None within first begins out notes prompts saw old new front saw_front =
      let f = prompts.merges.front all_marks (continues first begins) in
      let whole : out ++ shown_lines accepted f.0 ≡ output_of accepted None behind =
      ap (λ (l : List ℕ). l ++ shown_lines accepted f.0) prompts.lines ∙ (sym (lines_append accepted prompts.given f.0) ∙ (ap (shown_lines accepted) f.1 ∙ lines_are all_marks all_notes)) in
      let all : notes ++ shown_entries accepted f.0 ≡ notes_to_list accepted None behind =
      ap (λ (l : List Entry). l ++ shown_entries accepted f.0) prompts.shown ∙ (sym (entries_append accepted prompts.given f.0) ∙ (ap (shown_entries accepted) f.1 ∙ listed_are all_marks all_notes)) in
      record {
        front = subst (AppendsFront old new) whole (front_longer old new out (shown_lines accepted f.0) front);
        seen = record {
          seen = saw_front.seen;
          begins = begins_further saw_front.seen notes (notes_to_list accepted None behind) saw_front.begins (shown_entries accepted f.0, all);
          are_seen = saw_front.are_seen;
        };
      }
  front_of_tree (Some wanted) within first begins out notes prompts saw old new front saw_front =
      let b = (continues first begins).begins wanted.0 within in
      let whole : out ++ bytes_in wanted.1 b.0 ≡ output_of accepted (Some wanted) behind =
      ap (λ (l : List ℕ). l ++ bytes_in wanted.1 b.0) prompts.0
      ∙ (sym (bytes_in-append wanted.1 (first wanted.0) b.0)
      ∙ (ap (bytes_in wanted.1) b.1
      ∙ (bytes_are wanted.1 wanted.0 within
      ∙ (sym (ap (bytes_by wanted.1) (tree_at wanted.0 within)) ∙ ap (output_of accepted (Some wanted)) as_behind)))) in
      record {
        front = subst (AppendsFront old new) whole (front_longer old new out (bytes_in wanted.1 b.0) front);
        seen = record {
          seen = saw_front.seen;
          begins = subst (Begins saw_front.seen) prompts.1 saw_front.begins;
          are_seen = saw_front.are_seen;
        };
      }

  -- at the end all is written, and all notes were seen
  module _ (ended : result ≡ Ended) where
    closed_taken : (j : ℕ) → j < n → bound_of (taken j) ≡ None
    closed_taken j within =
        let t = (told j within).1 in
        ap bound_of (t.made ∙ ap (λ (b : Bool). t.body ++ (if b then EndMark ∷ [] else [])) (t.closes ended)) ∙ bound_append (Some 0) t.body (EndMark ∷ [])

    shut : (j : ℕ) → j < n → at_end ≡ true
    shut j within = (told j within).1.whole_at_end ((told j within).1.closes ended)

    -- nothing comes behind the marks that were taken
    taken_true : (j : ℕ) → j < n → AreTrue (taken j)
    taken_true j within = true_front (taken j) (full j within).marks (full j within).begins (full j within).are_true
      where
        from_front : (floor : ℕ) (xs ys : List Mark) → StartFrom floor (xs ++ ys) → StartFrom floor xs
        from_front floor [] ys from = tt
        from_front floor (NoteMark note ∷ xs) ys from = (from.0, from_front floor xs ys from.1)
        from_front floor (PieceMark piece ∷ xs) ys from = from_front floor xs ys from
        from_front floor (FloorMark start ∷ xs) ys from = from_front floor xs ys from
        from_front floor (EndMark ∷ xs) ys from = from_front floor xs ys from

        no_more : (xs ys : List Mark) → xs ++ ys ≡ [] → xs ≡ []
        no_more [] ys is = refl
        no_more (x ∷ xs) ys is = absurd cc

        front_true : (xs ys : List Mark) → AreTrue (xs ++ ys) → AreTrue xs
        front_true [] ys are = tt
        front_true (NoteMark note ∷ xs) ys are = front_true xs ys are
        front_true (PieceMark piece ∷ xs) ys are = front_true xs ys are
        front_true (FloorMark start ∷ xs) ys are = (from_front start xs ys are.0, front_true xs ys are.1)
        front_true (EndMark ∷ xs) ys are = no_more xs ys are

        true_front : (xs all : List Mark) → Begins xs all → AreTrue all → AreTrue xs
        true_front xs all begins are = front_true xs begins.0 (subst AreTrue (sym begins.1) are)

    -- the notes of all marks are those of the marks that were taken
    all_taken : (j : ℕ) → j < n → shown (taken j) ≡ marks_of (outs_at j)
    all_taken j within =
        let t = (told j within).1 in
        let is = t.closes ended in
        let all_shown : shown t.body ≡ marks_of t.tells.new = subst (λ (b : Bool). Reaches b (shown t.body) (marks_of t.tells.new)) is t.tells.shows in
        let made : taken j ≡ t.body ++ EndMark ∷ [] = t.made ∙ ap (λ (b : Bool). t.body ++ (if b then EndMark ∷ [] else [])) is in
        let adds : whole_of outputs setups j (input_at outputs (nodes_of setups parents) all_samples j) ≡ was_at j ++ t.tells.new = ap (λ (l : List ℕ). whole_of outputs setups j (input_at outputs (nodes_of setups parents) l j)) (ap (λ (l : List ℕ). reached ++ l) (none (shut j within)) ∙ append-nil reached) ∙ t.tells.adds in
        let outs : outs_at j ≡ t.tells.new = ap (drop (length (was_at j))) adds ∙ drop-append_seam (was_at j) t.tells.new in
        ap shown made ∙ (shown_append t.body (EndMark ∷ []) ∙ (append-nil (shown t.body) ∙ (all_shown ∙ ap marks_of (sym outs))))

    taken_notes : notes_from taken 0 n ≡ map notes_of tree
    taken_notes = same_places (notes_from taken 0 n) (map notes_of tree) (notes_len taken 0 n ∙ sym (length-map tree notes_of ∙ tree_len)) (λ j low.
        let within : j < n = omega (arith, low, notes_len taken 0 n) in
        notes_at taken 0 n j within
        ∙ ((let e : 0 + j ≡ j = omega arith in ap (λ (k : ℕ). Some (notes_in (taken k))) e)
        ∙ (ap (λ (l : List Note). Some l) (sym (notes_shown (taken j)) ∙ (ap notes_in (all_taken j within) ∙ notes_outs (outs_at j)))
        ∙ sym (get_map notes_of tree j (outs_at j) (tree_at j within)))))

    pub all_of_tree : (binary : Option (ℕ × ℕ)) → IfSome binary (λ wanted. wanted.0 < n) → (merge : Merge) → count_of merge ≡ n → (saw : List Entry → Type 0) (old new : Option (List ℕ)) → WritesAll accepted binary merge saw old new taken
        → WritesSeen saw old new (output_of accepted binary behind) (notes_to_list accepted binary behind)
    all_of_tree None within merge is saw old new w =
        let goes : Continues (count_of merge) taken taken = record { begins = λ j low. begins_itself (taken j); are_true = λ j low. taken_true j (omega (arith, low, is)) } in
        let all = given_at_end (count_of merge) taken w.given (held_in merge) w.stands.merges w.prompt (λ j low. closed_taken j (omega (arith, low, is))) goes in
        let given : w.given ≡ sorted_notes n taken = all ∙ ap (λ (k : ℕ). sorted_notes k taken) is in
        record {
          whole = subst (Appends old new) (ap (shown_lines accepted) given ∙ lines_are taken taken_notes) w.lines;
          seen = subst saw (ap (shown_entries accepted) given ∙ listed_are taken taken_notes) w.seen;
        }
    all_of_tree (Some wanted) within merge is saw old new w = record {
      whole = subst (Appends old new)
          (sym (bytes_shown wanted.1 (taken wanted.0)) ∙ (ap (bytes_in wanted.1) (all_taken wanted.0 within) ∙ (bytes_outs wanted.1 (outs_at wanted.0)
          ∙ (sym (ap (bytes_by wanted.1) (tree_at wanted.0 within)) ∙ ap (output_of accepted (Some wanted)) as_behind)))) w.0;
      seen = w.1;
    }
