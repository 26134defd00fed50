-- The listings of parts are together that of the whole.
use Rattle.std.proofs.Common.{◌≡◌, ◌<◌, ◌==◌, ℕ, zero, suc, ◌+◌, Bool, true, false, cond, List, [], ◌∷◌, ◌++◌, drop, length, map, slice_get, Option, Some, None, refl, sym, ◌∙◌, ap, arith, append_assoc}
use Rattle.std.specs.List.{filter}
use Rattle.std.specs.List.Sorted.{ties}
use Rattle.std.proofs.lemmas.Bool.Decides.{nat_tests}
use Rattle.std.proofs.lemmas.List.{append-nil, map-append}
use Rattle.std.proofs.lemmas.List.Concat.{flat_map-append}
use Rattle.std.proofs.lemmas.List.Elements.{filter-append}
use Rattle.la_base.specs.declared.wires.Note.{Note}
use Rattle.la_base.specs.declared.wires.Out.{Out}
use Rattle.decoder_core.specs.Inputs.{Item}
use Rattle.decoder_core.specs.Promises.{GivesNothing, KeepsFront}
use Rattle.decoder_core.specs.Trees.{Node, given}
use Rattle.check_laws.specs.Parts.{adds_behind, all_of, given_on}
use Rattle.check_laws.proofs.Together.{given_none, goes_on}
use Rattle.note_order.specs.Order.{entries_from, entry_of, in_order, is_before, is_of}
use Rattle.note_order.specs.declared.entry.Entry.{Entry}
use Rattle.note_order.proofs.Entries.{entries_rank, instances_make_listing, ties_make_listing}
use Rattle.note_order.proofs.SortLemmas.{sorted_is_stable}
use Rattle.note_lister.specs.Lines.{note_line, note_lines}
use Rattle.stack_laws.proofs.Wires.{notes_of-append}
use Rattle.stack_words.specs.Accepting.{Accepted, is_shown}
use Rattle.tree_runs.specs.Listings.{notes_of, shown_from, where_shown}
use Rattle.tree_runs.specs.Machines.{whole_of}
use Rattle.tree_runs.specs.Passing.{IsForest}
use Rattle.tree_runs.specs.Runs.{nodes_of}
use Rattle.tree_runs.proofs.Telling.{given_at, given_len}
use Rattle.decode_job.specs.Listing.{given_behind, listed_notes}
use Rattle.decode_job.specs.Together.{ListTheWhole, listings_of_parts, notes_of_parts}
use Rattle.decode_job.proofs.Listed.{behind_at, behind_len, same_places}

-- lists of outputs, joined place by place
abbrev joined : List (List Out) → List (List Out) → List (List Out)
joined [] more = []
joined (x ∷ xs) [] = []
joined (x ∷ xs) (y ∷ ys) = (x ++ y) ∷ joined xs ys

joined_len : (xs ys : List (List Out)) → length xs ≡ length ys → length (joined xs ys) ≡ length xs
joined_len [] ys same = refl
joined_len (x ∷ xs) [] same = absurd (omega (arith, same))
joined_len (x ∷ xs) (y ∷ ys) same = ap (λ (k : ℕ). suc k) (joined_len xs ys (omega (arith, same)))

joined_at : (xs ys : List (List Out)) (j : ℕ) (a b : List Out) → slice_get xs j ≡ Some a → slice_get ys j ≡ Some b → slice_get (joined xs ys) j ≡ Some (a ++ b)
joined_at [] ys j a b one other = absurd cc
joined_at (x ∷ xs) [] j a b one other = absurd cc
joined_at (x ∷ xs) (y ∷ ys) zero a b one other = let p : x ≡ a = cc in let q : y ≡ b = cc in λ i. Some (p i ++ q i)
joined_at (x ∷ xs) (y ∷ ys) (suc j) a b one other = joined_at xs ys j a b one other

-- of an instance with a lower number nothing is among these
later_none : (i n : ℕ) (lists : List (List Note)) → i < n → filter (is_of i) (entries_from n lists) ≡ []
later_none i n [] below = refl
later_none i n (notes ∷ lists) below =
    filter-append (is_of i) (map (entry_of n) notes) (entries_from (n + 1) lists)
    ∙ (λ k. none notes k ++ later_none i (n + 1) lists (omega (arith, below)) k)
  where
    other : (n == i) ≡ false
    other = grind (arith, nat_tests)

    none : (l : List Note) → filter (is_of i) (map (entry_of n) l) ≡ []
    none [] = refl
    none (note ∷ l) = ap (λ (b : Bool). cond b (entry_of n note ∷ filter (is_of i) (map (entry_of n) l)) (filter (is_of i) (map (entry_of n) l))) other ∙ none l

-- parts of two lists, one part or the other of which is empty, in another order
swapped : (a b d : List Entry) → (a ++ b) ++ ([] ++ d) ≡ (a ++ []) ++ (b ++ d)
swapped a b d = append_assoc a b d ∙ ap (λ (l : List Entry). l ++ (b ++ d)) (sym (append-nil a))

between : (a c d : List Entry) → (a ++ []) ++ (c ++ d) ≡ (a ++ c) ++ ([] ++ d)
between a c d = ap (λ (l : List Entry). l ++ (c ++ d)) (append-nil a) ∙ sym (append_assoc a c d)

module _ (shows : ℕ → Bool) where
  -- the entries of what instances give, the first of which has this number
  abbrev entries : ℕ → List (List Out) → List Entry
  entries n outs = entries_from n (shown_from shows n (map notes_of outs))

  module _ (i : ℕ) where
    abbrev here : ℕ → List Out → List Entry
    here n outs = filter (is_of i) (map (entry_of n) (where_shown (shows n) (notes_of outs)))

    shown_both : (b : Bool) (xs ys : List Note) → where_shown b (xs ++ ys) ≡ where_shown b xs ++ where_shown b ys
    shown_both true xs ys = refl
    shown_both false xs ys = refl

    here_both : (n : ℕ) (xs ys : List Out) → here n (xs ++ ys) ≡ here n xs ++ here n ys
    here_both n xs ys =
        let mine = where_shown (shows n) (notes_of xs) in
        let theirs = where_shown (shows n) (notes_of ys) in
        ap (λ (l : List Note). filter (is_of i) (map (entry_of n) l)) (ap (where_shown (shows n)) (notes_of-append xs ys) ∙ shown_both (shows n) (notes_of xs) (notes_of ys))
        ∙ ap (filter (is_of i)) (map-append (entry_of n) mine theirs)
        ∙ filter-append (is_of i) (map (entry_of n) mine) (map (entry_of n) theirs)

    here_none : (n : ℕ) → (n == i) ≡ false → (outs : List Out) → here n outs ≡ []
    here_none n other outs = none (where_shown (shows n) (notes_of outs))
      where
        none : (l : List Note) → filter (is_of i) (map (entry_of n) l) ≡ []
        none [] = refl
        none (note ∷ l) = ap (λ (b : Bool). cond b (entry_of n note ∷ filter (is_of i) (map (entry_of n) l)) (filter (is_of i) (map (entry_of n) l))) other ∙ none l

    -- what an instance gave of lists that are joined
    of_joined : (n : ℕ) (xs ys : List (List Out)) → length xs ≡ length ys → filter (is_of i) (entries n (joined xs ys)) ≡ filter (is_of i) (entries n xs) ++ filter (is_of i) (entries n ys)
    of_joined n [] [] same = refl
    of_joined n [] (y ∷ ys) same = absurd (omega (arith, same))
    of_joined n (x ∷ xs) [] same = absurd (omega (arith, same))
    of_joined n (x ∷ xs) (y ∷ ys) same =
        filter-append (is_of i) (map (entry_of n) (where_shown (shows n) (notes_of (x ++ y)))) (entries (n + 1) (joined xs ys))
        ∙ (λ k. here_both n x y k ++ of_joined (n + 1) xs ys (omega (arith, same)) k)
        ∙ mixed (n == i) refl
        ∙ (λ k. sym (split x xs) k ++ sym (split y ys) k)
      where
        split : (z : List Out) (zs : List (List Out)) → filter (is_of i) (entries n (z ∷ zs)) ≡ here n z ++ filter (is_of i) (entries (n + 1) zs)
        split z zs = filter-append (is_of i) (map (entry_of n) (where_shown (shows n) (notes_of z))) (entries (n + 1) zs)

        mixed : (b : Bool) → (n == i) ≡ b
            → (here n x ++ here n y) ++ (filter (is_of i) (entries (n + 1) xs) ++ filter (is_of i) (entries (n + 1) ys))
            ≡ (here n x ++ filter (is_of i) (entries (n + 1) xs)) ++ (here n y ++ filter (is_of i) (entries (n + 1) ys))
        mixed true is =
            let same_number : n ≡ i = grind (arith, nat_tests) in
            let none : filter (is_of i) (entries (n + 1) xs) ≡ [] = later_none i (n + 1) (shown_from shows (n + 1) (map notes_of xs)) (omega (arith, same_number)) in
            rw none (swapped (here n x) (here n y) (filter (is_of i) (entries (n + 1) ys)))
        mixed false is =
            let none : here n y ≡ [] = here_none n is y in
            rw none (between (here n x) (filter (is_of i) (entries (n + 1) xs)) (filter (is_of i) (entries (n + 1) ys)))

  -- lists without outputs have no entries
  none_listed : (n : ℕ) (lists : List (List Out)) → ((j : ℕ) → j < length lists → slice_get lists j ≡ Some []) → entries n lists ≡ []
  none_listed n [] none = refl
  none_listed n (outs ∷ lists) none =
      let first : Some outs ≡ Some [] = none 0 (omega arith) in
      let is : outs ≡ [] = cc in
      ap (λ (l : List Out). map (entry_of n) (where_shown (shows n) (notes_of l)) ++ entries (n + 1) lists) is
      ∙ nothing (shows n) (entries (n + 1) lists)
      ∙ none_listed (n + 1) lists (λ j low. none (suc j) (omega (arith, low)))
    where
      nothing : (b : Bool) (rest : List Entry) → map (entry_of n) (where_shown b []) ++ rest ≡ rest
      nothing true rest = refl
      nothing false rest = refl

module _ {S : Type 0} (outputs : S → List Item → List Out) (setups : List S) (parents : List (Option ℕ)) (forest : IsForest parents) (count : length setups ≡ length parents)
    (nothing : (j : ℕ) → j < length parents → GivesNothing (whole_of outputs setups j)) (keeps : (j : ℕ) → j < length parents → KeepsFront (whole_of outputs setups j)) (accepted : Accepted) where
  abbrev nodes : List (Node S)
  nodes = nodes_of setups parents

  abbrev shows : ℕ → Bool
  shows = is_shown accepted.shown

  abbrev all_entries : List (List Out) → List Entry
  all_entries outs = entries shows 0 outs

  -- what is given on more samples is what was given on these, joined by what that adds
  given_joined : (earlier piece : List ℕ) → given outputs (earlier ++ piece) nodes ≡ joined (given outputs earlier nodes) (given_behind outputs earlier piece nodes)
  given_joined earlier piece =
      let was = given_len outputs setups parents forest count earlier in
      let now = given_len outputs setups parents forest count (earlier ++ piece) in
      let more = behind_len outputs setups parents forest count earlier (earlier ++ piece) in
      let len = joined_len (given outputs earlier nodes) (given_behind outputs earlier piece nodes) (was ∙ sym more) in
      same_places (given outputs (earlier ++ piece) nodes) (joined (given outputs earlier nodes) (given_behind outputs earlier piece nodes)) (now ∙ sym was ∙ sym len) (λ j low.
      let within : j < length parents = omega (arith, low, now) in
      given_at outputs setups parents forest count (earlier ++ piece) j within
      ∙ ap (λ (l : List Out). Some l) (goes_on outputs setups parents forest count nothing keeps earlier piece j within)
      ∙ sym (joined_at (given outputs earlier nodes) (given_behind outputs earlier piece nodes) j (given_on outputs setups parents earlier j) (adds_behind outputs setups parents earlier piece j)
      (given_at outputs setups parents forest count earlier j within) (behind_at outputs setups parents forest count earlier (earlier ++ piece) j within)))

  -- the entries of pieces as they were given
  abbrev pieces_given : List ℕ → List (List ℕ) → List Entry
  pieces_given earlier [] = []
  pieces_given earlier (piece ∷ pieces) = all_entries (given_behind outputs earlier piece nodes) ++ pieces_given (earlier ++ piece) pieces

  -- in the order of a listing they are those of the whole
  of_whole : (i : ℕ) (pieces : List (List ℕ)) (earlier : List ℕ) → filter (is_of i) (all_entries (given outputs (earlier ++ all_of pieces) nodes)) ≡ filter (is_of i) (all_entries (given outputs earlier nodes)) ++ filter (is_of i) (pieces_given earlier pieces)
  of_whole i [] earlier = ap (λ (l : List ℕ). filter (is_of i) (all_entries (given outputs l nodes))) (append-nil earlier) ∙ sym (append-nil (filter (is_of i) (all_entries (given outputs earlier nodes))))
  of_whole i (piece ∷ pieces) earlier =
      let was = filter (is_of i) (all_entries (given outputs earlier nodes)) in
      let more = filter (is_of i) (all_entries (given_behind outputs earlier piece nodes)) in
      let rest = filter (is_of i) (pieces_given (earlier ++ piece) pieces) in
      ap (λ (l : List ℕ). filter (is_of i) (all_entries (given outputs l nodes))) (sym (append_assoc earlier piece (all_of pieces)))
      ∙ of_whole i pieces (earlier ++ piece)
      ∙ ap (λ (l : List (List Out)). filter (is_of i) (all_entries l) ++ rest) (given_joined earlier piece)
      ∙ ap (λ (l : List Entry). l ++ rest) (of_joined shows i 0 (given outputs earlier nodes) (given_behind outputs earlier piece nodes)
      (given_len outputs setups parents forest count earlier ∙ sym (behind_len outputs setups parents forest count earlier (earlier ++ piece))))
      ∙ append_assoc was more rest
      ∙ ap (λ (l : List Entry). was ++ l) (sym (filter-append (is_of i) (all_entries (given_behind outputs earlier piece nodes)) (pieces_given (earlier ++ piece) pieces)))

  none_given : all_entries (given outputs [] nodes) ≡ []
  none_given = none_listed shows 0 (given outputs [] nodes) (λ j low.
      let within : j < length parents = omega (arith, low, given_len outputs setups parents forest count []) in
      given_at outputs setups parents forest count [] j within ∙ ap (λ (l : List Out). Some l) (given_none outputs setups parents forest count nothing keeps j within))

  as_given : (pieces : List (List ℕ)) → in_order (pieces_given [] pieces) ≡ listed_notes shows (given outputs (all_of pieces) nodes)
  as_given pieces = instances_make_listing (pieces_given [] pieces) (all_entries (given outputs (all_of pieces) nodes)) (λ i.
      sym (of_whole i pieces [] ∙ ap (λ (l : List Entry). filter (is_of i) l ++ filter (is_of i) (pieces_given [] pieces)) none_given))

  -- each piece may be put in order by itself
  each_ordered : (x : Entry) (pieces : List (List ℕ)) (earlier : List ℕ) → filter (ties is_before x) (notes_of_parts outputs accepted nodes earlier pieces) ≡ filter (ties is_before x) (pieces_given earlier pieces)
  each_ordered x [] earlier = refl
  each_ordered x (piece ∷ pieces) earlier =
      let given_here = all_entries (given_behind outputs earlier piece nodes) in
      filter-append (ties is_before x) (in_order given_here) (notes_of_parts outputs accepted nodes (earlier ++ piece) pieces)
      ∙ (λ k. sorted_is_stable is_before entries_rank given_here x k ++ each_ordered x pieces (earlier ++ piece) k)
      ∙ sym (filter-append (ties is_before x) given_here (pieces_given (earlier ++ piece) pieces))

  lines_are : (pieces : List (List ℕ)) (earlier : List ℕ) → listings_of_parts outputs accepted nodes earlier pieces ≡ note_lines accepted.instances (notes_of_parts outputs accepted nodes earlier pieces)
  lines_are [] earlier = refl
  lines_are (piece ∷ pieces) earlier =
      let notes = listed_notes shows (given_behind outputs earlier piece nodes) in
      ap (λ (l : List ℕ). note_lines accepted.instances notes ++ l) (lines_are pieces (earlier ++ piece))
      ∙ sym (flat_map-append (note_line accepted.instances) notes (notes_of_parts outputs accepted nodes (earlier ++ piece) pieces))

  pub list_the_whole : (pieces : List (List ℕ)) → ListTheWhole outputs accepted nodes pieces
  list_the_whole pieces = record {
    lines = lines_are pieces [];
    notes = ties_make_listing (notes_of_parts outputs accepted nodes [] pieces) (pieces_given [] pieces) (λ x. each_ordered x pieces []) ∙ as_given pieces;
  }
