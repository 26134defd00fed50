-- The order of a listing whose instances give more.
use Rattle.std.proofs.Common.{◌≡◌, ◌≢◌, ℕ, zero, suc, ◌+◌, ◌<◌, ◌==◌, ◌⊎◌, inl, inr, Bool, true, false, cond, List, [], ◌∷◌, ◌++◌, map, refl, sym, ◌∙◌, ap, subst, arith, append_assoc}
use Rattle.std.specs.List.{All, filter, range_with_len}
use Rattle.std.proofs.lemmas.Bool.{cases_eq}
use Rattle.std.proofs.lemmas.Bool.Decides.{nat_tests}
use Rattle.std.proofs.lemmas.List.{append-nil, map-append}
use Rattle.std.proofs.lemmas.List.Elements.{All-head, All-tail, filter-append}
use Rattle.la_base.specs.declared.wires.Mark.{Mark}
use Rattle.la_base.specs.declared.wires.Note.{Note}
use Rattle.note_order.specs.Order.{in_order, is_before, is_of, entry_of, entries_from, listed}
use Rattle.note_order.specs.declared.entry.Entry.{Entry}
use Rattle.annot_merge.specs.Marks.{notes_from, notes_in, sorted_notes}
use Rattle.annot_merge.specs.Merging.{InOrder, NoneBefore}
use Rattle.annot_merge.proofs.Orders.{alike_append, alike_to, none_before_append, none_before_order, one_order, order_is_in_order}
use Rattle.note_order.proofs.Entries.{entries_rank, instances_make_listing}
use Rattle.note_order.proofs.SortLemmas.{sorted_is_stable}
use Rattle.stack_laws.specs.Legal.{NoNoteBefore}

-- none of the others stands before one of the first
abbrev Behind : List Entry → List Entry → Type 0
Behind [] others = Unit {0}
Behind (x ∷ firsts) others = NoneBefore x others × Behind firsts others

none_front : (e : Entry) (xs ys : List Entry) → NoneBefore e (xs ++ ys) → NoneBefore e xs
none_front e [] ys none = tt
none_front e (x ∷ xs) ys none = (none.0, none_front e xs ys none.1)

none_back : (e : Entry) (xs ys : List Entry) → NoneBefore e (xs ++ ys) → NoneBefore e ys
none_back e [] ys none = none
none_back e (x ∷ xs) ys none = none_back e xs ys none.1

-- more entries that stand before none of the first are put in order behind these
firsts_stay : (firsts held more : List Entry) → InOrder (firsts ++ held) → Behind firsts more → InOrder (firsts ++ in_order (held ++ more))
firsts_stay [] held more ordered behind = order_is_in_order (held ++ more)
firsts_stay (x ∷ firsts) held more ordered behind = (
  none_before_append x firsts (in_order (held ++ more)) (none_front x firsts held ordered.0)
      (none_before_order x (held ++ more) (none_before_append x held more (none_back x firsts held ordered.0) behind.0)),
  firsts_stay firsts held more ordered.1 behind.1,
)

order_grows : (entries more firsts held : List Entry) → in_order entries ≡ firsts ++ held → Behind firsts more → in_order (entries ++ more) ≡ firsts ++ in_order (held ++ more)
order_grows entries more firsts held is behind =
    sym (one_order (firsts ++ in_order (held ++ more)) (entries ++ more) (firsts_stay firsts held more (subst InOrder is (order_is_in_order entries)) behind) (λ x.
    alike_append firsts (in_order (held ++ more)) firsts (held ++ more) (λ y. refl) (sorted_is_stable is_before entries_rank (held ++ more)) x
    ∙ ap (alike_to x) (sym (append_assoc firsts held more))
    ∙ alike_append (firsts ++ held) more entries more (λ y. ap (alike_to y) (sym is) ∙ sorted_is_stable is_before entries_rank entries y) (λ y. refl) x))

-- the entries of instances by their places
abbrev entries_by : (ℕ → List Note) → ℕ → ℕ → List Entry
entries_by notes a n = entries_from a (map notes (range_with_len a n))

own : (k : ℕ) (notes : List Note) → filter (is_of k) (map (entry_of k) notes) ≡ map (entry_of k) notes
own k [] = refl
own k (note ∷ notes) =
    let same : (k == k) ≡ true = grind (arith, nat_tests) in
    ap (λ (b : Bool). cond b (entry_of k note ∷ filter (is_of k) (map (entry_of k) notes)) (filter (is_of k) (map (entry_of k) notes))) same ∙ ap (λ (l : List Entry). entry_of k note ∷ l) (own k notes)

others : (k a : ℕ) → a ≢ k → (notes : List Note) → filter (is_of k) (map (entry_of a) notes) ≡ []
others k a apart [] = refl
others k a apart (note ∷ notes) =
    let differ : (a == k) ≡ false = grind (arith, nat_tests) in
    ap (λ (b : Bool). cond b (entry_of a note ∷ filter (is_of k) (map (entry_of a) notes)) (filter (is_of k) (map (entry_of a) notes))) differ ∙ others k a apart notes

outside : (notes : ℕ → List Note) (k a n : ℕ) → k < a → filter (is_of k) (entries_by notes a n) ≡ []
outside notes k a zero low = refl
outside notes k a (suc n) low =
    filter-append (is_of k) (map (entry_of a) (notes a)) (entries_by notes (a + 1) n)
    ∙ (λ i. others k a (λ same. omega (arith, low, same)) (notes a) i ++ outside notes k (a + 1) n (omega (arith, low)) i)

-- of an instance that isn't behind the last, its notes; of any other none
grown_of : (notes more all : ℕ → List Note) (k a n : ℕ) → ((j : ℕ) → j < a + n → all j ≡ notes j ++ more j)
    → filter (is_of k) (entries_by all a n) ≡ filter (is_of k) (entries_by notes a n) ++ filter (is_of k) (entries_by more a n)
grown_of notes more all k a zero is = refl
grown_of notes more all k a (suc n) is =
    filter-append (is_of k) (map (entry_of a) (all a)) (entries_by all (a + 1) n)
    ∙ (λ i. filter (is_of k) (map (entry_of a) (is a (omega arith) i)) ++ grown_of notes more all k (a + 1) n (λ j low. is j (omega (arith, low))) i)
    ∙ by (cases_eq a k)
    ∙ (λ i. sym (filter-append (is_of k) (map (entry_of a) (notes a)) (entries_by notes (a + 1) n)) i ++ sym (filter-append (is_of k) (map (entry_of a) (more a)) (entries_by more (a + 1) n)) i)
  where
    by : (a ≡ k) ⊎ (a ≢ k) → filter (is_of k) (map (entry_of a) (notes a ++ more a)) ++ (filter (is_of k) (entries_by notes (a + 1) n) ++ filter (is_of k) (entries_by more (a + 1) n))
        ≡ (filter (is_of k) (map (entry_of a) (notes a)) ++ filter (is_of k) (entries_by notes (a + 1) n)) ++ (filter (is_of k) (map (entry_of a) (more a)) ++ filter (is_of k) (entries_by more (a + 1) n))
    by (inl same) =
        let none = outside notes k (a + 1) n (omega (arith, same)) in
        let parts = ap (filter (is_of k)) (map-append (entry_of a) (notes a) (more a)) ∙ filter-append (is_of k) (map (entry_of a) (notes a)) (map (entry_of a) (more a)) in
        (λ i. parts i ++ (none i ++ filter (is_of k) (entries_by more (a + 1) n)))
        ∙ append_assoc (filter (is_of k) (map (entry_of a) (notes a))) (filter (is_of k) (map (entry_of a) (more a))) (filter (is_of k) (entries_by more (a + 1) n))
        ∙ ap (λ (l : List Entry). l ++ (filter (is_of k) (map (entry_of a) (more a)) ++ filter (is_of k) (entries_by more (a + 1) n))) (sym (append-nil (filter (is_of k) (map (entry_of a) (notes a)))) ∙ (λ i. filter (is_of k) (map (entry_of a) (notes a)) ++ sym none i))
    by (inr apart) =
        let old = others k a apart (notes a) in
        let new = others k a apart (more a) in
        (λ i. others k a apart (notes a ++ more a) i ++ (filter (is_of k) (entries_by notes (a + 1) n) ++ filter (is_of k) (entries_by more (a + 1) n)))
        ∙ (λ i. (sym old i ++ filter (is_of k) (entries_by notes (a + 1) n)) ++ (sym new i ++ filter (is_of k) (entries_by more (a + 1) n)))

-- in all, its entries are those that it had and those that came
same_entries : (notes more all : ℕ → List Note) (n : ℕ) → ((j : ℕ) → j < n → all j ≡ notes j ++ more j) → in_order (entries_by all 0 n) ≡ in_order (entries_by notes 0 n ++ entries_by more 0 n)
same_entries notes more all n is =
    instances_make_listing (entries_by all 0 n) (entries_by notes 0 n ++ entries_by more 0 n)
    (λ k. grown_of notes more all k 0 n (λ j low. is j (omega (arith, low))) ∙ sym (filter-append (is_of k) (entries_by notes 0 n) (entries_by more 0 n)))

-- where none of the notes of each instance stands before an entry, none of all does
none_noted : (e : Entry) (i : ℕ) (notes : List Note) → All (λ note. is_before (entry_of i note) e ≡ false) notes → NoneBefore e (map (entry_of i) notes)
none_noted e i [] none = tt
none_noted e i (note ∷ notes) none =
    (All-head (λ n. is_before (entry_of i n) e ≡ false) note notes none, none_noted e i notes (All-tail (λ n. is_before (entry_of i n) e ≡ false) note notes none))

none_by : (e : Entry) (notes : ℕ → List Note) (a n : ℕ) → ((j : ℕ) → j < a + n → All (λ note. is_before (entry_of j note) e ≡ false) (notes j)) → NoneBefore e (entries_by notes a n)
none_by e notes a zero each = tt
none_by e notes a (suc n) each =
    none_before_append e (map (entry_of a) (notes a)) (entries_by notes (a + 1) n) (none_noted e a (notes a) (each a (omega arith))) (none_by e notes (a + 1) n (λ j low. each j (omega (arith, low))))

none_of_all : (firsts : List Entry) (more : ℕ → List Note) (n : ℕ) → ((j : ℕ) → j < n → NoNoteBefore firsts j (more j)) → Behind firsts (entries_by more 0 n)
none_of_all [] more n none = tt
none_of_all (x ∷ firsts) more n none = (
  none_by x more 0 n (λ j low. All-head (λ entry. All (λ note. is_before (entry_of j note) entry ≡ false) (more j)) x firsts (none j (omega (arith, low)))),
  none_of_all firsts more n (λ j low. All-tail (λ entry. All (λ note. is_before (entry_of j note) entry ≡ false) (more j)) x firsts (none j low)),
)

-- where the notes of each instance grow by such that don't stand before the first of the listing, these stay its first
pub listing_grows : (notes more all : ℕ → List Note) (n : ℕ) (firsts held : List Entry) → ((j : ℕ) → j < n → all j ≡ notes j ++ more j)
    → listed (map notes (range_with_len 0 n)) ≡ firsts ++ held → ((j : ℕ) → j < n → NoNoteBefore firsts j (more j))
    → listed (map all (range_with_len 0 n)) ≡ firsts ++ in_order (held ++ entries_by more 0 n)
listing_grows notes more all n firsts held is had none =
    same_entries notes more all n is ∙ order_grows (entries_by notes 0 n) (entries_by more 0 n) firsts held had (none_of_all firsts more n none)

-- the notes among the marks of instances, by their places
notes_by : (marks : ℕ → List Mark) (a n : ℕ) → notes_from marks a n ≡ map (λ j. notes_in (marks j)) (range_with_len a n)
notes_by marks a zero = refl
notes_by marks a (suc n) = ap (λ l. notes_in (marks a) ∷ l) (notes_by marks (a + 1) n)

pub sorted_by : (marks : ℕ → List Mark) (n : ℕ) → sorted_notes n marks ≡ listed (map (λ j. notes_in (marks j)) (range_with_len 0 n))
sorted_by marks n = ap listed (notes_by marks 0 n)
