-- The listing of the instances that are shown.
use Rattle.std.proofs.Common.{◌≡◌, ℕ, ◌+◌, Bool, true, false, cond, List, [], ◌∷◌, ◌++◌, map, refl, sym, ◌∙◌, ap}
use Rattle.std.specs.List.{filter}
use Rattle.std.specs.List.Sorted.{ties}
use Rattle.std.proofs.lemmas.List.Elements.{filter-append}
use Rattle.la_base.specs.declared.wires.Note.{Note}
use Rattle.note_order.specs.Order.{in_order, is_before, entry_of, entries_from, listed}
use Rattle.note_order.specs.declared.entry.Entry.{Entry}
use Rattle.note_order.proofs.Entries.{entries_rank}
use Rattle.note_order.proofs.SortLemmas.{sorted_is_stable}
use Rattle.annot_merge.specs.Merging.{InOrder, NoneBefore}
use Rattle.annot_merge.proofs.Orders.{one_order, order_is_in_order}
use Rattle.stack_laws.specs.Links.{IsFront}
use Rattle.tree_runs.specs.Listings.{where_shown, shown_from}
use Rattle.stack_laws.specs.Listings.{shown_alone}

-- two tests, one after the other, in either order
filters_swap : {X : Type 0} (p q : X → Bool) (xs : List X) → filter p (filter q xs) ≡ filter q (filter p xs)
filters_swap p q [] = refl
filters_swap {X} p q (x ∷ xs) = by (p x) (q x) refl refl (filters_swap p q xs)
  where
    by : (b c : Bool) → p x ≡ b → q x ≡ c → filter p (filter q xs) ≡ filter q (filter p xs) → filter p (cond c (x ∷ filter q xs) (filter q xs)) ≡ filter q (cond b (x ∷ filter p xs) (filter p xs))
    by true true is too rest = (λ i. cond (is i) (x ∷ filter p (filter q xs)) (filter p (filter q xs))) ∙ ap (λ (l : List X). x ∷ l) rest ∙ (λ i. cond (sym too i) (x ∷ filter q (filter p xs)) (filter q (filter p xs)))
    by true false is too rest = rest ∙ (λ i. cond (sym too i) (x ∷ filter q (filter p xs)) (filter q (filter p xs)))
    by false true is too rest = (λ i. cond (is i) (x ∷ filter p (filter q xs)) (filter p (filter q xs))) ∙ rest
    by false false is too rest = rest

none_filter : (p : Entry → Bool) (e : Entry) (xs : List Entry) → NoneBefore e xs → NoneBefore e (filter p xs)
none_filter p e [] none = tt
none_filter p e (x ∷ xs) none = by (p x) (none_filter p e xs none.1)
  where
    by : (b : Bool) → NoneBefore e (filter p xs) → NoneBefore e (cond b (x ∷ filter p xs) (filter p xs))
    by true rest = (none.0, rest)
    by false rest = rest

filter_stays : (p : Entry → Bool) (xs : List Entry) → InOrder xs → InOrder (filter p xs)
filter_stays p [] ordered = tt
filter_stays p (x ∷ xs) ordered = by (p x) (filter_stays p xs ordered.1)
  where
    by : (b : Bool) → InOrder (filter p xs) → InOrder (cond b (x ∷ filter p xs) (filter p xs))
    by true rest = (none_filter p x xs ordered.0, rest)
    by false rest = rest

-- those that pass a test stand in the order in which they stand among all
filter_in_order : (p : Entry → Bool) (xs : List Entry) → filter p (in_order xs) ≡ in_order (filter p xs)
filter_in_order p xs =
    one_order (filter p (in_order xs)) (filter p xs) (filter_stays p (in_order xs) (order_is_in_order xs))
    (λ x. filters_swap (ties is_before x) p (in_order xs) ∙ ap (filter p) (sorted_is_stable is_before entries_rank xs x) ∙ filters_swap p (ties is_before x) xs)

module _ (shown : ℕ → Bool) where
  one_shown : (i : ℕ) (notes : List Note) → shown_alone shown (map (entry_of i) notes) ≡ map (entry_of i) (where_shown (shown i) notes)
  one_shown i notes = by (shown i) refl notes
    where
      by : (b : Bool) → shown i ≡ b → (notes : List Note) → shown_alone shown (map (entry_of i) notes) ≡ map (entry_of i) (where_shown b notes)
      by true is [] = refl
      by true is (note ∷ notes) = (λ k. cond (is k) (entry_of i note ∷ shown_alone shown (map (entry_of i) notes)) (shown_alone shown (map (entry_of i) notes))) ∙ ap (λ (l : List Entry). entry_of i note ∷ l) (by true is notes)
      by false is [] = refl
      by false is (note ∷ notes) = (λ k. cond (is k) (entry_of i note ∷ shown_alone shown (map (entry_of i) notes)) (shown_alone shown (map (entry_of i) notes))) ∙ by false is notes

  all_shown : (i : ℕ) (lists : List (List Note)) → shown_alone shown (entries_from i lists) ≡ entries_from i (shown_from shown i lists)
  all_shown i [] = refl
  all_shown i (notes ∷ lists) =
      filter-append (λ (entry : Entry). shown entry.instance) (map (entry_of i) notes) (entries_from (i + 1) lists) ∙ (λ k. one_shown i notes k ++ all_shown (i + 1) lists k)

  pub shown_listing : (lists : List (List Note)) → shown_alone shown (listed lists) ≡ listed (shown_from shown 0 lists)
  shown_listing lists = filter_in_order (λ (entry : Entry). shown entry.instance) (entries_from 0 lists) ∙ ap in_order (all_shown 0 lists)

  pub shown_front : (printed all : List Entry) → IsFront printed all → IsFront (shown_alone shown printed) (shown_alone shown all)
  shown_front printed all front = (shown_alone shown front.0, ap (shown_alone shown) front.1 ∙ filter-append (λ (entry : Entry). shown entry.instance) printed front.0)
