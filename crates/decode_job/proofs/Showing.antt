-- The notes that are shown, in order.
use Rattle.std.proofs.Common.{◌≡◌, ℕ, ◌+◌, Bool, true, false, cond, List, [], ◌∷◌, ◌++◌, map, refl, sym, ◌∙◌, ap}
use Rattle.std.specs.List.{filter}
use Rattle.std.specs.List.Sorted.{ties}
use Rattle.std.proofs.lemmas.List.Elements.{filter-append}
use Rattle.la_base.specs.declared.wires.Note.{Note}
use Rattle.note_order.specs.Order.{entries_from, entry_of, in_order, is_before, listed}
use Rattle.note_order.specs.declared.entry.Entry.{Entry}
use Rattle.annot_merge.specs.Merging.{InOrder, NoneBefore}
use Rattle.annot_merge.proofs.Orders.{in_order_alike, one_order, order_is_in_order}
use Rattle.note_lister.specs.Lines.{has_shown, shown_entries}
use Rattle.stack_words.specs.Accepting.{Accepted, is_shown}
use Rattle.tree_runs.specs.Listings.{shown_from, where_shown}

-- two tests, one after another
filter_swap : {X : Type 0} (p q : X → Bool) (xs : List X) → filter p (filter q xs) ≡ filter q (filter p xs)
filter_swap p q [] = refl
filter_swap {X} p q (x ∷ xs) = by (p x) (q x) refl refl (filter_swap p q xs)
  where
    by : (b c : Bool) → p x ≡ b → q x ≡ c → filter p (filter q xs) ≡ filter q (filter p xs) → filter p (cond c (x ∷ filter q xs) (filter q xs)) ≡ filter q (cond b (x ∷ filter p xs) (filter p xs))
    by true true a b rest = ap (λ (d : Bool). cond d (x ∷ filter p (filter q xs)) (filter p (filter q xs))) a ∙ (ap (λ (l : List X). x ∷ l) rest ∙ sym (ap (λ (d : Bool). cond d (x ∷ filter q (filter p xs)) (filter q (filter p xs))) b))
    by true false a b rest = rest ∙ sym (ap (λ (d : Bool). cond d (x ∷ filter q (filter p xs)) (filter q (filter p xs))) b)
    by false true a b rest = ap (λ (d : Bool). cond d (x ∷ filter p (filter q xs)) (filter p (filter q xs))) a ∙ rest
    by false false a b rest = rest

-- what is left of a list in order is in order
none_left : (p : Entry → Bool) (e : Entry) (xs : List Entry) → NoneBefore e xs → NoneBefore e (filter p xs)
none_left p e [] none = tt
none_left p e (x ∷ xs) none = by (p x) (none_left p e xs none.1)
  where
    by : (b : Bool) → NoneBefore e (filter p xs) → NoneBefore e (cond b (x ∷ filter p xs) (filter p xs))
    by true rest = (none.0, rest)
    by false rest = rest

left_in_order : (p : Entry → Bool) (xs : List Entry) → InOrder xs → InOrder (filter p xs)
left_in_order p [] ordered = tt
left_in_order p (x ∷ xs) ordered = by (p x) (left_in_order p xs ordered.1)
  where
    by : (b : Bool) → InOrder (filter p xs) → InOrder (cond b (x ∷ filter p xs) (filter p xs))
    by true rest = (none_left p x xs ordered.0, rest)
    by false rest = rest

order_of_left : (p : Entry → Bool) (xs : List Entry) → filter p (in_order xs) ≡ in_order (filter p xs)
order_of_left p xs = one_order (filter p (in_order xs)) (filter p xs) (left_in_order p (in_order xs) (order_is_in_order xs)) (λ x.
    filter_swap (ties is_before x) p (in_order xs)
    ∙ (ap (filter p) (in_order_alike (in_order xs) xs (sym (one_order (in_order xs) (in_order xs) (order_is_in_order xs) (λ y. refl))) x)
    ∙ filter_swap p (ties is_before x) xs))

module _ (accepted : Accepted) where
  abbrev seen : Entry → Bool
  seen = has_shown accepted

  -- those of one instance
  one_seen : (i : ℕ) (notes : List Note) → filter seen (map (entry_of i) notes) ≡ map (entry_of i) (where_shown (is_shown accepted.shown i) notes)
  one_seen i notes = by (is_shown accepted.shown i) refl notes
    where
      by : (b : Bool) → is_shown accepted.shown i ≡ b → (list : List Note) → filter seen (map (entry_of i) list) ≡ map (entry_of i) (where_shown b list)
      by true is [] = refl
      by true is (note ∷ list) = ap (λ (d : Bool). cond d (entry_of i note ∷ filter seen (map (entry_of i) list)) (filter seen (map (entry_of i) list))) is ∙ ap (λ (l : List Entry). entry_of i note ∷ l) (by true is list)
      by false is [] = refl
      by false is (note ∷ list) = ap (λ (d : Bool). cond d (entry_of i note ∷ filter seen (map (entry_of i) list)) (filter seen (map (entry_of i) list))) is ∙ by false is list

  all_seen : (first : ℕ) (notes : List (List Note)) → filter seen (entries_from first notes) ≡ entries_from first (shown_from (is_shown accepted.shown) first notes)
  all_seen first [] = refl
  all_seen first (list ∷ notes) =
      filter-append seen (map (entry_of first) list) (entries_from (first + 1) notes)
      ∙ (λ k. one_seen first list k ++ all_seen (first + 1) notes k)

  -- those that are shown, of all notes in order
  pub shown_notes : (notes : List (List Note)) → shown_entries accepted (listed notes) ≡ listed (shown_from (is_shown accepted.shown) 0 notes)
  shown_notes notes = order_of_left seen (entries_from 0 notes) ∙ ap in_order (all_seen 0 notes)
