-- The order of entries is one, and follows from the entries of each instance.
use Rattle.std.proofs.Common.{◌≡◌, ℕ, Bool, true, false, not, cond, ◌&&◌, List, [], ◌∷◌, refl, sym, ◌∙◌, ap, arith}
use Rattle.std.specs.Cmp.{IsTotalOrder, IsStrictWeakOrder}
use Rattle.std.specs.List.{filter}
use Rattle.std.specs.List.Sorted.{ties}
use Rattle.std.specs.Ordering.{nat_cmp, ordering_then, is_lt}
use Rattle.std.proofs.lemmas.Bool.Decides.{nat_tests}
use Rattle.std.proofs.lemmas.Cmp.{nat_cmp_total, on_total, then_total}
use Rattle.std.proofs.lemmas.List.Sorted.{ranks_by}
use Rattle.note_order.specs.Order.{entry_cmp, in_order, is_before, is_of}
use Rattle.note_order.specs.declared.entry.Entry.{Entry}
use Rattle.note_order.proofs.SortLemmas.{sorted_is_one, sorted_is_sorted, sorted_is_stable}

entries_total : IsTotalOrder entry_cmp
entries_total = then_total (on_total (λ (e : Entry). e.note.start) nat_cmp_total) (on_total (λ (e : Entry). e.instance) nat_cmp_total)

pub entries_rank : IsStrictWeakOrder is_before
entries_rank = ranks_by entries_total (λ (e : Entry). e)

-- of what passes one test, what passes another that passes no more
filter_within : {X : Type 0} (p q : X → Bool) → ((x : X) → p x ≡ true → q x ≡ true) → (xs : List X) → filter p (filter q xs) ≡ filter p xs
filter_within p q also [] = refl
filter_within {X} p q also (x ∷ xs) = by (p x) (q x) refl refl (filter_within p q also xs)
  where
    by : (b c : Bool) → p x ≡ b → q x ≡ c → filter p (filter q xs) ≡ filter p xs → filter p (cond c (x ∷ filter q xs) (filter q xs)) ≡ cond b (x ∷ filter p xs) (filter p xs)
    by true true is too rest = ap (λ (d : Bool). cond d (x ∷ filter p (filter q xs)) (filter p (filter q xs))) is ∙ ap (λ (l : List X). x ∷ l) rest
    by true false is too rest = let e = sym too ∙ also x is in cc
    by false true is too rest = ap (λ (d : Bool). cond d (x ∷ filter p (filter q xs)) (filter p (filter q xs))) is ∙ rest
    by false false is too rest = rest

-- entries that tie are of one instance
ties_alike : (a b i j : ℕ) → (not (is_lt (ordering_then (nat_cmp a b) (nat_cmp i j))) && not (is_lt (ordering_then (nat_cmp b a) (nat_cmp j i)))) ≡ true → i ≡ j
ties_alike a b i j tie = grind (arith, nat_tests)

one_instance : (x y : Entry) → ties is_before x y ≡ true → is_of x.instance y ≡ true
one_instance x y tie = let same : x.instance ≡ y.instance = ties_alike x.note.start y.note.start x.instance y.instance tie in grind (arith, nat_tests)

-- two lists with the same ties in the same order have one listing
pub ties_make_listing : (entries others : List Entry) → ((x : Entry) → filter (ties is_before x) entries ≡ filter (ties is_before x) others) → in_order entries ≡ in_order others
ties_make_listing entries others same =
    sorted_is_one is_before entries_rank others (in_order entries) (sorted_is_sorted is_before entries_rank entries) (λ x. sorted_is_stable is_before entries_rank entries x ∙ same x)

pub instances_make_listing : (entries others : List Entry) → ((instance : ℕ) → filter (is_of instance) entries ≡ filter (is_of instance) others) → in_order entries ≡ in_order others
instances_make_listing entries others same = ties_make_listing entries others (λ x.
    sym (filter_within (ties is_before x) (is_of x.instance) (one_instance x) entries)
    ∙ ap (filter (ties is_before x)) (same x.instance)
    ∙ filter_within (ties is_before x) (is_of x.instance) (one_instance x) others)
