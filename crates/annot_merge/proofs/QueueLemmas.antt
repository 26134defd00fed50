-- The notes that are held, each instance's apart.
use Rattle.std.proofs.Common.{◌≡◌, ◌≢◌, ◌⊎◌, inl, inr, ℕ, zero, suc, ◌+◌, ◌^◌, ◌≤◌, ◌<◌, Bool, true, false, cond, List, [], ◌∷◌, ◌++◌, length, map, set, Option, Some, None, refl, sym, ◌∙◌, ap, subst, append_assoc, arith}
use Rattle.std.proofs.Props.{props}
use Rattle.std.specs.List.{slice_get}
use Rattle.std.specs.List.Sorted.{ties}
use Rattle.std.specs.Ordering.{nat_cmp, ordering_then, is_lt}
use Rattle.std.proofs.lemmas.Bool.{cases_eq, true≢false}
use Rattle.std.proofs.lemmas.Bool.Decides.{nat_tests}
use Rattle.std.proofs.lemmas.List.{append-nil, length-set}
use Rattle.std.proofs.lemmas.Option.{none-some, same_Some, slice_get_within}
use Rattle.std.proofs.lemmas.List.Elements.{filter-append}
use Rattle.note_order.specs.Order.{in_order, is_before}
use Rattle.note_order.specs.Sorting.{inserted}
use Rattle.note_order.specs.declared.entry.Entry.{Entry}
use Rattle.annot_merge.specs.Limits.{Leads}
use Rattle.annot_merge.specs.Merging.{InOrder, NoneBefore, PutsIn}
use Rattle.annot_merge.specs.Queues.{AreOf, AreQueues, Arranged, IsQueue, all_of, head_of}
use Rattle.annot_merge.specs.declared.limit.Lead.{Lead}
use Rattle.annot_merge.proofs.MergeLemmas.{never_ties}
use Rattle.annot_merge.proofs.Orders.{alike_in_order, alike_to, in_order_alike, one_order, none_before_append, none_before_chain, none_before_order, order_is_in_order}

-- notes of an instance, in order
of_inserted : (i : ℕ) (x : Entry) (ys : List Entry) → x.instance ≡ i → AreOf i ys → AreOf i (inserted is_before x ys)
of_inserted i x [] one of = (one, tt)
of_inserted i x (y ∷ ys) one of = by (is_before y x) (of_inserted i x ys one of.1)
  where
    by : (b : Bool) → AreOf i (inserted is_before x ys) → AreOf i (cond b (y ∷ inserted is_before x ys) (x ∷ y ∷ ys))
    by true rest = (of.0, rest)
    by false rest = (one, of)

inserted_of : (i : ℕ) (x : Entry) (ys : List Entry) → AreOf i (inserted is_before x ys) → AreOf i (x ∷ ys)
inserted_of i x [] of = of
inserted_of i x (y ∷ ys) of = by (is_before y x) (inserted_of i x ys) of
  where
    by : (b : Bool) → (AreOf i (inserted is_before x ys) → AreOf i (x ∷ ys)) → AreOf i (cond b (y ∷ inserted is_before x ys) (x ∷ y ∷ ys)) → AreOf i (x ∷ y ∷ ys)
    by true rest o = ((rest o.1).0, (o.0, (rest o.1).1))
    by false rest o = o

of_order : (i : ℕ) (xs : List Entry) → AreOf i xs → AreOf i (in_order xs)
of_order i [] of = tt
of_order i (x ∷ xs) of = of_inserted i x (in_order xs) of.0 (of_order i xs of.1)

order_of : (i : ℕ) (xs : List Entry) → AreOf i (in_order xs) → AreOf i xs
order_of i [] of = tt
order_of i (x ∷ xs) of = let o = inserted_of i x (in_order xs) of in (o.0, order_of i xs o.1)

of_last : (i : ℕ) (xs : List Entry) (e : Entry) → AreOf i xs → e.instance ≡ i → AreOf i (xs ++ e ∷ [])
of_last i [] e of one = (one, tt)
of_last i (x ∷ xs) e of one = (of.0, of_last i xs e of.1 one)

pub puts_of : (i : ℕ) (e : Entry) (old new : List Entry) → PutsIn e old new → e.instance ≡ i → AreOf i old → AreOf i new
puts_of i e old new puts one of = order_of i new (subst (AreOf i) (sym puts.same) (of_order i (old ++ e ∷ []) (of_last i old e of one)))

none_like : (x : Entry) (i : ℕ) (es : List Entry) → x.instance ≢ i → AreOf i es → alike_to x es ≡ []
none_like x i [] differ of = refl
none_like x i (e ∷ es) differ of =
    ap (λ (b : Bool). cond b (e ∷ alike_to x es) (alike_to x es)) (never_ties x e (λ same. differ (same ∙ of.0))) ∙ none_like x i es differ of.1

alike_out : (x : Entry) (k : ℕ) (lists : List (List Entry)) → AreQueues k lists → x.instance < k → alike_to x (all_of lists) ≡ []
alike_out x k [] q below = refl
alike_out x k (l ∷ ls) q below =
    filter-append (ties is_before x) l (all_of ls)
    ∙ (λ n. none_like x k l (λ same. omega (arith, same, below)) q.0.of n ++ alike_out x (suc k) ls q.1 (omega (arith, below)) n)

-- one queue of all
get_queue : (k : ℕ) (lists : List (List Entry)) (i : ℕ) (list : List Entry) → AreQueues k lists → slice_get lists i ≡ Some list → IsQueue (k + i) list
get_queue k [] i list q at = absurd (none-some list at)
get_queue k (l ∷ ls) zero list q at = subst (λ (n : ℕ). IsQueue n list) (omega arith) (subst (IsQueue k) (same_Some l list at) q.0)
get_queue k (l ∷ ls) (suc i) list q at = subst (λ (n : ℕ). IsQueue n list) (omega arith) (get_queue (suc k) ls i list q.1 at)

set_queue : (k : ℕ) (lists : List (List Entry)) (i : ℕ) (list : List Entry) → AreQueues k lists → IsQueue (k + i) list → AreQueues k (set lists i list)
set_queue k [] i list q is = tt
set_queue k (l ∷ ls) zero list q is = (subst (λ (n : ℕ). IsQueue n list) (omega arith) is, q.1)
set_queue k (l ∷ ls) (suc i) list q is = (q.0, set_queue (suc k) ls i list q.1 (subst (λ (n : ℕ). IsQueue n list) (omega arith) is))

pub queue_at : (lists : List (List Entry)) (i : ℕ) (list : List Entry) → AreQueues 0 lists → slice_get lists i ≡ Some list → IsQueue i list
queue_at lists i list q at = let sum : 0 + i ≡ i = omega arith in subst (λ (n : ℕ). IsQueue n list) sum (get_queue 0 lists i list q at)

-- a note more
put_alike : (k : ℕ) (lists : List (List Entry)) (i : ℕ) (old new : List Entry) (e x : Entry) → AreQueues k lists → slice_get lists i ≡ Some old → e.instance ≡ k + i
    → alike_to x new ≡ alike_to x old ++ alike_to x (e ∷ []) → alike_to x (all_of (set lists i new)) ≡ alike_to x (all_of lists) ++ alike_to x (e ∷ [])
put_alike k [] i old new e x q at one like = absurd (none-some old at)
put_alike k (l ∷ ls) zero old new e x q at one like =
    filter-append (ties is_before x) new (all_of ls)
    ∙ (ap (λ (z : List Entry). z ++ alike_to x (all_of ls)) (like ∙ ap (λ (z : List Entry). alike_to x z ++ alike_to x (e ∷ [])) (sym (same_Some l old at)))
    ∙ (append_assoc (alike_to x l) (alike_to x (e ∷ [])) (alike_to x (all_of ls))
    ∙ (ap (λ (z : List Entry). alike_to x l ++ z) (swap (cases_eq x.instance e.instance))
    ∙ (sym (append_assoc (alike_to x l) (alike_to x (all_of ls)) (alike_to x (e ∷ [])))
    ∙ ap (λ (z : List Entry). z ++ alike_to x (e ∷ [])) (sym (filter-append (ties is_before x) l (all_of ls)))))))
  where
    swap : (x.instance ≡ e.instance) ⊎ (x.instance ≢ e.instance) → alike_to x (e ∷ []) ++ alike_to x (all_of ls) ≡ alike_to x (all_of ls) ++ alike_to x (e ∷ [])
    swap (inl same) =
        let none = alike_out x (suc k) ls q.1 (omega (arith, same, one)) in
        ap (λ (z : List Entry). alike_to x (e ∷ []) ++ z) none ∙ (append-nil (alike_to x (e ∷ [])) ∙ ap (λ (z : List Entry). z ++ alike_to x (e ∷ [])) (sym none))
    swap (inr differ) =
        let none = none_like x e.instance (e ∷ []) differ (refl, tt) in
        ap (λ (z : List Entry). z ++ alike_to x (all_of ls)) none ∙ (sym (append-nil (alike_to x (all_of ls))) ∙ ap (λ (z : List Entry). alike_to x (all_of ls) ++ z) (sym none))
put_alike k (l ∷ ls) (suc i) old new e x q at one like =
    filter-append (ties is_before x) l (all_of (set ls i new))
    ∙ (ap (λ (z : List Entry). alike_to x l ++ z) (put_alike (suc k) ls i old new e x q.1 at (omega (arith, one)) like)
    ∙ (sym (append_assoc (alike_to x l) (alike_to x (all_of ls)) (alike_to x (e ∷ [])))
    ∙ ap (λ (z : List Entry). z ++ alike_to x (e ∷ [])) (sym (filter-append (ties is_before x) l (all_of ls)))))

pub puts_in_all : (lists : List (List Entry)) (i : ℕ) (old new : List Entry) (e : Entry) → AreQueues 0 lists → slice_get lists i ≡ Some old → e.instance ≡ i → PutsIn e old new
    → PutsIn e (in_order (all_of lists)) (in_order (all_of (set lists i new)))
puts_in_all lists i old new e q at one puts = record {
  ordered = order_is_in_order (all_of (set lists i new));
  same = alike_in_order (in_order (all_of (set lists i new))) (in_order (all_of lists) ++ e ∷ []) (λ x.
      sorted_like (all_of (set lists i new)) x
      ∙ (put_alike 0 lists i old new e x q at (omega (arith, one)) (in_order_alike new (old ++ e ∷ []) puts.same x ∙ filter-append (ties is_before x) old (e ∷ []))
      ∙ (ap (λ (z : List Entry). z ++ alike_to x (e ∷ [])) (sym (sorted_like (all_of lists) x)) ∙ sym (filter-append (ties is_before x) (in_order (all_of lists)) (e ∷ [])))));
}
  where
    sorted_like : (xs : List Entry) (x : Entry) → alike_to x (in_order xs) ≡ alike_to x xs
    sorted_like xs x = sym (in_order_alike xs (in_order xs) (sym (sorted_again xs)) x)
      where
        sorted_again : (ys : List Entry) → in_order (in_order ys) ≡ in_order ys
        sorted_again ys = sym (one_order (in_order ys) (in_order ys) (order_is_in_order ys) (λ z. refl))

-- a note less
take_alike : (k : ℕ) (lists : List (List Entry)) (i : ℕ) (e : Entry) (rest : List Entry) (x : Entry) → AreQueues k lists → slice_get lists i ≡ Some (e ∷ rest) → e.instance ≡ k + i
    → alike_to x (all_of lists) ≡ alike_to x (e ∷ all_of (set lists i rest))
take_alike k [] i e rest x q at one = absurd (none-some (e ∷ rest) at)
take_alike k (l ∷ ls) zero e rest x q at one = ap (λ (z : List Entry). alike_to x (z ++ all_of ls)) (same_Some l (e ∷ rest) at)
take_alike k (l ∷ ls) (suc i) e rest x q at one =
    filter-append (ties is_before x) l (all_of ls)
    ∙ (ap (λ (z : List Entry). alike_to x l ++ z) (take_alike (suc k) ls i e rest x q.1 at (omega (arith, one)))
    ∙ (ap (λ (z : List Entry). alike_to x l ++ z) (filter-append (ties is_before x) (e ∷ []) (all_of (set ls i rest)))
    ∙ (swap (cases_eq x.instance e.instance)
    ∙ (ap (λ (z : List Entry). alike_to x (e ∷ []) ++ z) (sym (filter-append (ties is_before x) l (all_of (set ls i rest))))
    ∙ sym (filter-append (ties is_before x) (e ∷ []) (l ++ all_of (set ls i rest)))))))
  where
    swap : (x.instance ≡ e.instance) ⊎ (x.instance ≢ e.instance) → alike_to x l ++ (alike_to x (e ∷ []) ++ alike_to x (all_of (set ls i rest))) ≡ alike_to x (e ∷ []) ++ (alike_to x l ++ alike_to x (all_of (set ls i rest)))
    swap (inl same) =
        let none = none_like x k l (λ is. omega (arith, is, same, one)) q.0.of in
        ap (λ (z : List Entry). z ++ (alike_to x (e ∷ []) ++ alike_to x (all_of (set ls i rest)))) none
        ∙ ap (λ (z : List Entry). alike_to x (e ∷ []) ++ (z ++ alike_to x (all_of (set ls i rest)))) (sym none)
    swap (inr differ) =
        let none = none_like x e.instance (e ∷ []) differ (refl, tt) in
        ap (λ (z : List Entry). alike_to x l ++ (z ++ alike_to x (all_of (set ls i rest)))) none
        ∙ ap (λ (z : List Entry). z ++ (alike_to x l ++ alike_to x (all_of (set ls i rest)))) (sym none)

none_before_all : (e : Entry) (k : ℕ) (lists : List (List Entry)) → AreQueues k lists → ((i : ℕ) (h : Entry) (t : List Entry) → slice_get lists i ≡ Some (h ∷ t) → is_before h e ≡ false) → NoneBefore e (all_of lists)
none_before_all e k [] q heads = tt
none_before_all e k (l ∷ ls) q heads = none_before_append e l (all_of ls) (by l refl) (none_before_all e (suc k) ls q.1 (λ i h t at. heads (suc i) h t at))
  where
    by : (m : List Entry) → l ≡ m → NoneBefore e m
    by [] is = tt
    by (h ∷ t) is =
        let after = heads zero h t (ap (λ (z : List Entry). Some z) is) in
        let ordered : InOrder (h ∷ t) = subst InOrder is q.0.ordered in
        (after, none_before_chain e h t after ordered.0)

first_inserted_back : (e : Entry) (ys : List Entry) → NoneBefore e (inserted is_before e ys) → inserted is_before e ys ≡ e ∷ ys
first_inserted_back e [] none = refl
first_inserted_back e (y ∷ ys) none = by (is_before y e) refl none
  where
    by : (b : Bool) → is_before y e ≡ b → NoneBefore e (cond b (y ∷ inserted is_before e ys) (e ∷ y ∷ ys)) → cond b (y ∷ inserted is_before e ys) (e ∷ y ∷ ys) ≡ e ∷ y ∷ ys
    by true is n = absurd (true≢false (sym is ∙ n.0))
    by false is n = refl

pub get_map : {X Y : Type 0} (f : X → Y) (xs : List X) (i : ℕ) (x : X) → slice_get xs i ≡ Some x → slice_get (map f xs) i ≡ Some (f x)
get_map f [] i x at = absurd (none-some x at)
get_map f (y ∷ ys) zero x at = ap (λ z. Some (f z)) (same_Some y x at)
get_map f (y ∷ ys) (suc i) x at = get_map f ys i x at

pub map_set : {X Y : Type 0} (f : X → Y) (xs : List X) (i : ℕ) (x : X) → map f (set xs i x) ≡ set (map f xs) i (f x)
map_set f [] i x = refl
map_set f (y ∷ ys) zero x = refl
map_set f (y ∷ ys) (suc i) x = ap (λ zs. f y ∷ zs) (map_set f ys i x)

pub map_length : {X Y : Type 0} (f : X → Y) (xs : List X) → length (map f xs) ≡ length xs
map_length f [] = refl
map_length f (x ∷ xs) = ap suc (map_length f xs)

not_sooner : (a b i j : ℕ) → b ≤ a → (a ≡ b → j ≤ i) → is_lt (ordering_then (nat_cmp a b) (nat_cmp i j)) ≡ false
not_sooner a b i j start instance = grind (arith, nat_tests, start, instance)

-- the first of the least queue starts there
pub first_starts : (lists : List (List Entry)) (heads : List (Option ℕ)) (lead : Lead) (e : Entry) (rest : List Entry) → Arranged lists heads lead → slice_get lists lead.least.instance ≡ Some (e ∷ rest) → e.note.start ≡ lead.least.start
first_starts lists heads lead e rest a at = elim a.leads.least_is.reached [
  | inl reached ↦ same_Some e.note.start lead.least.start (same_Some (Some e.note.start) (Some lead.least.start) (sym (ap (λ (l : List (Option ℕ)). slice_get l lead.least.instance) a.heads_are ∙ get_map head_of lists lead.least.instance (e ∷ rest) at) ∙ reached))
  | inr top ↦ absurd (omega (arith, top.1, slice_get_within lists lead.least.instance (e ∷ rest) at, a.few))
]

-- the first of all is the first of the least queue
pub takes_first : (lists : List (List Entry)) (heads : List (Option ℕ)) (lead : Lead) (e : Entry) (rest : List Entry) → Arranged lists heads lead → slice_get lists lead.least.instance ≡ Some (e ∷ rest)
    → in_order (all_of lists) ≡ e ∷ in_order (all_of (set lists lead.least.instance rest))
takes_first lists heads lead e rest a at =
    let one : e.instance ≡ lead.least.instance = (queue_at lists lead.least.instance (e ∷ rest) a.queues at).of.0 in
    let is : in_order (all_of lists) ≡ inserted is_before e (in_order (all_of (set lists lead.least.instance rest))) =
    alike_in_order (all_of lists) (e ∷ all_of (set lists lead.least.instance rest)) (λ x. take_alike 0 lists lead.least.instance e rest x a.queues at (omega (arith, one))) in
    let none = none_before_order e (all_of lists) (none_before_all e 0 lists a.queues (λ i h t got. after i h t got one)) in
    is ∙ first_inserted_back e (in_order (all_of (set lists lead.least.instance rest))) (subst (NoneBefore e) is none)
  where
    head_at : (i : ℕ) (list : List Entry) → slice_get lists i ≡ Some list → slice_get heads i ≡ Some (head_of list)
    head_at i list got = ap (λ (l : List (Option ℕ)). slice_get l i) a.heads_are ∙ get_map head_of lists i list got

    after : (i : ℕ) (h : Entry) (t : List Entry) → slice_get lists i ≡ Some (h ∷ t) → e.instance ≡ lead.least.instance → is_before h e ≡ false
    after i h t got one =
        let below = a.leads.least_is.within i (Some h.note.start) (head_at i (h ∷ t) got) in
        let mine : h.instance ≡ i = (queue_at lists i (h ∷ t) a.queues got).of.0 in
        let s = first_starts lists heads lead e rest a at in
        let b = below.1 in
        not_sooner h.note.start e.note.start h.instance e.instance (omega (arith, below.0, s)) (λ same. omega (arith, b, same, s, mine, one))

-- no queue holds a note where the least is none of them
all_empty : (lists : List (List Entry)) → ((i : ℕ) (h : Entry) (t : List Entry) → slice_get lists i ≡ Some (h ∷ t) → ⊥) → all_of lists ≡ []
all_empty [] never = refl
all_empty ([] ∷ ls) never = all_empty ls (λ i h t at. never (suc i) h t at)
all_empty ((e ∷ l) ∷ ls) never = absurd (never zero e l refl)

pub holds_none : (lists : List (List Entry)) (heads : List (Option ℕ)) (lead : Lead) → Arranged lists heads lead → length lists ≤ lead.least.instance → in_order (all_of lists) ≡ []
holds_none lists heads lead a past = ap in_order (all_empty lists (λ i h t got.
    let at : slice_get heads i ≡ Some (Some h.note.start) = ap (λ (l : List (Option ℕ)). slice_get l i) a.heads_are ∙ get_map head_of lists i (h ∷ t) got in
    let below = a.leads.least_is.within i (Some h.note.start) at in
    let within = slice_get_within lists i (h ∷ t) got in
    let fits : h.note.start < 2 ^ 64 = (queue_at lists i (h ∷ t) a.queues got).fits in
    elim a.leads.least_is.reached [
      | inl reached ↦ omega (arith, past, slice_get_within heads lead.least.instance (Some lead.least.start) reached, ap length a.heads_are, map_length head_of lists)
      | inr top ↦ (let b = below.1 in omega (arith, top.0, top.1, fits, below.0, b, within, a.few))
    ]))

-- the least queue holds a note
pub holds_some : (lists : List (List Entry)) (heads : List (Option ℕ)) (lead : Lead) → Arranged lists heads lead → lead.least.instance < length lists → slice_get lists lead.least.instance ≡ Some [] → ⊥
holds_some lists heads lead a within at =
    let empty : slice_get heads lead.least.instance ≡ Some None = ap (λ (l : List (Option ℕ)). slice_get l lead.least.instance) a.heads_are ∙ get_map head_of lists lead.least.instance [] at in
    elim a.leads.least_is.reached [
      | inl reached ↦ none-some lead.least.start (same_Some None (Some lead.least.start) (sym empty ∙ reached))
      | inr top ↦ omega (arith, top.1, within, a.few)
    ]

pub set_same : {X : Type 0} (xs : List X) (i : ℕ) (x : X) → slice_get xs i ≡ Some x → set xs i x ≡ xs
set_same [] i x at = refl
set_same (y ∷ ys) zero x at = ap (λ z. z ∷ ys) (sym (same_Some y x at))
set_same (y ∷ ys) (suc i) x at = ap (λ zs. y ∷ zs) (set_same ys i x at)

-- one queue changes
pub arranged_set : (lists : List (List Entry)) (heads : List (Option ℕ)) (lead : Lead) (i : ℕ) (list : List Entry) (now : List (Option ℕ)) (moved : Lead) → Arranged lists heads lead → IsQueue i list
    → now ≡ set heads i (head_of list) → (Leads heads lead → Leads now moved) → Arranged (set lists i list) now moved
arranged_set lists heads lead i list now moved a queue is limits = record {
  queues = let sum : i ≡ 0 + i = omega arith in set_queue 0 lists i list a.queues (subst (λ (n : ℕ). IsQueue n list) sum queue);
  heads_are = is ∙ (ap (λ (l : List (Option ℕ)). set l i (head_of list)) a.heads_are ∙ sym (map_set head_of lists i list));
  leads = limits a.leads;
  few = subst (λ (n : ℕ). n < 2 ^ 32) (sym (length-set lists i list)) a.few;
}

-- of facts of which it is known that there are some
pub same_entries : (xs ys : List Entry) → IsProp (xs ≡ ys)
same_entries xs ys = Prim.hlevel props

pub order_length : (xs : List Entry) → length (in_order xs) ≡ length xs
order_length [] = refl
order_length (x ∷ xs) = inserted_length x (in_order xs) ∙ ap suc (order_length xs)
  where
    inserted_length : (x : Entry) (ys : List Entry) → length (inserted is_before x ys) ≡ suc (length ys)
    inserted_length x [] = refl
    inserted_length x (y ∷ ys) = by (is_before y x) (inserted_length x ys)
      where
        by : (b : Bool) → length (inserted is_before x ys) ≡ suc (length ys) → length (cond b (y ∷ inserted is_before x ys) (x ∷ y ∷ ys)) ≡ suc (length (y ∷ ys))
        by true is = ap suc is
        by false is = refl
