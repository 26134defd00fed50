-- Entries in order, and entries that are alike: those of each start and instance are the same, in the same order.
use Rattle.std.proofs.Common.{◌≡◌, Bool, true, false, cond, List, [], ◌∷◌, ◌++◌, refl, sym, ◌∙◌, ap, append_assoc}
use Rattle.std.specs.List.{filter}
use Rattle.std.specs.List.Sorted.{ties}
use Rattle.std.proofs.lemmas.List.{append_cancel_left}
use Rattle.std.proofs.lemmas.List.Elements.{filter-append}
use Rattle.note_order.specs.Order.{in_order, is_before}
use Rattle.note_order.specs.Sorting.{inserted}
use Rattle.note_order.specs.declared.entry.Entry.{Entry}
use Rattle.note_order.proofs.Entries.{entries_rank}
use Rattle.note_order.proofs.SortLemmas.{Rises, is_sorted, sorted_is_one, sorted_is_sorted, sorted_is_stable}
use Rattle.annot_merge.specs.Marks.{Begins}
use Rattle.annot_merge.specs.Merging.{InOrder, NoneBefore}

abbrev pub alike_to : Entry → List Entry → List Entry
alike_to x entries = filter (ties is_before x) entries

abbrev pub Alike : List Entry → List Entry → Type 0
Alike entries others = (x : Entry) → alike_to x entries ≡ alike_to x others

pub alike_in_order : (entries others : List Entry) → Alike entries others → in_order entries ≡ in_order others
alike_in_order entries others same = sorted_is_one is_before entries_rank others (in_order entries) (sorted_is_sorted is_before entries_rank entries) (λ x. sorted_is_stable is_before entries_rank entries x ∙ same x)

pub in_order_alike : (entries others : List Entry) → in_order entries ≡ in_order others → Alike entries others
in_order_alike entries others same x = sym (sorted_is_stable is_before entries_rank entries x) ∙ (ap (alike_to x) same ∙ sorted_is_stable is_before entries_rank others x)

rises : (entries : List Entry) → InOrder entries → Rises is_before entries_rank entries
rises [] i = tt
rises (x ∷ []) i = tt
rises (x ∷ y ∷ ys) i = (i.0.0, rises (y ∷ ys) i.1)

-- a list in order is the order of every list like it
pub one_order : (entries others : List Entry) → InOrder entries → Alike entries others → entries ≡ in_order others
one_order entries others ordered same = sorted_is_one is_before entries_rank others entries (is_sorted is_before entries_rank entries (rises entries ordered)) same

pub none_before_chain : (x y : Entry) (ys : List Entry) → is_before y x ≡ false → NoneBefore y ys → NoneBefore x ys
none_before_chain x y [] after none = tt
none_before_chain x y (z ∷ zs) after none = (entries_rank.chain z y x none.0 after, none_before_chain x y zs after none.1)

none_before_inserted : (e x : Entry) (ys : List Entry) → is_before x e ≡ false → NoneBefore e ys → NoneBefore e (inserted is_before x ys)
none_before_inserted e x [] after none = (after, tt)
none_before_inserted e x (y ∷ ys) after none = by (is_before y x) (none_before_inserted e x ys after none.1)
  where
    by : (b : Bool) → NoneBefore e (inserted is_before x ys) → NoneBefore e (cond b (y ∷ inserted is_before x ys) (x ∷ y ∷ ys))
    by true rest = (none.0, rest)
    by false rest = (after, none)

pub none_before_order : (e : Entry) (ys : List Entry) → NoneBefore e ys → NoneBefore e (in_order ys)
none_before_order e [] none = tt
none_before_order e (y ∷ ys) none = none_before_inserted e y (in_order ys) none.0 (none_before_order e ys none.1)

inserted_in_order : (x : Entry) (ys : List Entry) → InOrder ys → InOrder (inserted is_before x ys)
inserted_in_order x [] ordered = (tt, tt)
inserted_in_order x (y ∷ ys) ordered = by (is_before y x) refl (inserted_in_order x ys ordered.1)
  where
    by : (b : Bool) → is_before y x ≡ b → InOrder (inserted is_before x ys) → InOrder (cond b (y ∷ inserted is_before x ys) (x ∷ y ∷ ys))
    by true is rest = (none_before_inserted y x ys (entries_rank.one_way y x is) ordered.0, rest)
    by false is rest = ((is, none_before_chain x y ys is ordered.0), ordered)

pub order_is_in_order : (entries : List Entry) → InOrder (in_order entries)
order_is_in_order [] = tt
order_is_in_order (x ∷ xs) = inserted_in_order x (in_order xs) (order_is_in_order xs)

-- the parts of a list in order
pub front_in_order : (front back : List Entry) → InOrder (front ++ back) → InOrder front
front_in_order [] back ordered = tt
front_in_order (x ∷ xs) back ordered = (none xs ordered.0, front_in_order xs back ordered.1)
  where
    none : (ys : List Entry) → NoneBefore x (ys ++ back) → NoneBefore x ys
    none [] n = tt
    none (y ∷ ys) n = (n.0, none ys n.1)

pub back_in_order : (front back : List Entry) → InOrder (front ++ back) → InOrder back
back_in_order [] back ordered = ordered
back_in_order (x ∷ xs) back ordered = back_in_order xs back ordered.1

pub none_before_append : (e : Entry) (xs ys : List Entry) → NoneBefore e xs → NoneBefore e ys → NoneBefore e (xs ++ ys)
none_before_append e [] ys one other = other
none_before_append e (x ∷ xs) ys one other = (one.0, none_before_append e xs ys one.1 other)

-- one before which none stands comes first
first_inserted : (e : Entry) (ys : List Entry) → NoneBefore e ys → inserted is_before e ys ≡ e ∷ ys
first_inserted e [] none = refl
first_inserted e (y ∷ ys) none = ap (λ (b : Bool). cond b (y ∷ inserted is_before e ys) (e ∷ y ∷ ys)) none.0

pub alike_append : (xs ys zs ws : List Entry) → Alike xs zs → Alike ys ws → Alike (xs ++ ys) (zs ++ ws)
alike_append xs ys zs ws one other x = filter-append (ties is_before x) xs ys ∙ ((λ k. one x k ++ other x k) ∙ sym (filter-append (ties is_before x) zs ws))

-- where a list in order has the entries that were given at its front, and the others are alike to those that are held and those that come later, the first
-- of those held comes next, if none of the others stands before it
pub comes_next : (given rest held later : List Entry) (e : Entry) → InOrder (given ++ rest) → Alike (given ++ rest) ((given ++ e ∷ held) ++ later) → NoneBefore e held → NoneBefore e later → Begins (given ++ e ∷ []) (given ++ rest)
comes_next given rest held later e ordered same none none_later =
    let is : rest ≡ in_order ((e ∷ held) ++ later) = one_order rest ((e ∷ held) ++ later) (back_in_order given rest ordered) behind in
    let first : in_order ((e ∷ held) ++ later) ≡ e ∷ in_order (held ++ later) = first_inserted e (in_order (held ++ later)) (none_before_order e (held ++ later) (none_before_append e held later none none_later)) in
    (in_order (held ++ later), append_assoc given (e ∷ []) (in_order (held ++ later)) ∙ ap (λ (l : List Entry). given ++ l) (sym first ∙ sym is))
  where
    behind : Alike rest ((e ∷ held) ++ later)
    behind x = append_cancel_left (alike_to x given) (alike_to x rest) (alike_to x ((e ∷ held) ++ later))
        (sym (filter-append (ties is_before x) given rest) ∙ (same x ∙ (ap (alike_to x) (append_assoc given (e ∷ held) later) ∙ filter-append (ties is_before x) given ((e ∷ held) ++ later))))
