-- A note that is put among those in order.
use Rattle.std.proofs.Common.{◌≡◌, ℕ, zero, suc, ◌+◌, ◌-◌, ◌≤◌, ◌<◌, Bool, true, false, not, cond, ◌&&◌, List, [], ◌∷◌, ◌++◌, length, get_or, take, drop, refl, sym, ◌∙◌, ap, subst, append_assoc, arith}
use Rattle.std.specs.List.{HoldsAt, insert}
use Rattle.std.specs.List.Sorted.{ties}
use Rattle.std.proofs.Math.Seq.{drop-nil}
use Rattle.std.proofs.lemmas.Bool.{true≢false}
use Rattle.std.proofs.lemmas.List.{append-nil, drop-append-le, drop-drop, drop-take, drop_more, get_or-drop, get_or-take, length-append, length-drop, length-take-le, take-append-drop}
use Rattle.std.proofs.lemmas.List.Elements.{filter-append}
use Rattle.note_order.specs.Order.{is_before}
use Rattle.note_order.specs.declared.entry.Entry.{Entry}
use Rattle.note_order.proofs.Entries.{entries_rank}
use Rattle.std.proofs.lemmas.List.Edits.{insert_end}
use Rattle.annot_merge.specs.Queues.{head_of}
use Rattle.annot_merge.specs.Merging.{InOrder, NoneBefore, PutsIn}
use Rattle.annot_merge.proofs.Orders.{Alike, alike_in_order, alike_to, back_in_order, front_in_order}

-- an entry stands before none of these
abbrev NotBefore : Entry → List Entry → Type 0
NotBefore e [] = Unit {0}
NotBefore e (x ∷ xs) = (is_before e x ≡ false) × NotBefore e xs

-- an entry stands before each of these
abbrev BeforeEach : Entry → List Entry → Type 0
BeforeEach e [] = Unit {0}
BeforeEach e (x ∷ xs) = (is_before e x ≡ true) × BeforeEach e xs

not_before : (e : Entry) (xs : List Entry) → InOrder xs → (0 < length xs → HoldsAt (λ x. is_before e x ≡ false) xs (length xs - 1)) → NotBefore e xs
not_before e [] ordered last = tt
not_before e (x ∷ []) ordered last = (last (omega arith) x, tt)
not_before e (x ∷ y ∷ ys) ordered last =
    let end : length (x ∷ y ∷ ys) - 1 ≡ suc (length (y ∷ ys) - 1) = omega arith in
    let rest = not_before e (y ∷ ys) ordered.1 (λ some d. subst (λ (k : ℕ). is_before e (get_or (x ∷ y ∷ ys) k d) ≡ false) end (last (omega arith) d)) in
    (entries_rank.chain e y x rest.0 ordered.0.0, rest)

before_each : (e x : Entry) (xs : List Entry) → NoneBefore x xs → is_before e x ≡ true → BeforeEach e xs
before_each e x [] none before = tt
before_each e x (y ∷ ys) none before = (by (is_before e y) refl, before_each e x ys none.1 before)
  where
    by : (b : Bool) → is_before e y ≡ b → is_before e y ≡ true
    by true is = is
    by false is = absurd (true≢false (sym before ∙ entries_rank.chain e y x is none.0))

none_before : (e : Entry) (xs : List Entry) → BeforeEach e xs → NoneBefore e xs
none_before e [] each = tt
none_before e (x ∷ xs) each = (entries_rank.one_way e x each.0, none_before e xs each.1)

-- between those that it doesn't stand before and those that it stands before
between_none : (x e : Entry) (xs ys : List Entry) → is_before e x ≡ false → NoneBefore x (xs ++ ys) → NoneBefore x (xs ++ e ∷ ys)
between_none x e [] ys after none = (after, none)
between_none x e (y ∷ xs) ys after none = (none.0, between_none x e xs ys after none.1)

between_in_order : (e : Entry) (xs ys : List Entry) → InOrder (xs ++ ys) → NotBefore e xs → NoneBefore e ys → InOrder (xs ++ e ∷ ys)
between_in_order e [] ys ordered front back = (back, ordered)
between_in_order e (x ∷ xs) ys ordered front back = (between_none x e xs ys front.0 ordered.0, between_in_order e xs ys ordered.1 front.1 back)

lacks : (p q : Bool) → (not p && not q) ≡ true → q ≡ false
lacks true q e = absurd (true≢false (sym e))
lacks false true e = absurd (true≢false (sym e))
lacks false false e = refl

ties_none : (x e y : Entry) → ties is_before x e ≡ true → is_before e y ≡ true → ties is_before x y ≡ false
ties_none x e y tie before = by (is_before x y) refl
  where
    by : (b : Bool) → is_before x y ≡ b → ties is_before x y ≡ false
    by true is = ap (λ (q : Bool). not q && not (is_before y x)) is
    by false is = absurd (true≢false (sym before ∙ entries_rank.chain e x y (lacks (is_before x e) (is_before e x) tie) is))

none_alike_behind : (x e : Entry) (ys : List Entry) → ties is_before x e ≡ true → BeforeEach e ys → alike_to x ys ≡ []
none_alike_behind x e [] tie each = refl
none_alike_behind x e (y ∷ ys) tie each = ap (λ (b : Bool). cond b (y ∷ alike_to x ys) (alike_to x ys)) (ties_none x e y tie each.0) ∙ none_alike_behind x e ys tie each.1

between_alike : (e : Entry) (xs ys : List Entry) → BeforeEach e ys → Alike (xs ++ e ∷ ys) ((xs ++ ys) ++ e ∷ [])
between_alike e xs ys each x =
    filter-append (ties is_before x) xs (e ∷ ys)
    ∙ (ap (λ (l : List Entry). alike_to x xs ++ l) (by (ties is_before x e) refl)
    ∙ (sym (append_assoc (alike_to x xs) (alike_to x ys) (alike_to x (e ∷ [])))
    ∙ (ap (λ (l : List Entry). l ++ alike_to x (e ∷ [])) (sym (filter-append (ties is_before x) xs ys)) ∙ sym (filter-append (ties is_before x) (xs ++ ys) (e ∷ [])))))
  where
    by : (b : Bool) → ties is_before x e ≡ b → cond b (e ∷ alike_to x ys) (alike_to x ys) ≡ alike_to x ys ++ cond b (e ∷ []) []
    by true is = ap (λ (l : List Entry). e ∷ l) (none_alike_behind x e ys is each) ∙ sym (ap (λ (l : List Entry). l ++ e ∷ []) (none_alike_behind x e ys is each))
    by false is = sym (append-nil (alike_to x ys))

puts_between : (e : Entry) (xs ys : List Entry) → InOrder (xs ++ ys) → NotBefore e xs → BeforeEach e ys → PutsIn e (xs ++ ys) (xs ++ e ∷ ys)
puts_between e xs ys ordered front back = record {
  ordered = between_in_order e xs ys ordered front (none_before e ys back);
  same = alike_in_order (xs ++ e ∷ ys) ((xs ++ ys) ++ e ∷ []) (between_alike e xs ys back);
}

-- by places in a list
first_after : (e : Entry) (ys : List Entry) → InOrder ys → (0 < length ys → HoldsAt (λ y. is_before e y ≡ true) ys 0) → BeforeEach e ys
first_after e [] ordered first = tt
first_after e (y ∷ ys) ordered first = (first (omega arith) y, before_each e y ys ordered.0 (first (omega arith) y))

pub puts_at : (e : Entry) (live : List Entry) (k : ℕ) → k ≤ length live → InOrder live → (0 < k → HoldsAt (λ x. is_before e x ≡ false) live (k - 1)) → (k < length live → HoldsAt (λ x. is_before e x ≡ true) live k)
    → PutsIn e live (take k live ++ e ∷ drop k live)
puts_at e live k within ordered before behind =
    let parts = take-append-drop k live in
    let is : InOrder (take k live ++ drop k live) = subst InOrder (sym parts) ordered in
    let long : length (take k live) ≡ k = length-take-le k live within in
    subst (λ (l : List Entry). PutsIn e l (take k live ++ e ∷ drop k live)) parts
    (puts_between e (take k live) (drop k live) is
    (not_before e (take k live) (front_in_order (take k live) (drop k live) is) (λ some d. subst (λ (n : ℕ). is_before e (get_or (take k live) n d) ≡ false) (last long) (ap (λ (x : Entry). is_before e x) (get_or-take k live (k - 1) d (omega (arith, some, long))) ∙ before (omega (arith, some, long)) d)))
    (first_after e (drop k live) (back_in_order (take k live) (drop k live) is) (λ some d. ap (λ (x : Entry). is_before e x) (get_or-drop k live 0 d ∙ here d) ∙ behind (omega (arith, some, length-drop k live)) d)))
  where
    last : length (take k live) ≡ k → k - 1 ≡ length (take k live) - 1
    last long = ap (λ (n : ℕ). n - 1) (sym long)

    here : (d : Entry) → get_or live (k + 0) d ≡ get_or live k d
    here d = let e : k + 0 ≡ k = omega arith in ap (λ (n : ℕ). get_or live n d) e

-- the notes from `first` on, when one was put in at a place
pub put_at : (first at : ℕ) (entries : List Entry) (e : Entry) → first ≤ at → at ≤ length entries → drop first (insert entries at e) ≡ take (at - first) (drop first entries) ++ e ∷ drop (at - first) (drop first entries)
put_at first at entries e least most =
    let sum : first + (at - first) ≡ at = omega (arith, least) in
    drop-append-le first (take at entries) (e ∷ drop at entries) (omega (arith, least, length-take-le at entries most))
    ∙ (λ k. front sum k ++ e ∷ back sum k)
  where
    front : first + (at - first) ≡ at → drop first (take at entries) ≡ take (at - first) (drop first entries)
    front sum = ap (λ (n : ℕ). drop first (take n entries)) (sym sum) ∙ drop-take first (at - first) entries

    back : first + (at - first) ≡ at → drop at entries ≡ drop (at - first) (drop first entries)
    back sum = sym (drop-drop (at - first) first entries ∙ ap (λ (n : ℕ). drop n entries) sum)

-- a note put in at its place among all
pub puts_in : (first at : ℕ) (entries : List Entry) (e : Entry) → first ≤ at → at ≤ length entries
    → (at < length entries → HoldsAt (λ x. is_before e x ≡ true) entries at) → (first < at → HoldsAt (λ x. is_before e x ≡ false) entries (at - 1))
    → (new : List Entry) → new ≡ insert entries at e → InOrder (drop first entries) → PutsIn e (drop first entries) (drop first new)
puts_in first at entries e least most behind before new is ordered =
    let sum : first + (at - first) ≡ at = omega (arith, least) in
    subst (λ (l : List Entry). PutsIn e (drop first entries) l) (sym (put_at first at entries e least most) ∙ ap (drop first) (sym is))
    (puts_at e (drop first entries) (at - first) (omega (arith, length-drop first entries, least, most)) ordered
    (λ some d. ap (λ (x : Entry). is_before e x) (get_or-drop first entries (at - first - 1) d ∙ one (first + (at - first - 1)) (at - 1) d (omega (arith, some))) ∙ before (omega (arith, some)) d)
    (λ some d. ap (λ (x : Entry). is_before e x) (get_or-drop first entries (at - first) d ∙ one (first + (at - first)) at d sum) ∙ behind (omega (arith, some, length-drop first entries, least, most)) d))
  where
    one : (m n : ℕ) (d : Entry) → m ≡ n → get_or entries m d ≡ get_or entries n d
    one m n d e = ap (λ (k : ℕ). get_or entries k d) e

-- none stand behind the last
pub drop_past : {X : Type 0} (n : ℕ) (list : List X) → length list ≤ n → drop n list ≡ []
drop_past n [] past = drop-nil n
drop_past zero (x ∷ list) past = absurd (omega (arith, past))
drop_past (suc n) (x ∷ list) past = drop_past n list (omega (arith, past))

-- the first of those from a place on
pub first_of : (list : List Entry) (i : ℕ) (e : Entry) → i < length list → e ≡ get_or list i e → drop i list ≡ e ∷ drop (i + 1) list
first_of list i e within is = drop_more list i e within ∙ ap (λ (x : Entry). x ∷ drop (i + 1) list) (sym is)

-- a note put in behind all
pub puts_last : (first : ℕ) (entries : List Entry) (e : Entry) → first ≤ length entries → (first < length entries → HoldsAt (λ x. is_before e x ≡ false) entries (length entries - 1)) → InOrder (drop first entries)
    → PutsIn e (drop first entries) (drop first entries ++ e ∷ [])
puts_last first entries e within late ordered =
    subst (PutsIn e (drop first entries)) (drop-append-le first entries (e ∷ []) within)
    (puts_in first (length entries) entries e within (omega arith) (λ past. absurd (omega (arith, past))) late (entries ++ e ∷ []) (sym (insert_end entries e)) ordered)

-- the first stays the first
pub head_kept : (first : ℕ) (entries : List Entry) (e : Entry) → first < length entries → head_of (drop first entries ++ e ∷ []) ≡ head_of (drop first entries)
head_kept first [] e within = absurd (omega (arith, within))
head_kept zero (x ∷ entries) e within = refl
head_kept (suc first) (x ∷ entries) e within = head_kept first entries e (omega (arith, within))

-- two lists with a last one
pub last_same : {X : Type 0} (xs ys : List X) (x y : X) → xs ++ x ∷ [] ≡ ys ++ y ∷ [] → (xs ≡ ys) × (x ≡ y)
last_same [] [] x y is = (refl, ap (λ l. get_or l 0 x) is)
last_same [] (z ∷ ys) x y is = absurd (omega (arith, ap length is, length-append ys (y ∷ [])))
last_same (z ∷ xs) [] x y is = absurd (omega (arith, ap length is, length-append xs (x ∷ [])))
last_same (z ∷ xs) (v ∷ ys) x y is =
    let more = last_same xs ys x y (ap (drop 1) is) in
    let head : z ≡ v = ap (λ l. get_or l 0 z) is in
    ((λ i. head i ∷ more.0 i), more.1)
