-- What goes through a link in which nothing waits.
use Rattle.std.proofs.lemmas.List.{length-append, length-take-le, take_all}
use Rattle.std.proofs.Common.{◌≡◌, ℕ, ◌+◌, ◌≤◌, ◌⊎◌, inl, inr, ◌<◌, List, [], ◌∷◌, ◌++◌, length, take, get_or, Option, Some, None, IfSome, IfNone, Result, Ok, Err, OnOk, IfErr, subst, sym, ◌∙◌, ap, arith}
use Rattle.std.proofs.Math.Nat.{eq-or-lt_of_le}
use Rattle.std.proofs.Math.Seq.{take-append_seam}
use mathlib.Core.List.{IsPrefix}
use Rattle.stage_ring.specs.Link.{more}

whole_or_short : {T : Type 0} (items : List T) (count before after : ℕ) → (count ≡ length items) ⊎ (count < length items) → length items ≤ before
    → before ≤ after + count → (count < length items → after ≡ 0) → take count items ≡ items
whole_or_short items count before after (inl is) room free full = take_all count items (omega (arith, is))
whole_or_short items count before after (inr short) room free full = absurd (omega (arith, short, room, free, full short))

-- with room for all of them, all items are sent
pub all_sent : {T : Type 0} (items : List T) (count before after : ℕ) → count ≤ length items → length items ≤ before
    → before ≤ after + count → (count < length items → after ≡ 0) → take count items ≡ items
all_sent items count before after within = whole_or_short items count before after (eq-or-lt_of_le within)

full_or_short : {T : Type 0} (items into known : List T) (count : ℕ) → (count ≡ length into) ⊎ (count < length into) → length into ≡ length items
    → IsPrefix items (take count into ++ known) → (count < length into → known ≡ []) → into ≡ items
full_or_short items into known count (inl all) fits (rest, is) none =
    sym (take-append_seam into known) ∙ ap (λ (n : ℕ). take n (into ++ known)) fits
    ∙ ap (λ l. take (length items) (l ++ known)) (sym (take_all count into (omega (arith, all)))) ∙ ap (λ l. take (length items) l) (sym is) ∙ take-append_seam items rest
full_or_short items into known count (inr short) fits (rest, is) none =
    absurd (omega (arith, short, fits, ap length is, ap length (none short), length-append items rest, length-append (take count into) known, length-take-le count into (omega (arith, short))))

-- a row of their number takes all items that are known
pub all_taken : {T : Type 0} (items into known : List T) (count : ℕ) → count ≤ length into → length into ≡ length items
    → IsPrefix items (take count into ++ known) → (count < length into → known ≡ []) → into ≡ items
all_taken items into known count within = full_or_short items into known count (eq-or-lt_of_le within)

full_row : {T : Type 0} (items into known : List T) (count : ℕ) → (count ≡ length into) ⊎ (count < length into) → length into ≡ length items
    → IsPrefix items (take count into ++ known) → (count < length into → known ≡ []) → take count into ≡ into
full_row items into known count (inl all) fits front none = take_all count into (omega (arith, all))
full_row items into known count (inr short) fits (rest, is) none =
    absurd (omega (arith, short, fits, ap length is, ap length (none short), length-append items rest, length-append (take count into) known, length-take-le count into (omega (arith, short))))

-- and what it took of them is all of them
pub row_taken : {T : Type 0} (items into known : List T) (count : ℕ) → count ≤ length into → length into ≡ length items
    → IsPrefix items (take count into ++ known) → (count < length into → known ≡ []) → take count into ≡ items
row_taken items into known count within fits front none =
    let all : into ≡ items = all_taken items into known count within fits front none in
    full_row items into known count (eq-or-lt_of_le within) fits front none ∙ all

head_same : {T : Type 0} (x y : T) (ys : List T) → IsPrefix (x ∷ []) (y ∷ ys) → x ≡ y
head_same x y ys (rest, is) = ap (λ l. get_or l 0 x) is

-- where one item waits, a take gives it
pub one_taken : {T : Type 0} (result : Option T) (item : T) (before after known left : List T) (misses then : ℕ) → known ≡ item ∷ []
    → IfSome result (λ (x : T). (after ≡ before ++ x ∷ []) × IsPrefix known (x ∷ left) × (then ≡ misses))
    → IfNone result ((after ≡ before) × (known ≡ []) × (left ≡ []) × (then ≡ more misses))
    → (result ≡ Some item) × (after ≡ before ++ item ∷ [])
one_taken (Some x) item before after known left misses then waits some none =
    let same : item ≡ x = head_same item x left (subst (λ l. IsPrefix l (x ∷ left)) waits some.1) in
    (ap Some (sym same), some.0 ∙ ap (λ y. before ++ y ∷ []) (sym same))
one_taken None item before after known left misses then waits some none = absurd (omega (arith, ap length (sym waits ∙ none.1)))

-- where a slot is free, an offer sends its item
pub one_sent : {U T : Type 0} (result : Result U T) (item : T) (before after : List T) (room left misses then : ℕ) → 0 < room
    → OnOk result ((after ≡ before ++ item ∷ []) × (room ≤ left + 1) × (then ≡ misses))
    → IfErr result (λ (back : T). (back ≡ item) × (after ≡ before) × (room ≡ 0) × (left ≡ 0) × (then ≡ more misses))
    → after ≡ before ++ item ∷ []
one_sent (Ok u) item before after room left misses then some ok err = ok.0
one_sent (Err x) item before after room left misses then some ok err = absurd (omega (arith, some, err.2))
