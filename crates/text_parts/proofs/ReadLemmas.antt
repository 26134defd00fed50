-- The steps of a loop that reads parts.
use Rattle.std.proofs.Common.{◌≡◌, ℕ, ◌+◌, ◌<◌, ◌≤◌, Bool, true, false, cond, ◌||◌, List, [], ◌∷◌, ◌++◌, length, drop, get_or, map, Result, Ok, Err, refl, sym, ◌∙◌, ap, arith}
use Rattle.std.specs.List.{list_any, slice_split, onto_first}
use Rattle.std.proofs.lemmas.List.{at_drop_more, at_drop_all}
use Rattle.text_parts.specs.Reading.{then_read, read_parts, IsFirstFault}
use Rattle.text_parts.specs.Places.{Placed, placed_from, width}

module _ {V F : Type 0} (judge : List V → Placed → Result V F) (before : List V) (at : ℕ) (parts : List (List ℕ)) (k : ℕ) (part : List ℕ) where
  read_turn : k < length parts → part ≡ get_or parts k part
      → read_parts judge before (placed_from at (drop k parts))
      ≡ then_read (judge before (at, part)) (λ value. read_parts judge (before ++ value ∷ []) (placed_from (at + length part + 1) (drop (k + 1) parts)))
  read_turn within is = at_drop_more (λ ps. read_parts judge before (placed_from at ps)) parts k part within
      ∙ ap (λ p. then_read (judge before (at, p)) (λ value. read_parts judge (before ++ value ∷ []) (placed_from (at + length p + 1) (drop (k + 1) parts)))) (sym is)

  -- a part that is good joins the values
  pub read_more : (value : V) → k < length parts → part ≡ get_or parts k part → judge before (at, part) ≡ Ok value
      → read_parts judge before (placed_from at (drop k parts)) ≡ read_parts judge (before ++ value ∷ []) (placed_from (at + length part + 1) (drop (k + 1) parts))
  read_more value within is good = read_turn within is
      ∙ ap (λ r. then_read r (λ value. read_parts judge (before ++ value ∷ []) (placed_from (at + length part + 1) (drop (k + 1) parts)))) good

  -- a part with a fault ends the reading
  pub read_stops : (fault : F) → k < length parts → part ≡ get_or parts k part → judge before (at, part) ≡ Err fault
      → read_parts judge before (placed_from at (drop k parts)) ≡ Err fault
  read_stops fault within is bad = read_turn within is
      ∙ ap (λ r. then_read r (λ value. read_parts judge (before ++ value ∷ []) (placed_from (at + length part + 1) (drop (k + 1) parts)))) bad

-- behind the last part the values are the answer
pub read_ends : {V F : Type 0} (judge : List V → Placed → Result V F) (before : List V) (at : ℕ) (parts : List (List ℕ)) (k : ℕ) → length parts ≤ k
    → read_parts judge before (placed_from at (drop k parts)) ≡ Ok before
read_ends judge before at parts k past = at_drop_all (λ ps. read_parts judge before (placed_from at ps)) parts k past

width_onto : (x : ℕ) (parts : List (List ℕ)) → 0 < length parts → width (onto_first x parts) ≡ width parts + 1
width_onto x [] some = absurd (omega arith)
width_onto x (part ∷ parts) some = omega arith

split_some : (p : ℕ → Bool) (xs : List ℕ) → 0 < length (slice_split p xs)
split_some p [] = omega arith
split_some p (x ∷ xs) = by (p x)
  where
    onto_some : (parts : List (List ℕ)) → 0 < length (onto_first x parts)
    onto_some [] = omega arith
    onto_some (part ∷ parts) = omega arith

    by : (b : Bool) → 0 < length (cond b ([] ∷ slice_split p xs) (onto_first x (slice_split p xs)))
    by true = omega arith
    by false = onto_some (slice_split p xs)

-- the parts of a text are as wide as the text and one more separator
pub width_split : (p : ℕ → Bool) (xs : List ℕ) → width (slice_split p xs) ≡ length xs + 1
width_split p [] = refl
width_split p (x ∷ xs) = by (p x) (width_split p xs)
  where
    by : (b : Bool) → width (slice_split p xs) ≡ length xs + 1 → width (cond b ([] ∷ slice_split p xs) (onto_first x (slice_split p xs))) ≡ length (x ∷ xs) + 1
    by true e = omega arith
    by false e = width_onto x (slice_split p xs) (split_some p xs) ∙ omega arith

-- a part and what is behind it, against the whole
pub width_more : (parts : List (List ℕ)) (k : ℕ) (part : List ℕ) → k < length parts → part ≡ get_or parts k part → width (drop k parts) ≡ length part + 1 + width (drop (k + 1) parts)
width_more parts k part within is = at_drop_more width parts k part within ∙ ap (λ p. length p + 1 + width (drop (k + 1) parts)) (sym is)

-- a test of what each element means
pub list_any-map : {X Y : Type 0} (p : Y → Bool) (f : X → Y) (xs : List X) → list_any p (map f xs) ≡ list_any (λ x. p (f x)) xs
list_any-map p f [] = refl
list_any-map p f (x ∷ xs) = ap (λ b. p (f x) || b) (list_any-map p f xs)

-- what a list means, with one more at its end
pub map-push : {X Y : Type 0} (f : X → Y) (xs : List X) (x : X) → map f (xs ++ x ∷ []) ≡ map f xs ++ f x ∷ []
map-push f [] x = refl
map-push f (y ∷ ys) x = ap (λ rest. f y ∷ rest) (map-push f ys x)

-- an answer `Err` is the first fault, and the first fault is the answer
pub first_fault : {P V F : Type 0} (judge : List V → P → Result V F) (before : List V) (parts : List P) (fault : F) → read_parts judge before parts ≡ Err fault → IsFirstFault judge before parts fault
first_fault judge before [] fault e = cc
first_fault {P} {V} {F} judge before (part ∷ parts) fault e = by (judge before part) refl e (λ v. first_fault judge (before ++ v ∷ []) parts fault)
  where
    by : (r : Result V F) → judge before part ≡ r → then_read r (λ value. read_parts judge (before ++ value ∷ []) parts) ≡ Err fault
        → ((v : V) → read_parts judge (before ++ v ∷ []) parts ≡ Err fault → IsFirstFault judge (before ++ v ∷ []) parts fault) → IsFirstFault judge before (part ∷ parts) fault
    by (Ok v) is e more = let m = more v e in
        record {
          front = part ∷ m.front;
          part = m.part;
          back = m.back;
          values = m.values;
          split = ap (λ rest. part ∷ rest) m.split;
          good = ap (λ r. then_read r (λ value. read_parts judge (before ++ value ∷ []) m.front)) is ∙ m.good;
          bad = m.bad;
        }
    by (Err f) is e more = let same : f ≡ fault = cc in
        record { front = []; part = part; back = parts; values = before; split = refl; good = refl; bad = is ∙ ap (λ x. Err x) same }

read_append : {P V F : Type 0} (judge : List V → P → Result V F) (before : List V) (front back : List P) (values : List V) → read_parts judge before front ≡ Ok values
    → read_parts judge before (front ++ back) ≡ read_parts judge values back
read_append judge before [] back values e = let same : before ≡ values = cc in ap (λ b. read_parts judge b back) same
read_append {P} {V} {F} judge before (part ∷ front) back values e = by (judge before part) e (λ v. read_append judge (before ++ v ∷ []) front back values)
  where
    by : (r : Result V F) → then_read r (λ value. read_parts judge (before ++ value ∷ []) front) ≡ Ok values
        → ((v : V) → read_parts judge (before ++ v ∷ []) front ≡ Ok values → read_parts judge (before ++ v ∷ []) (front ++ back) ≡ read_parts judge values back)
        → then_read r (λ value. read_parts judge (before ++ value ∷ []) (front ++ back)) ≡ read_parts judge values back
    by (Ok v) e more = more v e
    by (Err f) e more = cc

pub fault_first : {P V F : Type 0} (judge : List V → P → Result V F) (before : List V) (parts : List P) (fault : F) → IsFirstFault judge before parts fault → read_parts judge before parts ≡ Err fault
fault_first judge before parts fault f = ap (read_parts judge before) f.split ∙ read_append judge before f.front (f.part ∷ f.back) f.values f.good
    ∙ ap (λ r. then_read r (λ value. read_parts judge (f.values ++ value ∷ []) f.back)) f.bad
