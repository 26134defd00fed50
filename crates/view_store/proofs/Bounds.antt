-- Notes that all start in a range.
use Rattle.std.proofs.Common.{◌≡◌, ℕ, ◌+◌, ◌≤◌, ◌<◌, ◌&&◌, Bool, true, false, List, [], ◌∷◌, ◌++◌, take, length, get_or, min, max, refl, sym, ap, ◌∙◌, subst, arith}
use Rattle.std.specs.Prelude.{nat_le}
use Rattle.std.specs.List.{filter, list_all}
use Rattle.std.proofs.lemmas.Bool.Decides.{nat_tests}
use Rattle.std.proofs.lemmas.List.{take_more}
use Rattle.la_base.specs.declared.wires.Note.{Note}
use Rattle.view_store.specs.Listings.{is_between}

both : (x y : Bool) → (x && y) ≡ true → (x ≡ true) × (y ≡ true)
both true y is = (refl, is)
both false y is = cc

-- where no element that passes one test passes another
filter_none : {A : Type 0} (p q : A → Bool) → ((x : A) → p x ≡ true → q x ≡ false) → (xs : List A) → list_all p xs ≡ true → filter q xs ≡ []
filter_none p q apart [] all = refl
filter_none p q apart (x ∷ xs) all = let parts = both (p x) (list_all p xs) all in rw (apart x parts.0) (filter_none p q apart xs parts.1)

all_mapped : {A : Type 0} (p q : A → Bool) → ((x : A) → p x ≡ true → q x ≡ true) → (xs : List A) → list_all p xs ≡ true → list_all q xs ≡ true
all_mapped p q to [] all = refl
all_mapped p q to (x ∷ xs) all = let parts = both (p x) (list_all p xs) all in rw (to x parts.0) (all_mapped p q to xs parts.1)

all_last : {A : Type 0} (p : A → Bool) (xs : List A) (x : A) → list_all p xs ≡ true → p x ≡ true → list_all p (xs ++ x ∷ []) ≡ true
all_last p [] x all one = rw one refl
all_last p (y ∷ xs) x all one = let parts = both (p y) (list_all p xs) all in rw parts.0 (all_last p xs x parts.1 one)

starts_within : (first last : ℕ) (note : ℕ × Note) → is_between first last note ≡ true → (first ≤ note.1.start) × (note.1.start ≤ last)
starts_within first last note is =
    let parts = both (nat_le first note.1.start) (nat_le note.1.start last) is in
    let one : nat_le first note.1.start ≡ true = parts.0 in
    let other : nat_le note.1.start last ≡ true = parts.1 in
    (grind (arith, nat_tests), grind (arith, nat_tests))

is_within : (first last : ℕ) (note : ℕ × Note) → first ≤ note.1.start → note.1.start ≤ last → is_between first last note ≡ true
is_within first last note one other =
    let a : nat_le first note.1.start ≡ true = grind (arith, nat_tests) in
    let b : nat_le note.1.start last ≡ true = grind (arith, nat_tests) in
    rw (a, b) refl

starts_before : (first last : ℕ) (note : ℕ × Note) → note.1.start < first → is_between first last note ≡ false
starts_before first last note before = let a : nat_le first note.1.start ≡ false = grind (arith, nat_tests) in rw a refl

starts_behind : (first last : ℕ) (note : ℕ × Note) → last < note.1.start → is_between first last note ≡ false
starts_behind first last note behind = by (nat_le first note.1.start)
  where
    later : nat_le note.1.start last ≡ false
    later = grind (arith, nat_tests)

    by : (b : Bool) → (b && nat_le note.1.start last) ≡ false
    by true = later
    by false = refl

-- a range that ends before them, or begins behind them
pub none_before : (first last start end : ℕ) (notes : List (ℕ × Note)) → list_all (is_between first last) notes ≡ true → end < first → filter (is_between start end) notes ≡ []
none_before first last start end notes all apart =
    filter_none (is_between first last) (is_between start end) (λ note is. let w = starts_within first last note is in starts_behind start end note (omega (arith, apart, w.0))) notes all

pub none_behind : (first last start end : ℕ) (notes : List (ℕ × Note)) → list_all (is_between first last) notes ≡ true → last < start → filter (is_between start end) notes ≡ []
none_behind first last start end notes all apart =
    filter_none (is_between first last) (is_between start end) (λ note is. let w = starts_within first last note is in starts_before start end note (omega (arith, apart, w.1))) notes all

-- the range grows by one more note
pub one_wider : (first last : ℕ) (notes : List (ℕ × Note)) (i : ℕ) (note : ℕ × Note) → i < length notes → note ≡ get_or notes i note → list_all (is_between first last) (take i notes) ≡ true
    → list_all (is_between (min first note.1.start) (max last note.1.start)) (take (i + 1) notes) ≡ true
one_wider first last notes i note within is all =
    let wider = is_between (min first note.1.start) (max last note.1.start) in
    let before : list_all wider (take i notes) ≡ true =
    all_mapped (is_between first last) wider (λ one here. let w = starts_within first last one here in is_within _ _ one (omega (arith, w.0)) (omega (arith, w.1))) (take i notes) all in
    let here : wider note ≡ true = is_within _ _ note (omega arith) (omega arith) in
    let longer : take (i + 1) notes ≡ take i notes ++ note ∷ [] = take_more notes i note within ∙ ap (λ one. take i notes ++ one ∷ []) (sym is) in
    rw longer (all_last wider (take i notes) note before here)
