-- The levels of fields, as a loop reads them.
use Rattle.std.proofs.Common.{◌≡◌, ℕ, ◌+◌, ◌≤◌, ◌<◌, List, [], ◌∷◌, ◌++◌, take, drop, length, map, set, refl, sym, ◌∙◌, ap, subst, arith, append_assoc, min, get_or, length-append, length-drop, length-set, Bool, Option, Some, None, Result, Ok, Err, zero, suc}
use Rattle.std.proofs.lemmas.List.{append-nil, drop-drop, drop_at, drop_more, take_all, take_at, take_more_set}
use Rattle.la_io.specs.declared.fault.CaptureFault.{CaptureFault}
use Rattle.csv.specs.Records.{field_at}
use Rattle.capture_csv.specs.Csv.{before_levels, levels_of}
use Rattle.capture_csv.specs.Plain.{AllSimple, IsSimple, Written, line_of, texts_of, written}
use Rattle.capture_csv.specs.Records.{trimmed}
use Rattle.capture_csv.specs.Simple.{BeginsSimply, FirstLen, IsSimpleLine}
use Rattle.capture_csv.specs.Values.{LevelIs, LevelsRead}
use Rattle.capture_csv.proofs.SimpleLines.{behind_of, line_begins}

-- levels before those of more fields
abbrev pub joined : List Bool → Result (List Bool) CaptureFault → Result (List Bool) CaptureFault
joined levels (Err fault) = Err fault
joined levels (Ok more) = Ok (levels ++ more)

-- so many levels of fields were read, and these fields are left
pub record Half (column : ℕ) (all : List (List ℕ)) (levels : List Bool) (k : ℕ) (left : List (List ℕ)) : Type 0 where
  pub len : k + length left ≡ length levels
  pub so_far : (line : ℕ) → levels_of line column (map trimmed all) ≡ joined (take k levels) (levels_of line (column + k) (map trimmed left))

pub half_begun : (column : ℕ) (all : List (List ℕ)) (levels : List Bool) → length all ≡ length levels → Half column all levels 0 all
half_begun column all levels same = record { len = omega (arith, same); so_far = λ line. by_result (levels_of line column (map trimmed all)) ∙ (let e : column ≡ column + 0 = omega arith in ap (λ (c : ℕ). joined [] (levels_of line c (map trimmed all))) e) } where
  by_result : (r : Result (List Bool) CaptureFault) → r ≡ joined [] r
  by_result (Ok levels) = refl
  by_result (Err fault) = refl

pub half_next : (column : ℕ) (all : List (List ℕ)) (levels : List Bool) (k : ℕ) (field : List ℕ) (left : List (List ℕ)) (level : Bool) → Half column all levels k (field ∷ left) → LevelIs (trimmed field) (Some level)
    → Half column all (set levels k level) (k + 1) left
half_next column all levels k field left level half is = record {
  len = omega (arith, half.len, length-set levels k level);
  so_far = λ line. half.so_far line ∙ ap (λ (r : Result Bool CaptureFault). joined (take k levels) (before_levels r (levels_of line (column + k + 1) (map trimmed left)))) (is line (column + k))
      ∙ by_result (levels_of line (column + k + 1) (map trimmed left))
      ∙ (λ i. joined (sym (take_more_set levels k level less) i) (levels_of line (place i) (map trimmed left)));
} where
  less : k < length levels
  less = omega (arith, half.len)

  place : column + k + 1 ≡ column + (k + 1)
  place = omega arith

  by_result : (r : Result (List Bool) CaptureFault) → joined (take k levels) (before_levels (Ok level) r) ≡ joined (take k levels ++ level ∷ []) r
  by_result (Ok more) = ap Ok (sym (append_assoc (take k levels) (level ∷ []) more))
  by_result (Err fault) = refl

pub half_fault : (column : ℕ) (all : List (List ℕ)) (levels : List Bool) (k : ℕ) (field : List ℕ) (left : List (List ℕ)) → Half column all levels k (field ∷ left) → LevelIs (trimmed field) None
    → LevelsRead column (map trimmed all) levels (Some (column + k))
half_fault column all levels k field left half is line =
    half.so_far line ∙ ap (λ (r : Result Bool CaptureFault). joined (take k levels) (before_levels r (levels_of line (column + k + 1) (map trimmed left)))) (is line (column + k))

pub half_done : (column : ℕ) (all : List (List ℕ)) (levels : List Bool) (k : ℕ) (left : List (List ℕ)) → Half column all levels k left → length levels ≤ k → LevelsRead column (map trimmed all) levels None
half_done column all levels k (field ∷ left) half done line = absurd (omega (arith, half.len, done))
half_done column all levels k [] half done line = half.so_far line ∙ ap Ok (append-nil (take k levels) ∙ take_all k levels done)

-- fields of a line of simple fields are read: what stands from `from` on are the others
pub record ReadTo (text : List ℕ) (from column : ℕ) (fields : List (List ℕ)) (levels : List Bool) (k : ℕ) : Type 0 where
  pub left : List Written
  pub simple : AllSimple left
  pub half : Half column fields levels k (texts_of left)
  pub ahead : 0 < length left → drop from text ≡ line_of left

pub none_read : (text : List ℕ) (column : ℕ) (fields : List (List ℕ)) (levels : List Bool) → IsSimpleLine text fields → length fields ≡ length levels → ReadTo text 0 column fields levels 0
none_read text column fields levels line same = record {
  left = line.all;
  simple = line.each;
  half = subst (λ (l : List (List ℕ)). Half column fields levels 0 l) line.fields_are (half_begun column fields levels same);
  ahead = λ some. line.line;
}

-- one field more: what stands from `from` on is `rest`, whose first field takes so many bytes
module _ (text rest : List ℕ) (from column k : ℕ) (fields : List (List ℕ)) (levels : List Bool) (rest_of : rest ≡ drop from text) (read : ReadTo text from column fields levels k) (less : k < length levels) where
  by_left : (P : Type 0) → ((field : Written) (others : List Written) → IsSimple field → AllSimple others → Half column fields levels k (field.text ∷ texts_of others) → rest ≡ line_of (field ∷ others) → P) → P
  by_left P says = by_fields read.left read.simple read.half read.ahead where
    by_fields : (left : List Written) → AllSimple left → Half column fields levels k (texts_of left) → (0 < length left → drop from text ≡ line_of left) → P
    by_fields [] simple half ahead = absurd (let len = half.len in omega (arith, len, less))
    by_fields (field ∷ others) simple half ahead = says field others simple.0 simple.1 half (rest_of ∙ ahead (omega arith))

  pub simple_begins : BeginsSimply rest
  simple_begins = by_left (BeginsSimply rest) (λ field others simple all half is. (field, behind_of others, line_begins rest field others simple is))

  module _ (n : ℕ) (first : FirstLen rest n) (bytes : List ℕ) (bytes_of : (w : Written) → IsSimple w → take n rest ≡ written w → bytes ≡ w.text) where
    text_is : (field : Written) (others : List Written) → IsSimple field → rest ≡ line_of (field ∷ others) → bytes ≡ field.text
    text_is field others simple is =
        let b = line_begins rest field others simple is in
        bytes_of field simple (ap (λ (l : List ℕ). take n l) b.is ∙ take_at (written field) (behind_of others) n (sym (first field (behind_of others) b)))

    pub simple_fault : LevelIs (trimmed bytes) None → LevelsRead column (map trimmed fields) levels (Some (column + k))
    simple_fault says = by_left (LevelsRead column (map trimmed fields) levels (Some (column + k))) (λ field others simple all half is.
        half_fault column fields levels k field.text (texts_of others) half (subst (λ (l : List ℕ). LevelIs (trimmed l) None) (text_is field others simple is) says))

    pub simple_next : (level : Bool) (next : ℕ) → LevelIs (trimmed bytes) (Some level) → next ≡ min (from + n + 1) (length text) → ReadTo text next column fields (set levels k level) (k + 1)
    simple_next level next says next_is = by_left (ReadTo text next column fields (set levels k level) (k + 1)) (λ field others simple all half is. record {
      left = others;
      simple = all;
      half = half_next column fields levels k field.text (texts_of others) level half (subst (λ (l : List ℕ). LevelIs (trimmed l) (Some level)) (text_is field others simple is) says);
      ahead = λ some. by_others field others simple is some;
    }) where
      by_others : (field : Written) (others : List Written) → IsSimple field → rest ≡ line_of (field ∷ others) → 0 < length others → drop next text ≡ line_of others
      by_others field [] simple is some = absurd (omega (arith, some))
      by_others field (other ∷ others) simple is some =
          let len = first field (behind_of (other ∷ others)) (line_begins rest field (other ∷ others) simple is) in
          let on : drop (n + 1) rest ≡ line_of (other ∷ others) = ap (λ (l : List ℕ). drop (n + 1) l) (is ∙ sym (append_assoc (written field) (44 ∷ []) (line_of (other ∷ others)))) ∙ drop_at (written field ++ 44 ∷ []) (line_of (other ∷ others)) (n + 1) (omega (arith, len, length-append (written field) (44 ∷ []))) in
          let place : next ≡ from + (n + 1) = omega (arith, next_is, len, ap length is, length-append (written field) (44 ∷ line_of (other ∷ others)), ap length rest_of, length-drop from text) in
          ap (λ (m : ℕ). drop m text) place ∙ sym (drop-drop (n + 1) from text) ∙ ap (λ (l : List ℕ). drop (n + 1) l) (sym rest_of) ∙ on

-- one field more of a record that `csv` read
module _ (fields : List (List ℕ)) (first column k : ℕ) (levels : List Bool) (half : Half column (drop first fields) levels k (drop (first + k) fields)) (less : first + k < length fields) where
  now : drop (first + k) fields ≡ get_or fields (first + k) [] ∷ drop (first + k + 1) fields
  now = drop_more fields (first + k) [] less

  csv_here : Half column (drop first fields) levels k (get_or fields (first + k) [] ∷ drop (first + k + 1) fields)
  csv_here = subst (λ (l : List (List ℕ)). Half column (drop first fields) levels k l) now half

  pub csv_next : (level : Bool) → LevelIs (trimmed (get_or fields (first + k) [])) (Some level) → Half column (drop first fields) (set levels k level) (k + 1) (drop (first + (k + 1)) fields)
  csv_next level is =
      let place : first + k + 1 ≡ first + (k + 1) = omega arith in
      subst (λ (m : ℕ). Half column (drop first fields) (set levels k level) (k + 1) (drop m fields)) place (half_next column (drop first fields) levels k (get_or fields (first + k) []) (drop (first + k + 1) fields) level csv_here is)

  pub csv_fault : LevelIs (trimmed (get_or fields (first + k) [])) None → LevelsRead column (map trimmed (drop first fields)) levels (Some (column + k))
  csv_fault is = half_fault column (drop first fields) levels k (get_or fields (first + k) []) (drop (first + k + 1) fields) csv_here is

-- a field of a record
pub field_is : (fields : List (List ℕ)) (place : ℕ) → place < length fields → field_at fields place ≡ Some (get_or fields place [])
unfolding field_at
field_is [] place less = absurd (omega (arith, less))
field_is (f ∷ fields) zero less = refl
field_is (f ∷ fields) (suc place) less = field_is fields place (omega (arith, less))

pub same_field : (x y : List ℕ) → ◌≡◌ {A = Option (List ℕ)} (Some x) (Some y) → x ≡ y
same_field x y e = cc

pub no_field : (y : List ℕ) → ◌≡◌ {A = Option (List ℕ)} None (Some y) → ⊥
no_field y e = cc
