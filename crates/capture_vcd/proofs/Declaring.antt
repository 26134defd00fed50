-- What the words of a `$var` declare, and the bits of a variable.
use Rattle.std.proofs.Common.{◌≡◌, ℕ, zero, suc, ◌+◌, ◌-◌, slice_range, ◌≤◌, ◌<◌, inl, inr, ◌&&◌, ◌==◌, nat_le, nat_lt, not, List, [], ◌∷◌, ◌++◌, map, length, drop, get_or, refl, sym, ◌∙◌, ap, arith, Bool, true, false, cond, Result, Err, Ok, codes}
use Rattle.std.proofs.lemmas.Bool.{cond-true, cond-false, eqb-true, lt-ltb}
use Rattle.std.proofs.lemmas.List.FromFn.{map-range_with_len_more, length-map-range_with_len}
use Rattle.std.specs.Fmt.{decimal}
use Rattle.la_io.specs.declared.fault.CaptureFault.{CaptureFault}
use Rattle.la_io.specs.declared.fault.CaptureFault.TheVariants.{Token, TooMany}
use Rattle.la_base.specs.Naming.{number_after}
use Rattle.text_parts.specs.Numbers.{is_number}
use Rattle.text_parts.specs.Places.{Placed}
use Rattle.capture_vcd.specs.Header.{Declared, Declares, bit_names, has_no_channel, is_code, joined, variable_by, variable_of}
use Rattle.capture_vcd.specs.Gathered.{WidthGives, placed, text_at}
use Rattle.std.proofs.lemmas.List.{take_all}
use Rattle.capture_vcd.specs.Places.{places_of}
use Rattle.capture_vcd.specs.declared.section.Word.{Word}

-- a size at fault
width_fault : (at before : ℕ) (size code reference : List ℕ) (more : List Placed) (fault : CaptureFault) → WidthGives at before size (Err fault)
    → ◌≡◌ {A = Result Declared CaptureFault} (cond (not (is_number size)) (Err (Token at)) (variable_by at before code (number_after 0 size) reference more)) (Err fault)
width_fault at before size code reference more fault (inl (bad, is)) = cond-true (not (is_number size)) _ _ (ap not bad) ∙ ap (λ (f : CaptureFault). Err f) (sym is)
width_fault at before size code reference more fault (inr (inl (good, wide, is))) =
    cond-false (not (is_number size)) _ _ (ap not good) ∙ cond-true (not (nat_le 1 (number_after 0 size) && nat_le (number_after 0 size) 65535)) _ _ (ap not wide) ∙ ap (λ (f : CaptureFault). Err f) (sym is)
width_fault at before size code reference more fault (inr (inr (good, fits, many, is))) =
    cond-false (not (is_number size)) _ _ (ap not good) ∙ cond-false (not (nat_le 1 (number_after 0 size) && nat_le (number_after 0 size) 65535)) _ _ (ap not fits)
    ∙ by_one (number_after 0 size) many (number_after 0 size == 1) refl ∙ ap (λ (f : CaptureFault). Err f) (sym is)
  where
    by_one : (width : ℕ) → 4096 < before + width → (t : Bool) → (width == 1) ≡ t
        → ◌≡◌ {A = Result Declared CaptureFault} (cond t (cond (nat_lt 4096 (before + 1)) (Err (TooMany at)) (Ok (Declares (record { code = code; names = (reference ++ joined more) ∷ [] }))))
        (cond (nat_lt 4096 (before + width)) (Err (TooMany at)) (Ok (Declares (record { code = code; names = bit_names reference width }))))) (Err (TooMany at))
    by_one width many true e = let one : width ≡ 1 = eqb-true width 1 e in cond-true (nat_lt 4096 (before + 1)) _ _ (lt-ltb 4096 (before + 1) (omega (arith, many, one)))
    by_one width many false e = cond-true (nat_lt 4096 (before + width)) _ _ (lt-ltb 4096 (before + width) many)

pub variable_fault : (at before : ℕ) (words : List Word) (a b s : Word) (fault : CaptureFault) → 4 ≤ length words → is_code (get_or words 2 a).text.items ≡ true → has_no_channel (get_or words 0 b).text.items ≡ false
    → WidthGives at before (get_or words 1 s).text.items (Err fault) → variable_of at before (map placed words) ≡ Err fault
variable_fault at before [] a b s fault long code type w = absurd (omega (arith, long))
variable_fault at before (w0 ∷ []) a b s fault long code type w = absurd (omega (arith, long))
variable_fault at before (w0 ∷ w1 ∷ []) a b s fault long code type w = absurd (omega (arith, long))
variable_fault at before (w0 ∷ w1 ∷ w2 ∷ []) a b s fault long code type w = absurd (omega (arith, long))
variable_fault at before (w0 ∷ w1 ∷ w2 ∷ w3 ∷ more) a b s fault long code type w =
    cond-false (not (is_code w2.text.items)) _ _ (ap not code) ∙ cond-false (has_no_channel w0.text.items) _ _ type ∙ width_fault at before w1.text.items w2.text.items w3.text.items (map placed more) fault w

-- the names and places of one more bit
pub no_names : (reference : List ℕ) → bit_names reference 0 ≡ []
unfolding bit_names
no_names reference = refl

pub names_more : (reference : List ℕ) (n : ℕ) → bit_names reference (n + 1) ≡ bit_names reference n ++ (reference ++ codes "." ++ decimal n) ∷ []
unfolding bit_names
names_more reference n = map-range_with_len_more (λ bit. reference ++ codes "." ++ decimal bit) 0 n n (omega arith)

pub names_len : (reference : List ℕ) (n : ℕ) → length (bit_names reference n) ≡ n
unfolding bit_names
names_len reference n = length-map-range_with_len (λ bit. reference ++ codes "." ++ decimal bit) 0 n

pub places_more : (variable n : ℕ) → places_of variable (n + 1) ≡ places_of variable n ++ (record { variable = variable; bit = n }) ∷ []
places_more variable n = map-range_with_len_more (λ (bit : ℕ). record { variable = variable; bit = bit }) 0 n n (omega arith)

-- the reference with all further words
pub joined_rest : (words : List Word) → 4 ≤ length words → joined (map placed (slice_range words 3 (length words))) ≡ text_at (map placed words) 3 ++ joined (drop 4 (map placed words))
joined_rest [] long = absurd (omega (arith, long))
joined_rest (w0 ∷ []) long = absurd (omega (arith, long))
joined_rest (w0 ∷ w1 ∷ []) long = absurd (omega (arith, long))
joined_rest (w0 ∷ w1 ∷ w2 ∷ []) long = absurd (omega (arith, long))
joined_rest (w0 ∷ w1 ∷ w2 ∷ w3 ∷ more) long = ap (λ (l : List Word). joined (map placed l)) (take_all (length (w0 ∷ w1 ∷ w2 ∷ w3 ∷ more) - 3) (w3 ∷ more) (omega arith))

pub text_is : (words : List Word) (k : ℕ) (a : Word) → k < length words → (get_or words k a).text.items ≡ text_at (map placed words) k
text_is [] k a less = absurd (omega (arith, less))
text_is (w ∷ words) zero a less = refl
text_is (w ∷ words) (suc k) a less = text_is words k a (omega (arith, less))
