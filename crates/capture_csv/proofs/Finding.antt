-- What is found in the fields of a record.
use Rattle.std.proofs.Common.{◌≡◌, ℕ, ◌<◌, List, [], ◌∷◌, ◌++◌, take, drop, length, map, get_or, refl, sym, ◌∙◌, ap, subst, arith, Bool, None, Ok}
use Rattle.std.proofs.lemmas.List.{nil_from_length, take-append-le, take_all}
use Rattle.capture_csv.specs.Modes.{skips}
use Rattle.capture_csv.specs.Records.{trimmed}
use Rattle.capture_csv.specs.Running.{FoundIs, first_time_in}
use Rattle.capture_csv.specs.Times.{time_in}
use Rattle.capture_csv.specs.Values.{LevelsRead}
use Rattle.la_base.specs.declared.modes.CsvMode.{CsvMode}
use Rattle.la_base.specs.declared.modes.CsvMode.TheVariants.{Rows, Times}
use Rattle.capture_csv.specs.declared.span.Found.{Found}

-- a list that is written over whole
pub written : (n : ℕ) (new old : List Bool) → length new ≡ length old → length old ≡ n → take n (new ++ drop (length new) old) ≡ new
written n new old same is = take-append-le n new (drop (length new) old) (omega (arith, same, is)) ∙ take_all n new (omega (arith, same, is))

-- a time, and the levels of the other fields
pub times_found : (mode : CsvMode) (fields : List (List ℕ)) (word : List ℕ) (rest : List (List ℕ)) (levels : List Bool) (found : Found) → mode ≡ Times → fields ≡ word ∷ rest → found.time ≡ time_in (trimmed word) → LevelsRead 2 (map trimmed rest) levels found.bad
    → FoundIs mode (map trimmed fields) levels found
times_found mode fields word rest levels found is fields_are time bad =
    subst (λ (m : CsvMode). FoundIs m (map trimmed fields) levels found) (sym is) (subst (λ (l : List (List ℕ)). FoundIs Times (map trimmed l) levels found) (sym fields_are) (time, bad))

pub times_skip : (mode : CsvMode) → mode ≡ Times → skips mode ≡ 1
times_skip mode is = ap (λ (m : CsvMode). skips m) is

-- no channels: no levels
pub no_levels : (levels : List Bool) → length levels ≡ 0 → LevelsRead 2 [] levels None
no_levels levels none line = ap (λ (l : List Bool). Ok l) (sym (nil_from_length levels none))

-- the first field of a record
pub time_none : (fields : List (List ℕ)) → length fields ≡ 0 → None ≡ first_time_in fields
time_none [] none = refl
time_none (field ∷ fields) none = absurd (omega (arith, none))

pub time_first : (fields : List (List ℕ)) → 0 < length fields → time_in (trimmed (get_or fields 0 [])) ≡ first_time_in fields
time_first [] some = absurd (omega (arith, some))
time_first (field ∷ fields) some = refl

-- a time, and the levels of the other fields, of any record
pub csv_found : (mode : CsvMode) (fields : List (List ℕ)) (levels : List Bool) (found : Found) → mode ≡ Times → found.time ≡ first_time_in fields → LevelsRead 2 (map trimmed (drop 1 fields)) levels found.bad → FoundIs mode (map trimmed fields) levels found
csv_found mode fields levels found is time bad = subst (λ (m : CsvMode). FoundIs m (map trimmed fields) levels found) (sym is) (by_fields fields time bad) where
  by_fields : (fields : List (List ℕ)) → found.time ≡ first_time_in fields → LevelsRead 2 (map trimmed (drop 1 fields)) levels found.bad → FoundIs Times (map trimmed fields) levels found
  by_fields [] time bad = (time, bad)
  by_fields (field ∷ fields) time bad = (time, bad)

-- the levels of a record that is a sample
pub rows_found : (mode : CsvMode) (fields : List (List ℕ)) (levels : List Bool) (found : Found) → mode ≡ Rows → LevelsRead 1 (map trimmed fields) levels found.bad → FoundIs mode (map trimmed fields) levels found
rows_found mode fields levels found is bad = subst (λ (m : CsvMode). FoundIs m (map trimmed fields) levels found) (sym is) bad
