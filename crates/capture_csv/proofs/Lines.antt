-- The record of a line.
use Rattle.std.proofs.Common.{◌≡◌, ℕ, ◌+◌, ◌≤◌, List, [], ◌∷◌, ◌++◌, length, map, sym, ◌∙◌, ap, subst, arith, length-append, Option, Some, None, Bool, true, false, cond}
use Rattle.csv.specs.Machine.{Read, field_after, fields_after, is_end, next_record, step, ends_at_end}
use Rattle.csv.specs.Reading.{default_config}
use Rattle.csv.specs.declared.parser.Action.{Action}
use Rattle.csv.specs.declared.parser.Action.TheVariants as act
use Rattle.csv.specs.declared.parser.State.{State}
use Rattle.csv.specs.declared.parser.State.TheVariants as st
use Rattle.la_io.specs.declared.fault.CaptureFault.{CaptureFault}
use Rattle.la_io.specs.declared.fault.CaptureFault.TheVariants.{Columns}
use Rattle.capture_csv.specs.Fields.{fields_in, record_fields}
use Rattle.capture_csv.specs.Records.{Record, trimmed}
use Rattle.capture_csv.specs.Running.{BodyAt, BodyFaulty, BodyStands, FoundIs, SameButLevels, held_in, pins_in, row_of}
use Rattle.capture_csv.specs.declared.body.Body.{Body}
use Rattle.la_base.specs.declared.modes.CsvMode.{CsvMode}
use Rattle.capture_csv.specs.declared.span.Found.{Found}
use Rattle.capture_csv.proofs.Taking.{body_faulty, columns_said}

-- a line has no more fields than bytes, and one more
after_len : (a : Action) (fields : List (List ℕ)) (field : List ℕ) → length (fields_after a fields field) ≤ length fields + 1
after_len act.EndField fields field = omega (arith, length-append fields (field ∷ []))
after_len act.EndRecord fields field = omega (arith, length-append fields (field ∷ []))
after_len act.Skip fields field = omega arith
after_len act.Copy fields field = omega arith

reads_few : (s : State) (fields : List (List ℕ)) (field line : List ℕ) → length (record_fields (next_record default_config s fields field line)) ≤ length fields + 1 + length line
unfolding next_record
reads_few s fields field [] = by_end (ends_at_end s) where
  by_end : (b : Bool) → length (record_fields (cond {A = Option Read} b (Some (fields ++ field ∷ [], st.StartRecord, [])) None)) ≤ length fields + 1 + 0
  by_end true = omega (arith, length-append fields (field ∷ []))
  by_end false = omega arith
reads_few s fields field (c ∷ line) =
    let q = step default_config s c in
    let few = after_len q.1 fields field in
    let rest = reads_few q.0 (fields_after q.1 fields field) (field_after q.1 c field) line in
    by_end (is_end q.1) few rest
  where
    by_end : (b : Bool) → length (fields_after (step default_config s c).1 fields field) ≤ length fields + 1
        → length (record_fields (next_record default_config (step default_config s c).0 (fields_after (step default_config s c).1 fields field) (field_after (step default_config s c).1 c field) line)) ≤ length (fields_after (step default_config s c).1 fields field) + 1 + length line
        → length (record_fields (cond {A = Option Read} b (Some (fields_after (step default_config s c).1 fields field, (step default_config s c).0, line)) (next_record default_config (step default_config s c).0 (fields_after (step default_config s c).1 fields field) (field_after (step default_config s c).1 c field) line))) ≤ length fields + 1 + length (c ∷ line)
    by_end true few rest = omega (arith, few)
    by_end false few rest = omega (arith, few, rest)

pub fields_few : (line : List ℕ) → length (fields_in line) ≤ length line + 1
unfolding fields_in
fields_few line = let few = reads_few st.StartRecord [] [] line in omega (arith, few)

-- a record of too many or too few fields
pub columns_fault : (body : Body) (records : List Record) (given : List ℕ) (line have : ℕ) (text : List ℕ) (f : CaptureFault) → (have ≡ body.want → ⊥) → have ≡ length (map trimmed (fields_in text)) → f ≡ Columns line body.want have
    → BodyStands body records given → held_in body ≡ false → BodyFaulty body (records ++ row_of line text ∷ []) given f
columns_fault body records given line have text f other have_is is stands held =
    subst (λ (x : CaptureFault). BodyFaulty body (records ++ row_of line text ∷ []) given x) (ap (λ (n : ℕ). Columns line body.want n) (sym have_is) ∙ sym is)
    (body_faulty body body.levels.items records given line (map trimmed (fields_in text)) _ stands held
    (columns_said body.mode body.rate.num body.rate.den body.want records stands.taken line (map trimmed (fields_in text)) stands.read (λ e. other (have_is ∙ e))))

-- the same body with other levels
pub still_stands : (old mid : Body) (records : List Record) (given : List ℕ) → SameButLevels old mid → BodyStands old records given → BodyAt mid.mode mid.rate mid.want (pins_in mid) old.levels.items mid.word mid.span mid.held records given
still_stands old mid records given form stands =
    coe 0 1 (i. BodyAt (sym form.mode i) (sym form.rate i) (sym form.want i) (sym form.pins i).items old.levels.items (sym form.word i) (sym form.span i) (sym form.held i) records given) stands

pub found_of : (mode other : CsvMode) (fields others : List (List ℕ)) (levels : List Bool) (found : Found) → other ≡ mode → fields ≡ others → FoundIs mode (map trimmed fields) levels found → FoundIs other (map trimmed others) levels found
found_of mode other fields others levels found same is h = coe 0 1 (i. FoundIs (sym same i) (map trimmed (is i)) levels found) h
