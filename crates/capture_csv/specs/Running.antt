-- What the reader of a body stands for, and what its answers mean.
use Rattle.std.specs.Prelude.{ℕ, ◌≡◌, ◌+◌, ◌-◌, ◌*◌, Bool, true, false, List, [], ◌∷◌, ◌++◌, length}
use Rattle.std.specs.Prelude.{map, replicate, Option, Some, None, Result, Ok, Err}
use Rattle.la_base.specs.declared.names.NoMemory.{NoMemory}
use Rattle.la_base.specs.declared.samples.Rate.{Rate}
use Rattle.la_base.specs.declared.samples.Run.{Run}
use Rattle.la_io.specs.Capture.{Clean, Faulty, Open}
use Rattle.la_io.specs.Reading.{run_samples}
use Rattle.la_io.specs.declared.fault.CaptureFault.{CaptureFault}
use Rattle.capture_csv.specs.Csv.{Taken, last_time, record_says, settled_by, timed_words, word_of}
use Rattle.text_parts.specs.Reading.{read_front}
use Rattle.capture_csv.specs.Fields.{fields_in}
use Rattle.capture_csv.specs.Plain.{NeedsCsv}
use Rattle.capture_csv.specs.Records.{Record, is_passed, trimmed}
use Rattle.capture_csv.specs.Stretches.{TimesTo, levels_now}
use Rattle.capture_csv.specs.Times.{time_in}
use Rattle.capture_csv.specs.Values.{LevelsRead}
use Rattle.capture_csv.specs.Modes.{at_of}
use Rattle.capture_csv.specs.declared.body.Body.{Body}
use Rattle.capture_csv.specs.declared.span.Found.{Found}
use Rattle.capture_csv.specs.declared.span.Span.{Span}
use Rattle.la_base.specs.declared.modes.CsvMode.{CsvMode}
use Rattle.la_base.specs.declared.modes.CsvMode.TheVariants.{Rows, Times}

abbrev pub run_len : Option Run → ℕ
run_len None = 0
run_len (Some run) = run.len

pub record RunIs (value len : ℕ) (result : Option Run) : Type 0 where
  pub gives : run_samples result ≡ replicate len value
  pub len_is : run_len result ≡ len

-- the span before a time
abbrev pub SpanFrom : Option Span → ℕ → Span → Type 0
SpanFrom None time span = (span.start ≡ time) × (span.last ≡ time) × (span.at ≡ 0)
SpanFrom (Some before) time span = span ≡ before

-- the time of the first of some fields
abbrev pub first_time_in : List (List ℕ) → Option ℕ
first_time_in [] = None
first_time_in (field ∷ fields) = time_in (trimmed field)

-- what was found in the fields of a record
abbrev pub FoundIs : CsvMode → List (List ℕ) → List Bool → Found → Type 0
FoundIs Rows fields levels found = LevelsRead 1 fields levels found.bad
FoundIs Times [] levels found = (found.time ≡ None) × LevelsRead 2 [] levels found.bad
FoundIs Times (field ∷ fields) levels found =
    (found.time ≡ time_in field) × LevelsRead 2 fields levels found.bad

abbrev pub mode_in : Body → CsvMode
mode_in body = body.mode

abbrev pub rate_in : Body → Rate
rate_in body = body.rate

abbrev pub want_in : Body → ℕ
want_in body = body.want

abbrev pub pins_in : Body → List ℕ
pins_in body = body.pins.items

abbrev pub held_in : Body → Bool
held_in body = body.held

-- the sample of the last record
abbrev pub at_in : Body → ℕ
at_in body = at_of body.span

-- the levels of the last record and their word, where there is one
abbrev pub Keeps : List ℕ → List Bool → ℕ → List Taken → Type 0
Keeps pins levels word [] = Unit {0}
Keeps pins levels word (taken ∷ rest) =
    (levels ≡ levels_now taken.levels rest) × (word ≡ word_of pins (levels_now taken.levels rest))

-- the first time and the last one
abbrev pub SpanIs : Option Span → List Taken → Type 0
SpanIs None [] = Unit {0}
SpanIs None (taken ∷ rest) = ⊥
SpanIs (Some span) [] = ⊥
SpanIs (Some span) (taken ∷ rest) =
    (span.start ≡ taken.time) × (span.last ≡ last_time taken.time rest)
    × TimesTo span.last (taken ∷ rest)

abbrev pub Spans : CsvMode → Option Span → List Taken → Type 0
Spans Rows span taken = Unit {0}
Spans Times span taken = SpanIs span taken

abbrev pub words_of : List ℕ → List Taken → List ℕ
words_of pins taken = map (λ taken. word_of pins taken.levels) taken

-- the samples given: those of all records, or of all but the last
abbrev pub GaveRows : List ℕ → Bool → List Taken → List ℕ → Type 0
GaveRows pins false taken given = given ≡ words_of pins taken
GaveRows pins true taken given =
    (before : List Taken) × (last : Taken) × (taken ≡ before ++ last ∷ [])
    × (given ≡ words_of pins before)

abbrev pub Gave : CsvMode → Rate → List ℕ → Bool → List Taken → List ℕ → Type 0
Gave Rows rate pins held taken given = GaveRows pins held taken given
Gave Times rate pins held taken given =
    (held ≡ false) × (given ≡ timed_words rate.num rate.den pins taken Open)

-- these records have no fault, the levels and times are theirs, and the samples are those before
-- the last record's
pub record BodyAt (mode : CsvMode) (rate : Rate) (want : ℕ) (pins : List ℕ) (levels : List Bool)
    (word : ℕ) (span : Option Span) (held : Bool) (records : List Record)
    (given : List ℕ) : Type 0 where
  pub taken : List Taken
  pub read : read_front (record_says mode rate.num rate.den want) [] records ≡ (taken, None)
  pub keeps : Keeps pins levels word taken
  pub spans : Spans mode span taken
  pub gave : Gave mode rate pins held taken given

abbrev pub BodyStands : Body → List Record → List ℕ → Type 0
BodyStands body records given =
    BodyAt body.mode body.rate body.want
    (pins_in body) body.levels.items body.word body.span body.held records given

-- the records up to a fault, and the samples before it
pub record BodyFaulty (body : Body) (records : List Record) (given : List ℕ)
    (fault : CaptureFault) : Type 0 where
  pub taken : List Taken
  pub read : read_front (record_says body.mode body.rate.num body.rate.den body.want) [] records
      ≡ (taken, Some fault)
  pub gave : given
      ≡ settled_by body.mode body.rate.num body.rate.den (pins_in body) taken (Faulty fault)

-- what the reading of a record answers, behind records and samples given
abbrev pub FieldsAnswer : Body → List Record → List ℕ → Result (Option Run) CaptureFault → Type 0
FieldsAnswer body records given (Ok run) = BodyStands body records (given ++ run_samples run)
FieldsAnswer body records given (Err fault) = BodyFaulty body records given fault

-- its settings stay
pub record SameBody (old new : Body) : Type 0 where
  pub mode : new.mode ≡ old.mode
  pub rate : new.rate ≡ old.rate
  pub want : new.want ≡ old.want
  pub pins : pins_in new ≡ pins_in old

-- what was found of the fields is taken behind the records before, whatever the levels were then:
-- `old` has those that were found
abbrev pub TakenSays : Body → Body → ℕ → Found → Result (Option Run) CaptureFault → Type 0
TakenSays old new line found result =
    (levels : List Bool) (fields : List (List ℕ)) (records : List Record) (given : List ℕ)
    → length fields ≡ want_in old → FoundIs (mode_in old) fields old.levels.items found
    → BodyAt old.mode old.rate old.want (pins_in old) levels old.word old.span old.held records
    given → held_in old ≡ false → FieldsAnswer new (records ++ (line, fields) ∷ []) given result

-- how many samples are given by a record with a time; none by one that is a sample: it is held
abbrev pub TakenCounts : Body → Body → Result (Option Run) CaptureFault → Type 0
TakenCounts old new (Ok run) = at_in old + run_len run ≡ at_in new
TakenCounts old new (Err why) = at_in new ≡ at_in old

-- the record of the text of a line
abbrev pub row_of : ℕ → List ℕ → Record
row_of line text = (line, map trimmed (fields_in text))

abbrev pub LineSays : Body → Body → ℕ → List ℕ → Result (Option Run) CaptureFault → Type 0
LineSays old new line text result =
    (records : List Record) (given : List ℕ) → BodyStands old records given → held_in old ≡ false
    → FieldsAnswer new (records ++ row_of line text ∷ []) given result

-- what the reading of a line answers: it takes memory only where the line needs `csv`
abbrev pub RecordSays : Body → Body → ℕ → List ℕ
    → Result (Result (Option Run) CaptureFault) NoMemory → Type 0
RecordSays old new line text (Ok said) = LineSays old new line text said
RecordSays old new line text (Err none) = (new ≡ old) × NeedsCsv text

-- this text is a record that is a sample, and the levels and their word are what it says
pub record IsRow (body : Body) (text : List ℕ) : Type 0 where
  pub rows : body.mode ≡ Rows
  pub some : is_passed text ≡ false
  pub all : length (fields_in text) ≡ body.want
  pub levels : LevelsRead 1 (map trimmed (fields_in text)) body.levels.items None
  pub word : body.word ≡ word_of (pins_in body) body.levels.items

-- how many bytes a line has of one digit a field, with quotes or none
abbrev pub RowLen : Body → Bool → ℕ → Type 0
RowLen body true len = len ≡ 4 * length body.levels.items - 1
RowLen body false len = len ≡ 2 * length body.levels.items - 1

abbrev pub Flushes : Body → Body → Option Run → Type 0
Flushes old new result =
    (records : List Record) (given : List ℕ) → BodyStands old records given
    → BodyStands new records (given ++ run_samples result)

-- at a clean end, where no record is held, these are the last samples
abbrev pub EndSays : Body → Option Run → Type 0
EndSays body result =
    (records : List Record) (given : List ℕ) → BodyStands body records given → held_in body ≡ false
    → (taken : List Taken)
    × (read_front (record_says body.mode body.rate.num body.rate.den body.want) [] records
    ≡ (taken, None))
    × (settled_by body.mode body.rate.num body.rate.den (pins_in body) taken Clean
    ≡ given ++ run_samples result)

pub record NewBody (mode : CsvMode) (rate : Rate) (want : ℕ) (body : Body) : Type 0 where
  pub stands : BodyStands body [] []
  pub mode_is : mode_in body ≡ mode
  pub rate_is : rate_in body ≡ rate
  pub want_is : want_in body ≡ want
  pub no_pins : pins_in body ≡ []
  pub none_held : held_in body ≡ false
  pub none : at_in body ≡ 0

-- it stands for the same, by other room for the levels of the next record
pub record SameStands (old new : Body) : Type 0 where
  pub form : SameBody old new
  pub levels : new.levels.items ≡ old.levels.items
  pub word : new.word ≡ old.word
  pub span : new.span ≡ old.span
  pub held : new.held ≡ old.held

-- only its levels change
pub record SameButLevels (old new : Body) : Type 0 where
  pub mode : new.mode ≡ old.mode
  pub rate : new.rate ≡ old.rate
  pub want : new.want ≡ old.want
  pub pins : new.pins ≡ old.pins
  pub word : new.word ≡ old.word
  pub span : new.span ≡ old.span
  pub held : new.held ≡ old.held
