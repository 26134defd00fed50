-- What a reader of CSV captures stands for behind its first record, and what its answers mean.
use Rattle.std.specs.Prelude.{ℕ, ◌≡◌, ◌+◌, ◌-◌, ◌^◌, ◌<◌, ◌≤◌, nat_lt, Bool, true, false}
use Rattle.std.specs.Prelude.{if◌then◌else◌, List, [], ◌∷◌, ◌++◌, length, slice_index, take, Option}
use Rattle.std.specs.Prelude.{Some, None, Result, Ok, Err}
use Rattle.text_parts.specs.Places.{Placed}
use Rattle.la_base.specs.Samples.{samples}
use Rattle.la_base.specs.declared.samples.Rate.{Rate}
use Rattle.la_base.specs.declared.samples.Run.{Run}
use Rattle.la_io.specs.Capture.{Told, AtEnd, Cut, Clean, Faulty, Open, Captured, Ends}
use Rattle.la_io.specs.Reading.{Reads, step_of}
use Rattle.la_io.specs.declared.fault.CaptureError.{CaptureError}
use Rattle.la_io.specs.declared.fault.CaptureError.TheVariants as error
use Rattle.la_io.specs.declared.fault.CaptureFault.{CaptureFault}
use Rattle.byte_feed.specs.Parts.{Fed, behind}
use Rattle.byte_feed.specs.Lines.{lines_of}
use Rattle.byte_feed.specs.declared.lines.Lines.{Lines}
use Rattle.byte_feed.specs.LineReader.{Stands, is_spent, left_of, number_of, taken_of, text_of}
use Rattle.capture_csv.specs.Csv.{body_of, channel_fields, csv_capture, names_by}
use Rattle.capture_csv.specs.Plain.{NeedsCsv}
use Rattle.capture_csv.specs.Records.{Record, records_in, without_marks}
use Rattle.capture_csv.specs.Running.{BodyStands, at_in, held_in, mode_in, pins_in, rate_in}
use Rattle.capture_csv.specs.Running.{want_in}
use Rattle.la_base.specs.declared.modes.CsvMode.{CsvMode}
use Rattle.la_base.specs.declared.modes.CsvMode.TheVariants.{Rows, Times}
use Rattle.capture_csv.specs.declared.reader.CsvReader.{CsvReader}
use Rattle.capture_csv.specs.declared.phase.Phase.{Phase}
use Rattle.capture_csv.specs.declared.phase.Phase.TheVariants.{Running, Ended, Empty, Refused}
use Rattle.la_io.specs.declared.answer.Step.{Step}
use Rattle.la_io.specs.declared.answer.Step.TheVariants.{Went, Gave, Over}

-- what a record is, whether the first one gives names, and the rate
abbrev pub csv_mode : CsvReader → CsvMode
csv_mode reader = mode_in reader.body

abbrev pub csv_header : CsvReader → Bool
csv_header reader = reader.header

abbrev pub csv_rate : CsvReader → Rate
csv_rate reader = rate_in reader.body

-- the channels that are the bits of its samples; none before `select`
abbrev pub csv_pins : CsvReader → List ℕ
csv_pins reader = pins_in reader.body

-- the names of its channels
abbrev pub csv_names : CsvReader → List (List ℕ)
csv_names reader = reader.names

-- whether there may be more to come
abbrev pub csv_open : CsvReader → Bool
csv_open reader = reader.is_open

-- a measure that rises by at least the samples of each run: lines, where a record is a sample; else
-- samples
abbrev pub given_at : CsvMode → Phase → ℕ → Bool → ℕ → ℕ
given_at Rows phase lines held at = lines - (if held then 1 else 0)
given_at Times Running lines held at = at
given_at Times Ended lines held at = at + 1
given_at Times Empty lines held at = at
given_at Times (Refused fault) lines held at = at

abbrev pub csv_given : CsvReader → ℕ
csv_given reader =
    given_at (csv_mode reader) reader.phase (number_of reader.lines) (held_in reader.body)
    (at_in reader.body)

-- what these bytes give, with its channels and its rate
abbrev pub csv_by : CsvReader → List ℕ → Told → Captured
csv_by reader bytes told =
    csv_capture (csv_mode reader) (csv_header reader) (csv_rate reader).num (csv_rate reader).den
    (csv_pins reader) bytes told

-- a first record that isn't too wide, and what is kept of it
pub record FirstIs (mode : CsvMode) (header : Bool) (want : ℕ) (names : List (List ℕ))
    (first : Record) : Type 0 where
  pub few : nat_lt 4096 (length (channel_fields mode first.1)) ≡ false
  pub want_is : want ≡ length first.1
  pub names_are : names ≡ names_by mode header first.1

-- it reads the body
pub record Going (reader : CsvReader) (bytes : List ℕ) (told : Told) (given : List ℕ) : Type 0 where
  pub items : List Placed
  pub first : Record
  pub rest : List Record
  pub records : records_in items ≡ first ∷ rest
  pub head : FirstIs (csv_mode reader) (csv_header reader) (want_in reader.body)
      (csv_names reader) first
  pub fresh : is_spent reader.lines ≡ false
  pub lines : Stands reader.lines bytes told items
  pub few : taken_of reader.lines ≤ 2 ^ 60
  pub body : BodyStands reader.body (body_of (csv_header reader) first rest) given

-- it has given all, and some
pub record Done (reader : CsvReader) (bytes : List ℕ) (told : Told) (given : List ℕ) : Type 0 where
  pub told_end : told ≡ AtEnd
  pub ends : Ends (csv_by reader bytes told) given Clean
  pub some : 0 < length given

-- there is no record
pub record NoRecord (reader : CsvReader) (bytes : List ℕ) (told : Told)
    (given : List ℕ) : Type 0 where
  pub told_end : told ≡ AtEnd
  pub none : given ≡ []
  pub ends : (pins : List ℕ) → Ends
      (csv_capture (csv_mode reader) (csv_header reader) (csv_rate reader).num
      (csv_rate reader).den pins bytes told) [] Clean

-- the first record has this fault: there is no sample
pub record Stopped (fault : CaptureFault) (reader : CsvReader) (bytes : List ℕ) (told : Told)
    (given : List ℕ) : Type 0 where
  pub none : given ≡ []
  pub ends : (pins : List ℕ) → Ends
      (csv_capture (csv_mode reader) (csv_header reader) (csv_rate reader).num
      (csv_rate reader).den pins bytes told) [] (Faulty fault)

abbrev pub StandsAs : Phase → CsvReader → List ℕ → Told → List ℕ → Type 0
StandsAs Running reader bytes told given = Going reader bytes told given
StandsAs Ended reader bytes told given = Done reader bytes told given
StandsAs Empty reader bytes told given = NoRecord reader bytes told given
StandsAs (Refused fault) reader bytes told given = Stopped fault reader bytes told given

-- it took these bytes, whose end the source told or not, and gave these samples
abbrev pub CsvStands : CsvReader → List ℕ → Told → List ℕ → Type 0
CsvStands reader bytes told given = StandsAs reader.phase reader bytes told given

-- behind so many bytes, the last of which is a line feed, this line is the next
pub record NextLine (bytes : List ℕ) (count : ℕ) (line : Placed) : Type 0 where
  pub some : 0 < count
  pub feed : slice_index bytes (count - 1) ≡ 10
  pub lines : List Placed
  pub before : lines_of (take count bytes) Cut ≡ record { items = lines; ending = Open }
  pub told : Told
  pub rest : Fed
  pub all : lines_of bytes told ≡ behind (lines ++ line ∷ []) rest

-- the line behind so many bytes needs `csv`
abbrev pub CsvWants : List ℕ → ℕ → Type 0
CsvWants bytes count = (line : Placed) × NextLine bytes count line × NeedsCsv (without_marks line.1)

-- how many lines it took
abbrev pub csv_lines : CsvReader → ℕ
csv_lines reader = number_of reader.lines

-- memory is wanted for the line that was taken last: that stands behind so many bytes, and needs
-- `csv`
pub record WantsAt (lines : Lines) (bytes : List ℕ) (count : ℕ) : Type 0 where
  pub next : NextLine bytes count (number_of lines, text_of lines)
  pub needs : NeedsCsv (without_marks (text_of lines))

-- and this call took it
abbrev pub WantsLater : {T : Type 0} → CsvReader → CsvReader → Result T CaptureError → Type 0
WantsLater old new result = result ≡ Err error.NoMemory → csv_lines old < csv_lines new

-- what an answer says of all bytes taken
abbrev pub StepAnswers : CsvReader → List ℕ → Told → List ℕ → Result Step CaptureError → Type 0
StepAnswers reader bytes told given (Ok Went) = Going reader bytes told given
StepAnswers reader bytes told given (Ok (Gave run)) =
    CsvStands reader bytes told (given ++ samples run)
StepAnswers reader bytes told given (Ok Over) =
    (told ≡ AtEnd) × Ends (csv_by reader bytes told) given Clean
StepAnswers reader bytes told given (Err (error.Fault fault)) =
    Ends (csv_by reader bytes told) given (Faulty fault)
StepAnswers reader bytes told given (Err error.Read) =
    (told ≡ Cut) × Ends (csv_by reader bytes told) given Open
StepAnswers reader bytes told given (Err error.NoMemory) =
    (count : ℕ) × (count < length bytes) × WantsAt reader.lines bytes count
    × (given ≡ (csv_by reader (take count bytes) Cut).settled)

-- one line: the bytes that it took, and what the answer means behind them
abbrev pub Steps : CsvReader → CsvReader → Option (List ℕ) → Option (List ℕ)
    → Result Step CaptureError → Type 0
Steps old new left_old left_new result =
    Reads left_old left_new (Going old) (λ all told given. StepAnswers new all told given result)

-- its channels and its rate stay
pub record SameReader (old new : CsvReader) : Type 0 where
  pub mode : csv_mode new ≡ csv_mode old
  pub header : csv_header new ≡ csv_header old
  pub names : csv_names new ≡ csv_names old
  pub rate : csv_rate new ≡ csv_rate old
  pub pins : csv_pins new ≡ csv_pins old

-- behind a line that gave no samples it reads on, and less is left; behind a run it is open; else
-- it is closed
abbrev pub WentOn : CsvReader → CsvReader → Result Step CaptureError → Type 0
WentOn old new (Ok Went) =
    (new.phase ≡ Running) × (csv_open new ≡ true) × (left_of new.lines < left_of old.lines)
    × (csv_given old ≤ csv_given new)
WentOn old new (Ok (Gave run)) = (csv_open new ≡ true) × (csv_given old + run.len ≤ csv_given new)
WentOn old new (Ok Over) = csv_open new ≡ false
WentOn old new (Err why) = csv_open new ≡ false

-- the same for the lines up to a run, or the end
abbrev pub Nexts : CsvReader → CsvReader → Option (List ℕ) → Option (List ℕ)
    → Result (Option Run) CaptureError → Type 0
Nexts old new left_old left_new result = Steps old new left_old left_new (step_of result)

-- one call: the bytes that it took, and what its answer means behind them
abbrev pub Gives : CsvReader → CsvReader → Option (List ℕ) → Option (List ℕ)
    → Result (Option Run) CaptureError → Type 0
Gives old new left_old left_new result =
    Reads left_old left_new (CsvStands old)
    (λ all told given. StepAnswers new all told given (step_of result))

-- a run more
abbrev pub MoreGiven : CsvReader → CsvReader → Result (Option Run) CaptureError → Type 0
MoreGiven old new (Ok (Some run)) = csv_given old + run.len ≤ csv_given new
MoreGiven old new (Ok None) = Unit {0}
MoreGiven old new (Err why) = Unit {0}

-- what it has given is a front of what the bytes that it took settle
abbrev pub GivenIsFront : Type 0
GivenIsFront =
    (reader : CsvReader) (bytes : List ℕ) (told : Told) (given : List ℕ)
    → CsvStands reader bytes told given
    → (rest : List ℕ) × ((csv_by reader bytes told).settled ≡ given ++ rest)

-- these samples were given, and no byte was taken
abbrev pub GaveHeld : CsvReader → CsvReader → List ℕ → Type 0
GaveHeld old new more =
    (bytes : List ℕ) (told : Told) (given : List ℕ) → CsvStands old bytes told given
    → CsvStands new bytes told (given ++ more)

-- the same of a reader of the body
abbrev pub GoesHeld : CsvReader → CsvReader → List ℕ → Type 0
GoesHeld old new more =
    (bytes : List ℕ) (told : Told) (given : List ℕ) → Going old bytes told given
    → Going new bytes told (given ++ more)

-- what one line that is held answers: nothing was given and no line taken, or one that gave no
-- samples, or these
abbrev pub HeldLine : CsvReader → CsvReader → Option Step → Type 0
HeldLine old new None =
    GoesHeld old new [] × (held_in new.body ≡ false) × (csv_given old ≤ csv_given new)
HeldLine old new (Some Went) =
    GoesHeld old new [] × (left_of new.lines < left_of old.lines) × (csv_given old ≤ csv_given new)
HeldLine old new (Some (Gave run)) =
    GoesHeld old new (samples run) × (held_in new.body ≡ false)
    × (csv_given old + run.len ≤ csv_given new)
HeldLine old new (Some Over) = ⊥

-- a sample that was held is given
abbrev pub FlushedRun : CsvReader → CsvReader → Option Run → Type 0
FlushedRun old new None = (new ≡ old) × (held_in old.body ≡ false)
FlushedRun old new (Some run) =
    (bytes : List ℕ) (told : Told) (given : List ℕ) → Going old bytes told given
    → Going new bytes told (given ++ samples run)

-- what an answer says of a line that was read: it reads on, or has an error
abbrev pub LineSays : CsvReader → List ℕ → Told → List ℕ → Result Step CaptureError → Type 0
LineSays reader bytes told given (Ok Went) = Going reader bytes told given
LineSays reader bytes told given (Ok (Gave run)) = Going reader bytes told (given ++ samples run)
LineSays reader bytes told given (Ok Over) = ⊥
LineSays reader bytes told given (Err why) = StepAnswers reader bytes told given (Err why)

-- what a line says behind those before it, where it was read
abbrev pub LineAnswers : CsvReader → CsvReader → ℕ → Result Step CaptureError → Type 0
LineAnswers old new number result =
    (bytes : List ℕ) (told : Told) (given : List ℕ) (items : List Placed) (first : Record)
    (rest : List Record) → records_in items ≡ first ∷ rest
    → FirstIs (csv_mode old) (csv_header old) (want_in old.body) (csv_names old) first
    → Stands old.lines bytes told (items ++ (number, text_of old.lines) ∷ [])
    → taken_of old.lines ≤ 2 ^ 60 → is_spent old.lines ≡ false
    → BodyStands old.body (body_of (csv_header old) first rest) given
    → LineSays new bytes told given result

-- it read no further line, and is open behind all but an error; a run has as many samples as it
-- went on
abbrev pub LineGoes : CsvReader → CsvReader → Result Step CaptureError → Type 0
LineGoes old new (Ok Went) =
    (new.phase ≡ old.phase) × (csv_open new ≡ true) × (new.lines ≡ old.lines)
    × (at_in new.body ≡ at_in old.body)
LineGoes old new (Ok (Gave run)) =
    (new.phase ≡ old.phase) × (csv_open new ≡ true) × (new.lines ≡ old.lines)
    × (csv_mode old ≡ Times) × (at_in old.body + run.len ≡ at_in new.body)
LineGoes old new (Ok Over) = ⊥
LineGoes old new (Err why) = csv_open new ≡ false
