-- What the reading of the first record means.
use Rattle.std.specs.Prelude.{ℕ, ◌≡◌, ◌^◌, ◌<◌, ◌≤◌, length, Bool, true, false, List, [], ◌∷◌, ◌++◌}
use Rattle.std.specs.Prelude.{Option, Some, None, Result, Ok, Err}
use Rattle.std.specs.Io.KnownBytes.{Consumes, IsAtEnd}
use Rattle.text_parts.specs.Places.{Placed}
use Rattle.la_base.specs.declared.names.NoMemory.{NoMemory}
use Rattle.la_base.specs.declared.samples.Rate.{Rate}
use Rattle.la_io.specs.Capture.{Told, AtEnd, Cut, Good, Bad, Unread, Clean, Faulty, Open}
use Rattle.la_io.specs.declared.fault.CaptureError.{CaptureError}
use Rattle.la_io.specs.declared.fault.CaptureError.TheVariants as error
use Rattle.la_io.specs.declared.fault.CaptureFault.TheVariants.{TooMany}
use Rattle.byte_feed.specs.LineReader.{Stands, taken_of, text_of}
use Rattle.byte_feed.specs.Lines.{lines_of}
use Rattle.byte_feed.specs.declared.lines.Lines.{Lines}
use Rattle.capture_csv.specs.Csv.{body_of, channel_fields, csv_capture, names_by}
use Rattle.capture_csv.specs.Reader.{CsvStands, csv_header, csv_mode, csv_names, csv_open, csv_pins}
use Rattle.capture_csv.specs.Reader.{csv_rate}
use Rattle.capture_csv.specs.Records.{Record, is_passed, records_in, without_marks}
use Rattle.capture_csv.specs.Running.{BodyFaulty, BodyStands, row_of, want_in}
use Rattle.capture_csv.specs.declared.body.Body.{Body}
use Rattle.la_base.specs.declared.modes.CsvMode.{CsvMode}
use Rattle.capture_csv.specs.declared.phase.Phase.{Phase}
use Rattle.capture_csv.specs.declared.phase.Phase.TheVariants.{Running, Ended, Empty, Refused}
use Rattle.capture_csv.specs.declared.reader.CsvReader.{CsvReader}

-- these bytes have no record yet
pub record Blank (lines : Lines) (left : Option (List ℕ)) (bytes : List ℕ) : Type 0 where
  pub told : Told
  pub items : List Placed
  pub at_end : told ≡ AtEnd → IsAtEnd left
  pub stands : Stands lines bytes told items
  pub none : records_in items ≡ []

-- the first record came: its line was given last
pub record HasFirst (lines : Lines) (left : Option (List ℕ)) (bytes : List ℕ)
    (number : ℕ) : Type 0 where
  pub told : Told
  pub items : List Placed
  pub at_end : told ≡ AtEnd → IsAtEnd left
  pub stands : Stands lines bytes told (items ++ (number, text_of lines) ∷ [])
  pub none : records_in items ≡ []
  pub some : is_passed (without_marks (text_of lines)) ≡ false
  pub few : taken_of lines ≤ 2 ^ 60

-- what an answer says of the bytes that were taken
abbrev pub FirstSays : Lines → Option (List ℕ) → List ℕ → Result (Option ℕ) CaptureError → Type 0
FirstSays lines left bytes (Ok (Some number)) = HasFirst lines left bytes number
FirstSays lines left bytes (Ok None) =
    (items : List Placed) × IsAtEnd left
    × (lines_of bytes AtEnd ≡ record { items = items; ending = Clean }) × (records_in items ≡ [])
FirstSays lines left bytes (Err (error.Fault fault)) =
    (told : Told) × (items : List Placed) × (told ≡ AtEnd → IsAtEnd left)
    × (lines_of bytes told ≡ record { items = items; ending = Faulty fault })
    × (records_in items ≡ [])
FirstSays lines left bytes (Err error.Read) =
    (items : List Placed) × (lines_of bytes Cut ≡ record { items = items; ending = Open })
    × (records_in items ≡ [])
FirstSays lines left bytes (Err error.NoMemory) = ⊥

pub record FirstReads (old new : Lines) (left_old left_new : Option (List ℕ))
    (result : Result (Option ℕ) CaptureError) : Type 0 where
  pub bytes : List ℕ
  pub consumed : Consumes left_old left_new bytes
  pub says : (before : List ℕ) → Blank old left_old before
      → FirstSays new left_new (before ++ bytes) result

-- what opening means, where these bytes were taken: the head is whole, or it has a fault, or the
-- source failed in it
abbrev pub Opened : CsvMode → Bool → Rate → List ℕ → Option (List ℕ) → Result CsvReader CaptureError
    → Type 0
Opened mode header rate bytes left (Ok reader) =
    (told : Told) × (told ≡ AtEnd → IsAtEnd left) × CsvStands reader bytes told []
    × ((csv_capture mode header rate.num rate.den [] bytes told).head
    ≡ Good (csv_names reader) rate.num rate.den)
Opened mode header rate bytes left (Err (error.Fault fault)) =
    (told : Told) × (told ≡ AtEnd → IsAtEnd left)
    × ((csv_capture mode header rate.num rate.den [] bytes told).head ≡ Bad fault)
Opened mode header rate bytes left (Err error.Read) =
    (csv_capture mode header rate.num rate.den [] bytes Cut).head ≡ Unread
Opened mode header rate bytes left (Err error.NoMemory) = Unit {0}

-- a call of `open`: the bytes that it took, and what its answer means behind them
pub record Opens (mode : CsvMode) (header : Bool) (rate : Rate)
    (left_old left_new : Option (List ℕ)) (result : Result CsvReader CaptureError) : Type 0 where
  pub bytes : List ℕ
  pub consumed : Consumes left_old left_new bytes
  pub opened : Opened mode header rate bytes left_new result

-- the reader of such a capture that has given nothing
pub record IsNew (mode : CsvMode) (header : Bool) (rate : Rate) (reader : CsvReader) : Type 0 where
  pub mode_is : csv_mode reader ≡ mode
  pub header_is : csv_header reader ≡ header
  pub rate_is : csv_rate reader ≡ rate
  pub no_pins : csv_pins reader ≡ []
  pub is_open : csv_open reader ≡ true

-- a body that begins with this record, or the fault that it has
abbrev pub StartsAs : Phase → Bool → Body → Record → Type 0
StartsAs Running header body first = BodyStands body (body_of header first []) []
StartsAs Ended header body first = ⊥
StartsAs Empty header body first = ⊥
StartsAs (Refused fault) header body first =
    (header ≡ false) × BodyFaulty body (first ∷ []) [] fault

-- a reader behind its first record, or the fault that this is too wide
abbrev pub Makes : Lines → ℕ → CsvMode → Bool → Rate → Result CsvReader CaptureError → Type 0
Makes lines number mode header rate (Ok reader) =
    (reader.lines ≡ lines)
    × (length (channel_fields mode (row_of number (without_marks (text_of lines))).1) ≤ 4096)
    × (want_in reader.body ≡ length (row_of number (without_marks (text_of lines))).1)
    × (csv_names reader ≡ names_by mode header (row_of number (without_marks (text_of lines))).1)
    × IsNew mode header rate reader
    × StartsAs reader.phase header reader.body (row_of number (without_marks (text_of lines)))
Makes lines number mode header rate (Err (error.Fault fault)) =
    (fault ≡ TooMany number)
    × (4096 < length (channel_fields mode (row_of number (without_marks (text_of lines))).1))
Makes lines number mode header rate (Err error.Read) = ⊥
Makes lines number mode header rate (Err error.NoMemory) = Unit {0}

-- a reader where there is no record
abbrev pub MakesEmpty : CsvMode → Bool → Rate → Result CsvReader CaptureError → Type 0
MakesEmpty mode header rate (Ok reader) =
    IsNew mode header rate reader × (csv_names reader ≡ []) × (reader.phase ≡ Empty)
MakesEmpty mode header rate (Err why) = why ≡ error.NoMemory

-- the first record, where it is one of the body: it is held, or it has a fault
abbrev pub BeginSays : Bool → Body → Body → ℕ → List ℕ → Result Phase NoMemory → Type 0
BeginSays header old new line text (Ok phase) =
    BodyStands old [] [] → StartsAs phase header new (row_of line text)
BeginSays header old new line text (Err none) = Unit {0}
