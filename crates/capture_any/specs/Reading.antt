-- What a reader of a capture stands for, and what its answers mean.
use Rattle.std.specs.Prelude.{ℕ, ◌≡◌, ◌≤◌, ◌<◌, ◌^◌, Bool, List, [], ◌++◌, length, take, Option}
use Rattle.std.specs.Prelude.{Some, None, Result, Ok, Err}
use Rattle.std.specs.Io.KnownBytes.{Consumes}
use Rattle.la_base.specs.Samples.{samples}
use Rattle.la_base.specs.declared.samples.Rate.{Rate}
use Rattle.la_base.specs.declared.samples.Run.{Run}
use Rattle.la_io.specs.declared.fault.CaptureError.{CaptureError}
use Rattle.la_io.specs.declared.fault.CaptureError.TheVariants.{Fault, Read, NoMemory}
use Rattle.la_io.specs.Capture.{Told, AtEnd, Cut, Good, Bad, Unread, Clean, Faulty, Open, Captured}
use Rattle.la_io.specs.Capture.{Ends}
use Rattle.capture_raw.specs.Reader.{Stands as RawStands, raw_channels, raw_rate, raw_pins}
use Rattle.capture_raw.specs.Reader.{raw_open, raw_given}
use Rattle.capture_vcd.specs.Reader.{VcdStands, vcd_down, vcd_given, vcd_names, vcd_open, vcd_rate}
use Rattle.capture_vcd.specs.Reader as vcd
use Rattle.capture_csv.specs.Reader.{CsvStands, csv_given, csv_header, csv_mode, csv_names}
use Rattle.capture_csv.specs.Reader.{csv_open, csv_pins, csv_rate}
use Rattle.capture_any.specs.Captures.{capture_of, Later, ToldAt, WantsMemoryAt}
use Rattle.capture_any.specs.declared.capture.Capture.{Capture}
use Rattle.capture_any.specs.declared.form.Form.{Form}
use Rattle.capture_any.specs.declared.form.Form.TheVariants.{Raw, Vcd, Csv}
use Rattle.capture_any.specs.declared.reader.Reader.{Reader}
use Rattle.capture_any.specs.declared.reader.Reader.TheVariants.{Raw as OfRaw, Vcd as OfVcd}
use Rattle.capture_any.specs.declared.reader.Reader.TheVariants.{Csv as OfCsv}

-- the form that a reader was opened with
abbrev pub form_in : Reader → Form
form_in (OfRaw raw) = Raw (raw_channels raw.reader) (raw_rate raw.reader)
form_in (OfVcd reader) = Vcd (vcd_down reader)
form_in (OfCsv reader) = Csv (csv_mode reader) (csv_header reader) (csv_rate reader)

-- the channels that are the bits of its samples; none before `select`
abbrev pub pins_in : Reader → List ℕ
pins_in (OfRaw raw) = raw_pins raw.reader
pins_in (OfVcd reader) = vcd.pins_in reader
pins_in (OfCsv reader) = csv_pins reader

-- the names of its channels
abbrev pub names_in : Reader → List (List ℕ)
names_in (OfRaw raw) = raw.names
names_in (OfVcd reader) = vcd_names reader
names_in (OfCsv reader) = csv_names reader

-- the samples a second
abbrev pub rate_in : Reader → Rate
rate_in (OfRaw raw) = raw_rate raw.reader
rate_in (OfVcd reader) = vcd_rate reader
rate_in (OfCsv reader) = csv_rate reader

-- whether there may be more to come
abbrev pub open_in : Reader → Bool
open_in (OfRaw raw) = raw_open raw.reader
open_in (OfVcd reader) = vcd_open reader
open_in (OfCsv reader) = csv_open reader

-- a measure that rises by at least the samples of each run
abbrev pub given_in : Reader → ℕ
given_in (OfRaw raw) = raw_given raw.reader
given_in (OfVcd reader) = vcd_given reader
given_in (OfCsv reader) = csv_given reader

-- it took these bytes, whose end the source told or not, and gave these samples; a raw reader that
-- is told the end gives no more
abbrev pub StandsIn : Reader → List ℕ → Told → List ℕ → Type 0
StandsIn (OfRaw raw) bytes told given = (told ≡ Cut) × RawStands raw.reader bytes given
StandsIn (OfVcd reader) bytes told given = VcdStands reader bytes told given
StandsIn (OfCsv reader) bytes told given = CsvStands reader bytes told given

-- the form that a capture was opened with
abbrev pub form_of : Capture → Form
form_of capture = form_in capture.reader

-- the channels that are the bits of its samples; none before `select`
abbrev pub pins_of : Capture → List ℕ
pins_of capture = pins_in capture.reader

-- the names of its channels
abbrev pub names_of : Capture → List (List ℕ)
names_of capture = names_in capture.reader

-- the rate of its samples
abbrev pub rate_of : Capture → Rate
rate_of capture = rate_in capture.reader

-- what a capture was opened as and selected for stays
pub record SameSetup (old new : Capture) : Type 0 where
  pub form : form_of new ≡ form_of old
  pub pins : pins_of new ≡ pins_of old
  pub names : names_of new ≡ names_of old
  pub rate : rate_of new ≡ rate_of old

-- whether there may be more to come
abbrev pub is_open_of : Capture → Bool
is_open_of capture = open_in capture.reader

-- a measure that rises by at least the samples of each run, and never passes 2^60
abbrev pub given_by : Capture → ℕ
given_by capture = given_in capture.reader

-- it took these bytes, whose end the source told or not, and gave these samples
pub record Stands (capture : Capture) (bytes : List ℕ) (told : Told) (given : List ℕ) : Type 0 where
  pub stands : StandsIn capture.reader bytes told given
  pub few : given_by capture ≤ 2 ^ 60

-- what these bytes give, with its form and pins
abbrev pub capture_by : Capture → List ℕ → Told → Captured
capture_by capture bytes told = capture_of (form_of capture) (pins_of capture) bytes told

-- what an answer says of all bytes taken, whose end is told now or not, where these samples were
-- given before it
abbrev pub Answers : Capture → List ℕ → Told → List ℕ → Result (Option Run) CaptureError → Type 0
Answers capture bytes told given (Ok (Some run)) = Stands capture bytes told (given ++ samples run)
Answers capture bytes told given (Ok None) =
    (told ≡ AtEnd) × Ends (capture_by capture bytes told) given Clean
Answers capture bytes told given (Err (Fault fault)) =
    Ends (capture_by capture bytes told) given (Faulty fault)
Answers capture bytes told given (Err Read) =
    (told ≡ Cut) × Ends (capture_by capture bytes told) given Open
Answers capture bytes told given (Err NoMemory) =
    (count : ℕ) × (count < length bytes) × WantsMemoryAt (form_of capture) bytes count
    × (given ≡ (capture_by capture (take count bytes) Cut).settled)

-- the same, where these bytes were taken in this call, and whether the end was told before it
pub record Answered (capture : Capture) (left : Option (List ℕ)) (before : List ℕ) (then : Told)
    (bytes given : List ℕ) (result : Result (Option Run) CaptureError) : Type 0 where
  pub told : Told
  pub later : Later then bytes told
  pub at_end : ToldAt told left
  pub answers : Answers capture (before ++ bytes) told given result

-- one call of `next`: the bytes that it took, and what its answer means behind them
pub record Next (old new : Capture) (left_old left_new : Option (List ℕ))
    (result : Result (Option Run) CaptureError) : Type 0 where
  pub bytes : List ℕ
  pub consumed : Consumes left_old left_new bytes
  pub answers : (before : List ℕ) (told : Told) (given : List ℕ) → ToldAt told left_old
      → Stands old before told given → Answered new left_new before told bytes given result

-- what opening means, where these bytes were taken: the head is whole, or it has a fault, or the
-- source failed in it
abbrev pub Opened : Form → List ℕ → Option (List ℕ) → Result Capture CaptureError → Type 0
Opened form bytes left (Ok capture) =
    (told : Told) × ToldAt told left × Stands capture bytes told []
    × ((capture_of form [] bytes told).head
    ≡ Good (names_of capture) (rate_of capture).num (rate_of capture).den)
Opened form bytes left (Err (Fault fault)) =
    (told : Told) × ToldAt told left × ((capture_of form [] bytes told).head ≡ Bad fault)
Opened form bytes left (Err Read) = (capture_of form [] bytes Cut).head ≡ Unread
Opened form bytes left (Err NoMemory) = Unit {0}

-- a call of `open`: the bytes that it took, and what its answer means behind them
pub record Opens (form : Form) (left_old left_new : Option (List ℕ))
    (result : Result Capture CaptureError) : Type 0 where
  pub bytes : List ℕ
  pub consumed : Consumes left_old left_new bytes
  pub opened : Opened form bytes left_new result
