-- What a raw reader stands for, and what its answers mean.
use Rattle.std.specs.Prelude.{ℕ, ◌≡◌, ◌-◌, ◌*◌, ◌≤◌, Bool, true, false, List, ◌++◌, length, take}
use Rattle.std.specs.Prelude.{drop, Option, Result, Ok, Err}
use Rattle.std.specs.Io.KnownBytes.{Consumes, IsAtEnd}
use Rattle.la_base.specs.Samples.{samples}
use Rattle.la_base.specs.declared.samples.Rate.{Rate}
use Rattle.la_base.specs.declared.samples.Run.{Run}
use Rattle.la_io.specs.declared.outside.Failed.{Failed}
use Rattle.la_io.specs.declared.fault.CaptureFault.TheVariants.{ShortUnit as ShortUnitFault}
use Rattle.la_io.specs.declared.fault.CaptureFault.TheVariants.{Bytes as BytesFault}
use Rattle.la_io.specs.Capture.{Told, AtEnd, Cut, Clean, Faulty, Open, Captured, Ends}
use Rattle.la_io.specs.Intake.{Front}
use Rattle.capture_raw.specs.Raw.{unit_len, raw_samples, raw_capture}
use Rattle.capture_raw.specs.declared.reader.RawReader.{RawReader}
use Rattle.capture_raw.specs.declared.step.RawStep.{RawStep}
use Rattle.capture_raw.specs.declared.step.RawStep.TheVariants.{Run as GaveRun, End, ShortUnit}
use Rattle.capture_raw.specs.declared.step.RawStep.TheVariants.{Bytes}

-- these bytes were taken and these samples given: what is held is what their units leave
pub record StandsAt (unit : ℕ) (pins : List ℕ) (front : Front) (bytes given : List ℕ) : Type 0 where
  pub taken : front.taken ≡ length bytes
  pub within : length given * unit ≤ length bytes
  pub held : front.bytes ≡ drop (length given * unit) bytes
  pub gave : given ≡ raw_samples unit pins (take (length given * unit) bytes)

-- the parts of a reader: its channels, their rate, the pins, and whether it is open
abbrev pub raw_channels : RawReader → ℕ
raw_channels r = r.channels

abbrev pub raw_rate : RawReader → Rate
raw_rate r = r.rate

abbrev pub raw_pins : RawReader → List ℕ
raw_pins r = r.pins.items

abbrev pub raw_open : RawReader → Bool
raw_open r = r.«open»

-- the bytes that it holds and has not given
abbrev pub raw_held : RawReader → List ℕ
raw_held r = r.held.bytes

-- how many bytes it has taken
abbrev pub raw_taken : RawReader → ℕ
raw_taken r = r.held.taken

-- how many bytes it has given as runs
abbrev pub raw_given : RawReader → ℕ
raw_given r = raw_taken r - length (raw_held r)

-- the bytes in a unit
abbrev pub raw_unit : RawReader → ℕ
raw_unit r = unit_len (raw_channels r)

-- the reader has taken these bytes, and given these samples
abbrev pub Stands : RawReader → List ℕ → List ℕ → Type 0
Stands r bytes given = StandsAt (raw_unit r) (raw_pins r) r.held bytes given

-- what these bytes give, with its channels, rate and pins
abbrev pub raw_cap : RawReader → List ℕ → Told → Captured
raw_cap r bytes told = raw_capture (raw_channels r) (raw_rate r) (raw_pins r) bytes told

-- what an answer means, where these bytes were taken and these samples were given before it
abbrev pub MeansAt : ℕ → Rate → List ℕ → Front → List ℕ → List ℕ → Result RawStep Failed → Type 0
MeansAt channels rate pins front bytes given (Ok (GaveRun run)) =
    StandsAt (unit_len channels) pins front bytes (given ++ samples run)
MeansAt channels rate pins front bytes given (Ok End) =
    Ends (raw_capture channels rate pins bytes AtEnd) given Clean
MeansAt channels rate pins front bytes given (Ok (ShortUnit at)) =
    Ends (raw_capture channels rate pins bytes AtEnd) given (Faulty (ShortUnitFault at))
MeansAt channels rate pins front bytes given (Ok Bytes) =
    (told : Told) → Ends (raw_capture channels rate pins bytes told) given (Faulty BytesFault)
MeansAt channels rate pins front bytes given (Err failed) =
    Ends (raw_capture channels rate pins bytes Cut) given Open

-- the same, with the parts of the reader behind the answer
abbrev pub Means : RawReader → List ℕ → List ℕ → Result RawStep Failed → Type 0
Means r bytes given result =
    MeansAt (raw_channels r) (raw_rate r) (raw_pins r) r.held bytes given result

-- whether the reader is open behind an answer
abbrev pub stays_open : Result RawStep Failed → Bool
stays_open (Ok (GaveRun run)) = true
stays_open (Ok End) = false
stays_open (Ok (ShortUnit at)) = false
stays_open (Ok Bytes) = false
stays_open (Err failed) = false

-- an answer that speaks of the end comes where the source told it
abbrev pub ToldEnd : Option (List ℕ) → Result RawStep Failed → Type 0
ToldEnd left (Ok End) = IsAtEnd left
ToldEnd left (Ok (ShortUnit at)) = IsAtEnd left
ToldEnd left (Ok (GaveRun run)) = Unit {0}
ToldEnd left (Ok Bytes) = Unit {0}
ToldEnd left (Err failed) = Unit {0}

-- this is said of a run
abbrev pub IfRun : Result RawStep Failed → (Run → Type 0) → Type 0
IfRun (Ok (GaveRun run)) Said = Said run
IfRun (Ok End) Said = Unit {0}
IfRun (Ok (ShortUnit at)) Said = Unit {0}
IfRun (Ok Bytes) Said = Unit {0}
IfRun (Err failed) Said = Unit {0}

-- one call: the bytes that it took, and what its answer means behind them
pub record Next (old new : RawReader) (left_old left_new : Option (List ℕ))
    (result : Result RawStep Failed) : Type 0 where
  pub bytes : List ℕ
  pub consumed : Consumes left_old left_new bytes
  pub told : ToldEnd left_new result
  pub means : (before given : List ℕ) → Stands old before given
      → Means new (before ++ bytes) given result

-- channels, rate and pins stay
pub record SameForm (old new : RawReader) : Type 0 where
  pub channels : raw_channels new ≡ raw_channels old
  pub rate : raw_rate new ≡ raw_rate old
  pub pins : raw_pins new ≡ raw_pins old

-- these samples were made of units at the front of what was held, and the units were let go
pub record Gives (unit : ℕ) (pins : List ℕ) (old new : Front) (given : List ℕ) : Type 0 where
  pub within : length given * unit ≤ length old.bytes
  pub same_samples : given ≡ raw_samples unit pins (take (length given * unit) old.bytes)
  pub held : new.bytes ≡ drop (length given * unit) old.bytes
  pub taken : new.taken ≡ old.taken

-- the same of a reader, and nothing else changed
pub record LetsGo (old new : RawReader) (given : List ℕ) : Type 0 where
  pub gives : Gives (raw_unit old) (raw_pins old) old.held new.held given
  pub form : SameForm old new
  pub is_open : raw_open new ≡ raw_open old
