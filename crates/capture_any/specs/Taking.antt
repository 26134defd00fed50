-- What a reader answers that gives several runs at once.
use Rattle.std.specs.Prelude.{ℕ, Bool, true, false, List, ◌++◌, Option, None, Result, Ok, Err}
use Rattle.std.specs.Io.KnownBytes.{Consumes}
use Rattle.la_base.specs.Runs.{samples_of}
use Rattle.la_base.specs.declared.samples.Run.{Run}
use Rattle.la_io.specs.declared.fault.CaptureError.{CaptureError}
use Rattle.la_io.specs.Capture.{Told}
use Rattle.capture_raw.specs.Reader.{Stands as RawStands}
use Rattle.capture_raw.specs.declared.reader.RawReader.{RawReader}
use Rattle.capture_any.specs.Captures.{Later, ToldAt}
use Rattle.capture_any.specs.Reading.{Stands, Next}
use Rattle.capture_any.specs.declared.capture.Capture.{Capture}

-- these samples were given, and no byte was taken
abbrev pub GaveHeld : Capture → Capture → List ℕ → Type 0
GaveHeld old new more =
    (bytes : List ℕ) (told : Told) (given : List ℕ) → Stands old bytes told given
    → Stands new bytes told (given ++ more)

-- these bytes were taken, and these samples given behind them
pub record GaveMore (old new : Capture) (left_old left_new : Option (List ℕ))
    (more : List ℕ) : Type 0 where
  pub bytes : List ℕ
  pub consumed : Consumes left_old left_new bytes
  pub answers : (before : List ℕ) (early : Told) (given : List ℕ) → ToldAt early left_old
      → Stands old before early given
      → (told : Told) × Later early bytes told × ToldAt told left_new
      × Stands new (before ++ bytes) told (given ++ more)

-- runs were given, or what `next` answers where it gives none
abbrev pub Gives : Capture → Capture → Option (List ℕ) → Option (List ℕ) → List Run
    → Result Bool CaptureError → Type 0
Gives old new left_old left_new runs (Ok true) =
    GaveMore old new left_old left_new (samples_of runs)
Gives old new left_old left_new runs (Ok false) = Next old new left_old left_new (Ok None)
Gives old new left_old left_new runs (Err error) = Next old new left_old left_new (Err error)

-- whether a capture is open behind an answer
abbrev pub open_behind : Result Bool CaptureError → Bool
open_behind (Ok more) = more
open_behind (Err error) = false

-- a raw reader gave these samples of what it had read
abbrev pub RawGave : RawReader → RawReader → List ℕ → Type 0
RawGave old new more =
    (bytes given : List ℕ) → RawStands old bytes given → RawStands new bytes (given ++ more)
