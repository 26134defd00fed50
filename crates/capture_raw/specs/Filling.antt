-- Bytes that are taken until a unit is held.
use Rattle.std.specs.Prelude.{ℕ, ◌≤◌, ◌<◌, ◌^◌, List, length, Option, Result, Ok, Err}
use Rattle.std.specs.Io.KnownBytes.{IsAtEnd}
use Rattle.la_io.specs.Intake.{Front, Takes}
use Rattle.capture_raw.specs.declared.filled.Filled.{Filled}
use Rattle.capture_raw.specs.declared.filled.Filled.TheVariants.{Unit as Holds, End, Full, Failed}

-- what is held behind each outcome: a unit, or less than one, with the end told, with 2^60 bytes
-- taken, or with neither
abbrev pub FilledBy : ℕ → Front → Option (List ℕ) → Filled → Type 0
FilledBy unit front left Holds = unit ≤ length front.bytes
FilledBy unit front left End = (length front.bytes < unit) × (front.taken < 2 ^ 60) × IsAtEnd left
FilledBy unit front left Full = (length front.bytes < unit) × (2 ^ 60 ≤ front.taken)
FilledBy unit front left Failed = (length front.bytes < unit) × (front.taken < 2 ^ 60)

-- these bytes were taken, and this is what is then held
pub record Fills (unit : ℕ) (old new : Front) (left_old left_new : Option (List ℕ))
    (result : Filled) : Type 0 where
  pub bytes : List ℕ
  pub takes : Takes old new left_old left_new bytes
  pub filled : FilledBy unit new left_new result

-- whether the source failed
abbrev pub outcome : Filled → Result (Unit {0}) (Unit {0})
outcome Holds = Ok tt
outcome End = Ok tt
outcome Full = Ok tt
outcome Failed = Err tt
