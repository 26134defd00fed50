-- What readers of captures answer, and when.
use Rattle.std.specs.Prelude.{ℕ, ◌≡◌, ◌≤◌, Bool, true, false, List, [], ◌++◌, Option, Some, None}
use Rattle.std.specs.Prelude.{Result, Ok, Err}
use Rattle.std.specs.Io.KnownBytes.{Consumes, IsAtEnd}
use Rattle.la_base.specs.Samples.{samples}
use Rattle.la_base.specs.declared.samples.Run.{Run}
use Rattle.la_io.specs.declared.answer.Step.{Step}
use Rattle.la_io.specs.declared.answer.Step.TheVariants.{Gave, Over}
use Rattle.la_io.specs.declared.fault.CaptureError.{CaptureError}
use Rattle.la_io.specs.declared.fault.CaptureError.TheVariants.{Fault, Read, NoMemory}
use Rattle.la_io.specs.Capture.{Told, AtEnd}
use Rattle.la_io.specs.Causes.{Rose}

-- the source failed where the answer is Read, and only there; nothing was read behind a failure
abbrev pub CaptureCause : {T : Type 0} → ℕ → ℕ → Result T CaptureError → Type 0
CaptureCause before now (Ok x) = now ≡ before
CaptureCause before now (Err (Fault fault)) = now ≡ before
CaptureCause before now (Err Read) = (before ≤ now) × Rose before now
CaptureCause before now (Err NoMemory) = now ≡ before

-- whether a reader is open behind an answer
abbrev pub stays_open : Result (Option Run) CaptureError → Bool
stays_open (Ok (Some run)) = true
stays_open (Ok None) = false
stays_open (Err error) = false

-- an answer as that of the part that gave it
abbrev pub step_of : Result (Option Run) CaptureError → Result Step CaptureError
step_of (Ok (Some run)) = Ok (Gave run)
step_of (Ok None) = Ok Over
step_of (Err why) = Err why

-- the samples of a run, if there is one
abbrev pub run_samples : Option Run → List ℕ
run_samples None = []
run_samples (Some run) = samples run

-- what is said behind bytes that were taken, none where the end was told before, and it stays told
pub record Behind (left : Option (List ℕ)) (before : List ℕ) (early : Told) (bytes : List ℕ)
    (Says : List ℕ → Told → Type 0) : Type 0 where
  pub told : Told
  pub none : early ≡ AtEnd → bytes ≡ []
  pub still : early ≡ AtEnd → told ≡ AtEnd
  pub at_end : told ≡ AtEnd → IsAtEnd left
  pub says : Says (before ++ bytes) told

-- a call: the bytes that it took, and what is said behind them of a reader that stood for those
-- before and for what was given
pub record Reads (left_old left_new : Option (List ℕ))
    (Stood Says : List ℕ → Told → List ℕ → Type 0) : Type 0 where
  pub bytes : List ℕ
  pub consumed : Consumes left_old left_new bytes
  pub answers : (before : List ℕ) (early : Told) (given : List ℕ)
      → (early ≡ AtEnd → IsAtEnd left_old) → Stood before early given
      → Behind left_new before early bytes (λ all told. Says all told given)
