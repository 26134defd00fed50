-- What the steps mean that a reader of VCD captures takes in a call.
use Rattle.rate_math.specs.Scale.{in_second}
use Rattle.capture_vcd.specs.Reader.{Going, HoldsNothing, IsNew, Midway, StepAnswers, VcdStands}
use Rattle.capture_vcd.specs.Reader.{vcd_given, vcd_open}
use Rattle.la_io.specs.Reading.{Reads, step_of}
use Rattle.std.specs.Prelude.{ℕ, ◌≡◌, ◌+◌, ◌*◌, ◌<◌, Bool, true, false, List, [], ◌++◌, Option}
use Rattle.std.specs.Prelude.{Some, None, Result, Ok, Err}
use Rattle.la_base.specs.Samples.{samples}
use Rattle.la_base.specs.declared.samples.Run.{Run}
use Rattle.la_io.specs.declared.fault.CaptureError.{CaptureError}
use Rattle.la_io.specs.declared.fault.CaptureError.TheVariants as error
use Rattle.la_io.specs.Capture.{Told}
use Rattle.byte_feed.specs.Reader.{left_of}
use Rattle.capture_vcd.specs.Running.{BodyStands, channels_in}
use Rattle.la_io.specs.declared.fault.CaptureFault.TheVariants.{NoTimescale}
use Rattle.byte_feed.specs.declared.tokens.Tokens.{Tokens}
use Rattle.capture_vcd.specs.declared.header.Header.{Header}
use Rattle.capture_vcd.specs.declared.scale.Scale.{Scale}
use Rattle.capture_vcd.specs.declared.reader.VcdReader.{VcdReader}
use Rattle.capture_vcd.specs.declared.reader.Phase.{Phase}
use Rattle.capture_vcd.specs.declared.reader.Phase.TheVariants.{Fresh, Running, Ended, Refused}
use Rattle.la_io.specs.declared.answer.Step.{Step}
use Rattle.la_io.specs.declared.answer.Step.TheVariants.{Went, Gave, Over}

-- whether it may read more of the body
abbrev pub is_going : Phase → Bool
is_going Fresh = true
is_going Running = true
is_going Ended = false
is_going (Refused fault) = false

-- the run of a step, if it gave one
abbrev pub run_of : Step → Option Run
run_of Went = None
run_of (Gave run) = Some run
run_of Over = None

-- what a step means that took no byte
abbrev pub HeldAnswers : VcdReader → List ℕ → Told → List ℕ → Step → Type 0
HeldAnswers reader bytes told given Went = Midway reader bytes told given
HeldAnswers reader bytes told given (Gave run) = VcdStands reader bytes told (given ++ samples run)
HeldAnswers reader bytes told given Over = VcdStands reader bytes told given

abbrev pub HeldSteps : VcdReader → VcdReader → Step → Type 0
HeldSteps old new step =
    (bytes : List ℕ) (told : Told) (given : List ℕ) → Midway old bytes told given
    → HeldAnswers new bytes told given step

-- behind a token that gave no samples it goes on, and less is left; at the end nothing is held
abbrev pub HeldWent : VcdReader → VcdReader → Step → Type 0
HeldWent old new Went = (new.phase ≡ Running) × (left_of new.tokens < left_of old.tokens)
HeldWent old new (Gave run) = Unit {0}
HeldWent old new Over = HoldsNothing new

-- the samples that were held back were given
abbrev pub Flushed : VcdReader → VcdReader → Option Run → Type 0
Flushed old new None =
    (bytes : List ℕ) (told : Told) (given : List ℕ) → Going old bytes told given
    → Going new bytes told given
Flushed old new (Some run) =
    (bytes : List ℕ) (told : Told) (given : List ℕ) → Going old bytes told given
    → VcdStands new bytes told (given ++ samples run)

-- one token: the bytes that it took, and what the answer means behind them
abbrev pub Steps : VcdReader → VcdReader → Option (List ℕ) → Option (List ℕ)
    → Result Step CaptureError → Type 0
Steps old new left_old left_new result =
    Reads left_old left_new (Going old) (λ all told given. StepAnswers new all told given result)

-- behind a token that gave no samples it reads on, and less is left; behind a run it is open; else
-- it is closed
abbrev pub WentOn : VcdReader → VcdReader → Result Step CaptureError → Type 0
WentOn old new (Ok Went) =
    (is_going new.phase ≡ true) × (vcd_open new ≡ true) × (left_of new.tokens < left_of old.tokens)
    × (vcd_given new ≡ vcd_given old)
WentOn old new (Ok (Gave run)) = (vcd_open new ≡ true) × (vcd_given old + run.len ≡ vcd_given new)
WentOn old new (Ok Over) = vcd_open new ≡ false
WentOn old new (Err why) = vcd_open new ≡ false

-- the same for the tokens up to a run, or the end
abbrev pub Nexts : VcdReader → VcdReader → Option (List ℕ) → Option (List ℕ)
    → Result (Option Run) CaptureError → Type 0
Nexts old new left_old left_new result = Steps old new left_old left_new (step_of result)

-- a reader behind a whole header, or the fault that no time scale came
abbrev pub Makes : Tokens → Header → ℕ → Result VcdReader CaptureError → Type 0
Makes tokens header down (Ok reader) =
    (scale : Scale) × (header.scale ≡ Some scale) × (reader.tokens ≡ tokens)
    × BodyStands reader.body [] [] × (reader.body.codes ≡ header.codes)
    × (channels_in reader.body ≡ [])
    × (reader.names ≡ header.names) × (reader.places ≡ header.places)
    × (reader.rate.num ≡ in_second scale.unit) × (reader.rate.den ≡ scale.count * down)
    × (reader.phase ≡ Fresh) × IsNew down reader
Makes tokens header down (Err why) = (header.scale ≡ None) × (why ≡ error.Fault NoTimescale)
