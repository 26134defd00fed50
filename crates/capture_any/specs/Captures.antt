-- What the bytes of a capture give, by its form.
use Rattle.std.specs.Prelude.{ℕ, ◌≡◌, ◌≤◌, ◌^◌, List, [], Option}
use Rattle.std.specs.Io.KnownBytes.{IsAtEnd}
use Rattle.la_base.specs.declared.samples.TheConstants.{MOST_PINS}
use Rattle.la_io.specs.Capture.{Told, AtEnd, Captured}
use Rattle.capture_raw.specs.Raw.{raw_capture}
use Rattle.capture_vcd.specs.Vcd.{vcd_capture}
use Rattle.capture_csv.specs.Csv.{csv_capture}
use Rattle.capture_csv.specs.Reader.{CsvWants}
use Rattle.capture_any.specs.declared.form.Form.{Form}
use Rattle.capture_any.specs.declared.form.Form.TheVariants.{Raw, Vcd, Csv}

-- what bytes give in this form, with these channels as the bits of the samples
abbrev pub capture_of : Form → List ℕ → List ℕ → Told → Captured
capture_of (Raw channels rate) pins bytes told = raw_capture channels rate pins bytes told
capture_of (Vcd down) pins bytes told = vcd_capture down pins bytes told
capture_of (Csv mode header rate) pins bytes told =
    csv_capture mode header rate.num rate.den pins bytes told

-- the source told its end only where no byte is left
abbrev pub ToldAt : Told → Option (List ℕ) → Type 0
ToldAt told left = told ≡ AtEnd → IsAtEnd left

-- these bytes were taken since then: none where the end was told, and it stays told
pub record Later (then : Told) (bytes : List ℕ) (now : Told) : Type 0 where
  pub none : then ≡ AtEnd → bytes ≡ []
  pub still : then ≡ AtEnd → now ≡ AtEnd

-- a form that can be opened
abbrev pub IsForm : Form → Type 0
IsForm (Raw channels rate) = (1 ≤ channels) × (channels ≤ MOST_PINS) × (rate.num ≤ 10 ^ 15)
IsForm (Vcd down) = (1 ≤ down) × (down ≤ 1000000000)
IsForm (Csv mode header rate) = rate.num ≤ 10 ^ 15

-- a form whose head takes no bytes
abbrev pub HasNoHead : Form → Type 0
HasNoHead (Raw channels rate) = Unit {0}
HasNoHead (Vcd down) = ⊥
HasNoHead (Csv mode header rate) = ⊥

-- a form whose samples take no memory
abbrev pub TakesNoMemory : Form → Type 0
TakesNoMemory (Raw channels rate) = Unit {0}
TakesNoMemory (Vcd down) = Unit {0}
TakesNoMemory (Csv mode header rate) = ⊥

-- a reader of this form that took these bytes may want memory where it has given what the first
-- `count` of them settle
abbrev pub WantsMemoryAt : Form → List ℕ → ℕ → Type 0
WantsMemoryAt (Raw channels rate) bytes count = ⊥
WantsMemoryAt (Vcd down) bytes count = ⊥
WantsMemoryAt (Csv mode header rate) bytes count = CsvWants bytes count
