-- What holds of every CSV capture.
use Rattle.std.specs.Prelude.{ℕ, ◌≡◌, Bool, List, ◌++◌}
use Rattle.la_io.specs.declared.fault.CaptureFault.{CaptureFault}
use Rattle.la_io.specs.Capture.{Told, Cut, Good, Bad, Faulty, Captured}
use Rattle.capture_csv.specs.Csv.{csv_capture}
use Rattle.la_base.specs.declared.modes.CsvMode.{CsvMode}

-- what a longer input keeps of a front that is cut: its samples are the first; a fault of it is the
-- fault with the same samples, and so is its head
pub record GoesOn (front whole : Captured) : Type 0 where
  pub settled : (rest : List ℕ) × (whole.settled ≡ front.settled ++ rest)
  pub fault : (fault : CaptureFault) → front.ending ≡ Faulty fault → whole ≡ front
  pub good : (names : List (List ℕ)) (num den : ℕ) → front.head ≡ Good names num den
      → whole.head ≡ Good names num den
  pub bad : (fault : CaptureFault) → front.head ≡ Bad fault → whole.head ≡ Bad fault

abbrev pub LongerGoesOn : Type 0
LongerGoesOn =
    (mode : CsvMode) (header : Bool) (num den : ℕ) (pins front more : List ℕ) (told : Told)
    → GoesOn (csv_capture mode header num den pins front Cut)
    (csv_capture mode header num den pins (front ++ more) told)

-- which channels are selected says nothing of the head
abbrev pub PinsLeaveTheHead : Type 0
PinsLeaveTheHead =
    (mode : CsvMode) (header : Bool) (num den : ℕ) (pins others bytes : List ℕ) (told : Told)
    → (csv_capture mode header num den pins bytes told).head
    ≡ (csv_capture mode header num den others bytes told).head

-- and nothing of how it ends
abbrev pub PinsLeaveTheEnding : Type 0
PinsLeaveTheEnding =
    (mode : CsvMode) (header : Bool) (num den : ℕ) (pins others bytes : List ℕ) (told : Told)
    → (csv_capture mode header num den pins bytes told).ending
    ≡ (csv_capture mode header num den others bytes told).ending
