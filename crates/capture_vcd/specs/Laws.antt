-- What holds of every VCD capture.
use Rattle.std.specs.Prelude.{ℕ, ◌≡◌, ◌<◌, List, ◌++◌}
use Rattle.la_io.specs.declared.fault.CaptureFault.{CaptureFault}
use Rattle.la_io.specs.Capture.{Told, Cut, Good, Bad, Faulty, Captured}
use Rattle.capture_vcd.specs.Vcd.{vcd_capture}

-- what a longer input keeps of a front that is cut: its samples are the first, where each stands
-- for one unit of time at least; a fault of it is the fault with the same samples, and so is its
-- head
pub record GoesOn (down : ℕ) (front whole : Captured) : Type 0 where
  pub settled : 0 < down → (rest : List ℕ) × (whole.settled ≡ front.settled ++ rest)
  pub fault : (fault : CaptureFault) → front.ending ≡ Faulty fault → whole ≡ front
  pub good : (names : List (List ℕ)) (num den : ℕ) → front.head ≡ Good names num den
      → whole.head ≡ Good names num den
  pub bad : (fault : CaptureFault) → front.head ≡ Bad fault → whole.head ≡ Bad fault

abbrev pub LongerGoesOn : Type 0
LongerGoesOn =
    (down : ℕ) (pins front more : List ℕ) (told : Told)
    → GoesOn down (vcd_capture down pins front Cut) (vcd_capture down pins (front ++ more) told)

-- which channels are selected says nothing of the head
abbrev pub PinsLeaveTheHead : Type 0
PinsLeaveTheHead =
    (down : ℕ) (pins others bytes : List ℕ) (told : Told)
    → (vcd_capture down pins bytes told).head ≡ (vcd_capture down others bytes told).head

-- and nothing of how it ends
abbrev pub PinsLeaveTheEnding : Type 0
PinsLeaveTheEnding =
    (down : ℕ) (pins others bytes : List ℕ) (told : Told)
    → (vcd_capture down pins bytes told).ending ≡ (vcd_capture down others bytes told).ending
