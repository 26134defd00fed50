-- What holds of every capture, and of every reader of one.
use Rattle.std.specs.Prelude.{ℕ, ◌≡◌, List, ◌++◌}
use Rattle.la_io.specs.declared.fault.CaptureFault.{CaptureFault}
use Rattle.la_io.specs.Capture.{Told, Cut, Good, Bad, Faulty}
use Rattle.capture_any.specs.Captures.{IsForm, capture_of}
use Rattle.capture_any.specs.Reading.{Stands, capture_by}
use Rattle.capture_any.specs.declared.capture.Capture.{Capture}
use Rattle.capture_any.specs.declared.form.Form.{Form}

-- the settled samples of a cut front are a prefix of those of every longer input
abbrev pub LongerExtends : Type 0
LongerExtends = (form : Form) (pins front more : List ℕ) (told : Told) → IsForm form
    → (rest : List ℕ)
    × ((capture_of form pins (front ++ more) told).settled
    ≡ (capture_of form pins front Cut).settled ++ rest)

-- where a cut front holds a fault, every longer input gives the same: this fault and these samples
abbrev pub FaultStays : Type 0
FaultStays = (form : Form) (pins front more : List ℕ) (told : Told) (fault : CaptureFault)
    → (capture_of form pins front Cut).ending ≡ Faulty fault
    → capture_of form pins (front ++ more) told ≡ capture_of form pins front Cut

-- a head that is whole in a cut front is the head of every longer input, and so is its fault
pub record HeadStays : Type 0 where
  pub good : (form : Form) (pins front more : List ℕ) (told : Told) (names : List (List ℕ))
      (num den : ℕ)
      → (capture_of form pins front Cut).head ≡ Good names num den
      → (capture_of form pins (front ++ more) told).head ≡ Good names num den
  pub bad : (form : Form) (pins front more : List ℕ) (told : Told) (fault : CaptureFault)
      → (capture_of form pins front Cut).head ≡ Bad fault
      → (capture_of form pins (front ++ more) told).head ≡ Bad fault

-- the head is the same whatever the pins are
abbrev pub PinsLeaveTheHead : Type 0
PinsLeaveTheHead =
    (form : Form) (pins others bytes : List ℕ) (told : Told)
    → (capture_of form pins bytes told).head ≡ (capture_of form others bytes told).head

-- how the bytes end is the same whatever the pins are
abbrev pub PinsLeaveTheEnding : Type 0
PinsLeaveTheEnding =
    (form : Form) (pins others bytes : List ℕ) (told : Told)
    → (capture_of form pins bytes told).ending ≡ (capture_of form others bytes told).ending

-- what a reader has given is a front of what the bytes that it took settle
abbrev pub GivenIsFront : Type 0
GivenIsFront =
    (capture : Capture) (bytes : List ℕ) (told : Told) (given : List ℕ)
    → Stands capture bytes told given
    → (rest : List ℕ) × ((capture_by capture bytes told).settled ≡ given ++ rest)
