-- What a pulse is on a line.
use Rattle.std.specs.Prelude.{ℕ, suc, ◌≡◌, ◌≤◌, ◌<◌, true, false, List, ◌∷◌, ◌++◌, length}
use Rattle.std.specs.Prelude.{slice_index}
use Rattle.la_base.specs.Samples.{is_high}
use Rattle.dec_onewire.specs.Link.{Pulse}

-- the line is high, then low from the fall on up to the rise, and high again there
pub record IsPulse (line : ℕ) (samples : List ℕ) (pulse : Pulse) : Type 0 where
  pub last_high : ℕ
  pub follows : pulse.fall ≡ suc last_high
  pub falls : is_high (slice_index samples last_high) line ≡ true
  pub some : pulse.fall < pulse.rise
  pub low : (k : ℕ) → pulse.fall ≤ k → k < pulse.rise → is_high (slice_index samples k) line ≡ false
  pub rises : is_high (slice_index samples pulse.rise) line ≡ true
  pub within : pulse.rise < length samples

-- a pulse stands in a list
abbrev pub StandsIn : Pulse → List Pulse → Type 0
StandsIn pulse list = (front : List Pulse) × (back : List Pulse) × (list ≡ front ++ pulse ∷ back)

-- the pulses of a line are those that stand in the list, and no others
abbrev pub ArePulses : ℕ → List ℕ → List Pulse → Type 0
ArePulses line samples list =
    ((pulse : Pulse) → StandsIn pulse list → IsPulse line samples pulse)
    × ((pulse : Pulse) → IsPulse line samples pulse → StandsIn pulse list)
