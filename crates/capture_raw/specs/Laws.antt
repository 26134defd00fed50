-- What holds of every raw capture, and of every reader of one.
use Rattle.std.specs.Prelude.{ℕ, ◌≡◌, ◌+◌, ◌*◌, ◌/◌, ◌%◌, ◌^◌, ◌<◌, ◌≤◌, List, ◌++◌, length}
use Rattle.std.specs.Prelude.{slice_index}
use Rattle.std.specs.Int.{bit_at}
use Rattle.la_base.specs.declared.samples.Rate.{Rate}
use Rattle.la_io.specs.declared.fault.CaptureFault.{CaptureFault}
use Rattle.la_io.specs.Capture.{Told, Cut, Faulty}
use Rattle.capture_raw.specs.Raw.{raw_samples, raw_capture}
use Rattle.capture_raw.specs.Reader.{Stands, raw_cap, raw_channels, raw_held, raw_taken, raw_given}
use Rattle.capture_raw.specs.declared.reader.RawReader.{RawReader}

-- the settled samples of a cut front are a prefix of those of every longer input
abbrev pub LongerExtends : Type 0
LongerExtends = (channels : ℕ) (rate : Rate) (pins front more : List ℕ) (told : Told) → 0 < channels
    → (rest : List ℕ)
    × ((raw_capture channels rate pins (front ++ more) told).settled
    ≡ (raw_capture channels rate pins front Cut).settled ++ rest)

-- where a cut front holds a fault, every longer input gives the same: this fault and these samples
abbrev pub FaultStays : Type 0
FaultStays =
    (channels : ℕ) (rate : Rate) (pins front more : List ℕ) (told : Told) (fault : CaptureFault)
    → (raw_capture channels rate pins front Cut).ending ≡ Faulty fault
    → raw_capture channels rate pins (front ++ more) told ≡ raw_capture channels rate pins front Cut

-- two readers of as many channels that stand for the same hold the same bytes, and have taken as
-- many
abbrev pub StandsFixes : Type 0
StandsFixes =
    (one other : RawReader) (bytes given : List ℕ) → raw_channels one ≡ raw_channels other
    → Stands one bytes given → Stands other bytes given
    → (raw_held one ≡ raw_held other) × (raw_taken one ≡ raw_taken other)

-- what a reader has given is a front of what the bytes that it took settle, also where it gives no
-- more
abbrev pub GivenIsFront : Type 0
GivenIsFront =
    (reader : RawReader) (bytes given : List ℕ) (told : Told) → Stands reader bytes given
    → raw_given reader ≤ 2 ^ 60
    → (rest : List ℕ) × ((raw_cap reader bytes told).settled ≡ given ++ rest)

-- a sample for each whole unit; its bit j is channel pins[j], which is a bit of the unit's bytes,
-- and above the pins it has none
pub record Levels (unit : ℕ) (pins bytes : List ℕ) : Type 0 where
  pub count : length (raw_samples unit pins bytes) ≡ length bytes / unit
  pub level : (q j : ℕ) → q < length bytes / unit → j < length pins → slice_index pins j < 8 * unit
      → bit_at (slice_index (raw_samples unit pins bytes) q) j
      ≡ bit_at (slice_index bytes (q * unit + slice_index pins j / 8)) (slice_index pins j % 8)
  pub above : (q j : ℕ) → length pins ≤ j
      → bit_at (slice_index (raw_samples unit pins bytes) q) j ≡ 0

-- the samples of bytes are the levels of channels
abbrev pub SamplesAreLevels : Type 0
SamplesAreLevels =
    (unit : ℕ) (pins bytes : List ℕ) → ((k : ℕ) → slice_index bytes k < 256)
    → Levels unit pins bytes
