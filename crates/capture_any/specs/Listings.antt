-- What was written of a capture's listing, by how the work ended. `Whole samples` says that the
-- listing of these samples was written, and `Front samples` that a front of it was.
use Rattle.std.specs.Prelude.{ℕ, ◌≡◌, ◌≤◌, ◌<◌, List, ◌++◌, length, take, Option}
use Rattle.std.specs.Io.KnownBytes.{Consumes}
use Rattle.la_io.specs.Capture.{Told, AtEnd, Cut, Clean, Faulty}
use Rattle.la_io.specs.Causes.{Rose}
use Rattle.capture_any.specs.Captures.{Later, ToldAt, WantsMemoryAt, capture_of}
use Rattle.capture_any.specs.declared.form.Form.{Form}
use Rattle.capture_any.specs.declared.end.ListingEnd.{ListingEnd}
use Rattle.capture_any.specs.declared.end.ListingEnd.TheVariants.{Done, Read, Write, Fault}
use Rattle.capture_any.specs.declared.end.ListingEnd.TheVariants.{NoMemory}

-- a front of the listing: of the samples that all these bytes settle; or of those that fewer bytes
-- settle, which are cut there, where a reader of the form wants memory
pub data SettledFront (form : Form) (pins : List ℕ) (Front : List ℕ → Type 0) (bytes : List ℕ)
    (told : Told) : Type 0 where
  OfAll : Front (capture_of form pins bytes told).settled → SettledFront form pins Front bytes told
  OfFewer : (count : ℕ) → count < length bytes → WantsMemoryAt form bytes count
      → Front (capture_of form pins (take count bytes) Cut).settled
      → SettledFront form pins Front bytes told

-- what an end says of the bytes that were taken, with these channels as the bits of the samples,
-- and of what was written
abbrev pub Says : Form → List ℕ → (List ℕ → Type 0) → (List ℕ → Type 0) → List ℕ → Told → ListingEnd
    → Type 0
Says form pins Whole Front bytes told Done =
    (told ≡ AtEnd) × ((capture_of form pins bytes told).ending ≡ Clean)
    × Whole (capture_of form pins bytes told).settled
Says form pins Whole Front bytes told Read =
    (told ≡ Cut) × Whole (capture_of form pins bytes told).settled
Says form pins Whole Front bytes told (Fault fault) =
    ((capture_of form pins bytes told).ending ≡ Faulty fault)
    × Whole (capture_of form pins bytes told).settled
Says form pins Whole Front bytes told Write = SettledFront form pins Front bytes told
Says form pins Whole Front bytes told NoMemory = SettledFront form pins Front bytes told

-- behind the bytes `before`, whose end was told then or not, these were taken, the source told
-- their end or didn't, and the end says what it says of all of them
pub record Lists (form : Form) (pins : List ℕ) (Whole Front : List ℕ → Type 0) (before : List ℕ)
    (then : Told) (left_old left_new : Option (List ℕ)) (end : ListingEnd) : Type 0 where
  pub bytes : List ℕ
  pub told : Told
  pub taken : Consumes left_old left_new bytes
  pub later : Later then bytes told
  pub at_end : ToldAt told left_new
  pub says : Says form pins Whole Front (before ++ bytes) told end

-- a count rose, and never fell
abbrev pub Fails : ℕ → ℕ → Type 0
Fails before now = (before ≤ now) × Rose before now

-- the source failed where the end is Read; where it failed the end is this, Write or NoMemory
abbrev pub ReadCause : ℕ → ℕ → ListingEnd → Type 0
ReadCause before now Done = now ≡ before
ReadCause before now Read = Fails before now
ReadCause before now Write = before ≤ now
ReadCause before now (Fault fault) = now ≡ before
ReadCause before now NoMemory = before ≤ now

-- the sink failed where the end is Write, and nowhere else
abbrev pub WriteCause : ℕ → ℕ → ListingEnd → Type 0
WriteCause before now Done = now ≡ before
WriteCause before now Read = now ≡ before
WriteCause before now Write = Fails before now
WriteCause before now (Fault fault) = now ≡ before
WriteCause before now NoMemory = now ≡ before
