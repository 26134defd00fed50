-- What `find` writes of samples.
use Rattle.std.specs.Prelude.{ℕ, List, [], Option}
use Rattle.std.specs.Io.KnownBytes.{Appends}
use Rattle.la_io.specs.Causes.{AppendsFront}
use Rattle.la_io.specs.Capture.{Told}
use Rattle.wait_cond.specs.Stops.{Stop, Chain, AreStops}
use Rattle.wait_cond.specs.declared.alt.Alt.{Alt}
use Rattle.capture_any.specs.Captures.{ToldAt}
use Rattle.capture_any.specs.Listings.{Lists}
use Rattle.capture_any.specs.Reading.{Stands, form_of, pins_of}
use Rattle.capture_any.specs.declared.capture.Capture.{Capture}
use Rattle.capture_any.specs.declared.end.ListingEnd.{ListingEnd}
use Rattle.listing_out.specs.StopLines.{lines_of}

-- the lines of all stops of the samples were appended
pub record WholeListing (samples : List ℕ) (alts : List Alt)
    (old new : Option (List ℕ)) : Type 0 where
  pub stops : List Stop
  pub all : AreStops samples alts stops
  pub written : Appends old new (lines_of stops)

-- a front of them was appended: of the lines of the first stops of the samples
pub record ListingFront (samples : List ℕ) (alts : List Alt)
    (old new : Option (List ℕ)) : Type 0 where
  pub stops : List Stop
  pub to : ℕ
  pub first : Chain samples alts 0 stops to
  pub written : AppendsFront old new (lines_of stops)

-- what an end of the search says of the bytes that were taken and of what was written, where the
-- capture had given no sample
abbrev pub Finds : Capture → List Alt
    → (left_old left_new written_old written_new : Option (List ℕ)) → ListingEnd → Type 0
Finds capture alts left_old left_new written_old written_new end =
    (before : List ℕ) (told : Told) → ToldAt told left_old → Stands capture before told []
    → Lists (form_of capture) (pins_of capture)
    (λ samples. WholeListing samples alts written_old written_new)
    (λ samples. ListingFront samples alts written_old written_new) before told left_old left_new end
