-- What a tree of decoders is fed with.
use Rattle.std.specs.Prelude.{ℕ, ◌≡◌, ◌≢◌, ◌≤◌, ◌^◌, Bool, true, false, List, [], length, Option}
use Rattle.std.specs.Prelude.{Some, None, Result, Ok, Err}
use Rattle.la_base.specs.Runs.{samples_of}
use Rattle.la_base.specs.declared.samples.Run.{Run}
use Rattle.la_io.specs.Capture.{Told}
use Rattle.la_io.specs.declared.fault.CaptureError.{CaptureError}
use Rattle.la_io.specs.declared.fault.CaptureError.TheVariants.{Fault as FaultError}
use Rattle.la_io.specs.declared.fault.CaptureError.TheVariants.{Read as ReadError}
use Rattle.la_io.specs.declared.fault.CaptureError.TheVariants.{NoMemory as NoMemoryError}
use Rattle.capture_any.specs.Captures.{ToldAt}
use Rattle.capture_any.specs.Listings.{Lists, ReadCause}
use Rattle.capture_any.specs.Reading.{Stands, form_of, given_by, is_open_of, pins_of}
use Rattle.capture_any.specs.Taking.{GaveMore}
use Rattle.capture_any.specs.declared.capture.Capture.{Capture}
use Rattle.capture_any.specs.declared.end.ListingEnd.{ListingEnd}
use Rattle.capture_any.specs.declared.end.ListingEnd.TheVariants.{Done, Read, Write, Fault}
use Rattle.capture_any.specs.declared.end.ListingEnd.TheVariants.{NoMemory}
use Rattle.decode_job.specs.declared.capture_feed.CaptureFeed.{CaptureFeed}

-- how a capture ended, where it answers that it has no more runs
abbrev pub ended : Result Bool CaptureError → Option ListingEnd
ended (Ok true) = None
ended (Ok false) = Some Done
ended (Err (FaultError fault)) = Some (Fault fault)
ended (Err ReadError) = Some Read
ended (Err NoMemoryError) = Some NoMemory

module _ {S : Type 0} (left : S → Option (List ℕ)) (faults : S → ℕ) where
  -- from the first capture and source to these, samples were given; where the capture is closed,
  -- these are all that its bytes settle, or those behind which the reader wanted memory
  abbrev pub Given : Bool → ListingEnd → Capture → Capture → S → S → List ℕ → Type 0
  Given true end first now source_first source_now samples =
      GaveMore first now (left source_first) (left source_now) samples
  Given false end first now source_first source_now samples =
      (before : List ℕ) (told : Told) → ToldAt told (left source_first)
      → Stands first before told []
      → Lists (form_of first) (pins_of first) (λ settled. settled ≡ samples)
      (λ settled. settled ≡ samples) before told (left source_first) (left source_now) end

  -- the source failed where the capture ended with Read, and nowhere else
  abbrev pub Caused : Bool → ListingEnd → S → S → Type 0
  Caused true end source_first source_now = faults source_now ≡ faults source_first
  Caused false end source_first source_now =
      ReadCause (faults source_first) (faults source_now) end × (end ≢ Write)

  -- a feed gave these runs since it was made
  pub record GaveRuns (feed : CaptureFeed S) (runs : List Run) : Type 0 where
    pub same_source : feed.source.ghost_name ≡ feed.first_source.value.ghost_name
    pub form : form_of feed.capture.now ≡ form_of feed.first_capture.value.now
    pub pins : pins_of feed.capture.now ≡ pins_of feed.first_capture.value.now
    pub count : is_open_of feed.capture.now ≡ true
        → length (samples_of runs) ≤ given_by feed.capture.now
    pub few : length (samples_of runs) ≤ 2 ^ 60
    pub given : Given (is_open_of feed.capture.now) feed.end feed.first_capture.value.now
        feed.capture.now feed.first_source.value.now feed.source.now (samples_of runs)
    pub cause : Caused
        (is_open_of feed.capture.now) feed.end feed.first_source.value.now feed.source.now
