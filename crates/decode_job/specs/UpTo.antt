-- A feed of a capture that gives at most so many samples.
use Rattle.std.specs.Prelude.{ℕ, ◌≡◌, ◌≤◌, ◌<◌, ◌^◌, Bool, true, false, List, length, take, Option}
use Rattle.la_base.specs.Runs.{samples_of}
use Rattle.la_base.specs.declared.samples.Run.{Run}
use Rattle.capture_any.specs.Reading.{is_open_of}
use Rattle.decode_job.specs.Feeding.{GaveRuns}
use Rattle.decode_job.specs.declared.capture_feed.CaptureFeed.{CaptureFeed}
use Rattle.decode_job.specs.declared.up_to.UpTo.{UpTo}

-- the feed of all samples
abbrev pub inner_of : {S : Type 0} → UpTo S → CaptureFeed S
inner_of feed = feed.feed

-- how many samples it may give
abbrev pub most_of : {S : Type 0} → UpTo S → ℕ
most_of feed = feed.room

-- how many it gave, and whether there were more
abbrev pub count_of : {S : Type 0} → UpTo S → ℕ
count_of feed = feed.given

abbrev pub is_past : {S : Type 0} → UpTo S → Bool
is_past feed = feed.past

-- the last call gave nothing
abbrev pub has_ended : {S : Type 0} → UpTo S → Bool
has_ended feed = feed.ended

-- all of these samples were given; or there were more, behind which the capture is still open, and
-- the first ones were
abbrev pub GaveOf : Bool → ℕ → Bool → List ℕ → List ℕ → Type 0
GaveOf false most is_open all samples = samples ≡ all
GaveOf true most is_open all samples =
    (is_open ≡ true) × (most < length all) × (samples ≡ take most all)

module _ {S : Type 0} (left : S → Option (List ℕ)) (faults : S → ℕ) where
  -- a feed gave these runs since it was made
  pub record GaveUpTo (feed : UpTo S) (runs : List Run) : Type 0 where
    pub few : most_of feed ≤ 2 ^ 59
    pub within : count_of feed ≤ most_of feed
    pub all : List Run
    pub gave : GaveRuns left faults (inner_of feed) all
    pub count : count_of feed ≡ length (samples_of runs)
    pub samples : GaveOf (is_past feed) (most_of feed) (is_open_of (inner_of feed).capture.now)
        (samples_of all) (samples_of runs)
    pub at_end : has_ended feed ≡ true → is_past feed ≡ false
        → is_open_of (inner_of feed).capture.now ≡ false
