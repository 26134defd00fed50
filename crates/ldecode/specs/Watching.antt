-- What viewers see of a run.
use Rattle.std.specs.Prelude.{ℕ, ◌≡◌, ◌⊎◌, Bool, true, false, List, [], Option}
use Rattle.std.specs.Prelude.{Some, None}
use Rattle.std.specs.Prelude.{Ok}
use Rattle.std.specs.Io.KnownBytes.{Appends, Consumes}
use Rattle.la_io.specs.Capture.{Told}
use Rattle.la_io.specs.Causes.{AppendsFront}
use Rattle.capture_any.specs.Captures.{ToldAt}
use Rattle.capture_any.specs.declared.end.ListingEnd.{ListingEnd}
use Rattle.words.specs.Lexer.{Text}
use Rattle.words.specs.Settings.{Values, settings_of}
use Rattle.note_order.specs.declared.entry.Entry.{Entry}
use Rattle.stack_words.specs.Accepting.{Accepted}
use Rattle.decoder_core.specs.Trees.{Node}
use Rattle.decoder_set.specs.declared.setup.Setup.{Setup}
use Rattle.decode_job.specs.Seen.{WritesFrontSeen, WritesSeen}
use Rattle.view_store.specs.Listings.{Listing, nothing}
use Rattle.shelf_watch.specs.Shelves.{IsFrontOf, ended_with, pairs_of}
use Rattle.run_status.specs.Notices.{notice_of, status_of}
use Rattle.run_status.specs.declared.outcome.Outcome.{Outcome}
use Rattle.run_status.specs.declared.status.Status.{Status}
use Rattle.run_status.specs.declared.status.Status.TheVariants.{Done, Words, Stack, Bind, ReadFault}
use Rattle.run_status.specs.declared.status.Status.TheVariants.{Check, Capture, WriteFault, NoMemory}
use Rattle.run_asks.specs.Asking.{lists_notes}
use Rattle.run_asks.specs.Refusing.{Refuses}
use Rattle.run_asks.specs.Parting.{Saves}
use Rattle.ldecode.specs.Decoding.{decode_listing, decode_notes}
use Rattle.ldecode.specs.Headline.{DecodedAs, DoesOn, HasNotes, IsWatched, Promises}
use Rattle.ldecode.specs.Headline.{RunTells, Saw, Stream}

-- the listing of a stack was written, and its notes were seen; or a front of it, and the first of
-- them
abbrev pub IsSeen : (List Entry → Type 0) → Option (List ℕ) → Option (List ℕ) → Accepted
    → List (Node Setup) → List ℕ → Type 0
IsSeen saw old new accepted nodes samples =
    WritesSeen saw old new (decode_listing accepted nodes samples)
    (decode_notes accepted nodes samples)

abbrev pub IsSeenFront : (List Entry → Type 0) → Option (List ℕ) → Option (List ℕ) → Accepted
    → List (Node Setup) → List ℕ → Type 0
IsSeenFront saw old new accepted nodes samples =
    WritesFrontSeen saw old new (decode_listing accepted nodes samples)
    (decode_notes accepted nodes samples)

-- the listing was written, and a shelf has its notes, to which no more come; or a front of it, and
-- the first of them
pub record IsShown (old new : Option (List ℕ)) (shelf : Listing) (accepted : Accepted)
    (nodes : List (Node Setup)) (samples : List ℕ) : Type 0 where
  pub written : Appends old new (decode_listing accepted nodes samples)
  pub notes : shelf.notes ≡ pairs_of (decode_notes accepted nodes samples)
  pub ended : shelf.ended ≡ true

pub record IsShownFront (old new : Option (List ℕ)) (shelf : Listing) (accepted : Accepted)
    (nodes : List (Node Setup)) (samples : List ℕ) : Type 0 where
  pub written : AppendsFront old new (decode_listing accepted nodes samples)
  pub notes : IsFrontOf (pairs_of (decode_notes accepted nodes samples)) shelf

-- what a shelf has where nothing could be decoded: no notes, and no more come, but for want of
-- memory
abbrev pub shelf_without : Status → Listing
shelf_without Done = ended_with nothing
shelf_without (Words fault) = ended_with nothing
shelf_without (Stack fault) = ended_with nothing
shelf_without (Bind fault) = ended_with nothing
shelf_without (Check fault) = ended_with nothing
shelf_without ReadFault = ended_with nothing
shelf_without (Capture fault) = ended_with nothing
shelf_without WriteFault = ended_with nothing
shelf_without NoMemory = nothing

-- whether all notes that belong to a listing were listed, with this status
abbrev pub is_whole : Status → Bool
is_whole Done = true
is_whole (Words fault) = true
is_whole (Stack fault) = true
is_whole (Bind fault) = true
is_whole (Check fault) = true
is_whole ReadFault = true
is_whole (Capture fault) = true
is_whole WriteFault = false
is_whole NoMemory = false

-- a shelf on which these notes are pending, and these published, is ended behind a decoding with
-- this status, where all notes were listed; and there may be no memory to do so
abbrev pub EndsShelf : Status → Listing → Listing → Status → Listing → Type 0
EndsShelf status pending published now shelf =
    ((is_whole status ≡ true) × (now ≡ status) × (shelf ≡ ended_with pending))
    ⊎ ((is_whole status ≡ true) × (now ≡ NoMemory) × (shelf ≡ published))
    ⊎ ((is_whole status ≡ false) × (now ≡ status) × (shelf ≡ published))

-- a decoding with this status, what was written, and what a shelf has of it
abbrev pub IsShelved : Values → List ℕ → Told → Option (List ℕ) → Option (List ℕ) → Listing → Status
    → Type 0
IsShelved values bytes told old new shelf status =
    ((end : ListingEnd) × (status ≡ status_of end)
    × DecodedAs values (IsShown old new shelf) (IsShownFront old new shelf) bytes told end)
    ⊎ (Refuses values bytes told status × Appends old new [] × (shelf ≡ shelf_without status))

-- the same of one that took these bytes of its source
pub record ShelvesOn (values : Values) (left_old left_new old new : Option (List ℕ))
    (shelf : Listing) (status : Status) : Type 0 where
  pub bytes : List ℕ
  pub told : Told
  pub taken : Consumes left_old left_new bytes
  pub at_end : ToldAt told left_new
  pub shelved : IsShelved values bytes told old new shelf status

-- what a new shelf has behind a run: of words that ask for a listing of notes what they come to
abbrev pub IsOnShelf : List Text → List ℕ → Told → Option (List ℕ) → Option (List ℕ) → Listing
    → Status → Type 0
IsOnShelf words bytes told old new shelf status =
    (values : Values) → settings_of words ≡ Ok values → lists_notes values ≡ true
    → IsShelved values bytes told old new shelf status

-- a run took these bytes of its source, and its status says what it says of them, and of what a
-- new shelf has
pub record RunsShelved (saves : Saves) (words : List Text)
    (left_old left_new old new : Option (List ℕ)) (shelf : Listing) (status : Status)
    : Type 0 where
  pub runs : RunTells saves words left_old left_new old new status
  pub on_shelf : IsOnShelf words runs.bytes runs.told old new shelf status

-- the promise of a run over a new shelf. It tells its status alone
pub record WatchedHeadline (saves : Saves) (words : List Text) (source sink notices : Stream)
    (same : Type 0) (shelf : Listing) (status : Status) : Type 0 where
  pub run : Promises saves words source sink notices same status
      (λ bytes told line. line ≡ notice_of status)
  -- what the shelf has of the same bytes, beside what was written
  pub on_shelf : IsOnShelf words run.bytes run.told sink.old sink.new shelf status

-- how many notes a viewer saw of a decoding, of good words
abbrev pub SawOf : Values → List ℕ → Told → Status → Option ℕ → Type 0
SawOf values bytes told status None = status ≡ Done → IsWatched values → ⊥
SawOf values bytes told status (Some count) =
    (status ≡ Done) × IsWatched values × HasNotes values bytes told count

-- the work that the values ask for, of which a viewer may have seen notes
pub record ViewsOn (saves : Saves) (values : Values) (left_old left_new old new : Option (List ℕ))
    (outcome : Outcome) : Type 0 where
  pub does : DoesOn saves values left_old left_new old new outcome.status
  pub saw : SawOf values does.bytes does.told outcome.status outcome.seen

-- a whole run, with how many notes a viewer saw of it
pub record RunsViewed (saves : Saves) (words : List Text)
    (left_old left_new old new : Option (List ℕ)) (outcome : Outcome) : Type 0 where
  pub runs : RunTells saves words left_old left_new old new outcome.status
  pub saw : Saw words runs.bytes runs.told outcome.status outcome.seen
