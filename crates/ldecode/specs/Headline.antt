-- What a run does: the status that its words, its capture and its failures give, and what is
-- written with it.
--
-- The promise is at the end, `Promises` and `Headline`; what it says by the status is `Tells`, of a
-- decoding `DecodedAs`. To be read with it, in this order: what good words ask for (`Asking` of
-- run_asks), what a listing is (`Decoding`, and `Listing` of decode_job), how the bytes of a capture
-- settle samples (`Captures` and `Listings` of capture_any), what a search gives (`Searching` of
-- search_job), parts and their checkpoints (`Parting` of run_asks, `Parts`), made captures (`Making`
-- of make_job), the lines that tell of a run (`Notices` of run_status), and what viewers see
-- (`Watching`).
use Rattle.std.specs.Prelude.{ℕ, ◌≡◌, ◌⊎◌, true, List, [], Option, Some, None, Ok, Err}
use Rattle.std.specs.Prelude.{length}
use Rattle.std.specs.Io.KnownBytes.{Appends, Consumes}
use Rattle.la_io.specs.Capture.{Told, AtEnd, Cut, Bad, Unread, Clean}
use Rattle.la_io.specs.Causes.{AppendsFront, Rose}
use Rattle.la_io.specs.declared.fault.CaptureFault.{CaptureFault}
use Rattle.capture_any.specs.Captures.{IsForm, ToldAt}
use Rattle.capture_any.specs.Listings.{Says}
use Rattle.capture_any.specs.declared.end.ListingEnd.{ListingEnd}
use Rattle.capture_any.specs.declared.end.ListingEnd.TheVariants as end
use Rattle.words.specs.Lexer.{Text}
use Rattle.words.specs.Settings.{Values, settings_of}
use Rattle.words.specs.declared.kinds.Job.TheVariants.{Decode, Make, Part}
use Rattle.words.specs.declared.kinds.WordFault.{WordFault}
use Rattle.check_point.specs.declared.faults.CheckFault.{CheckFault}
use Rattle.stack_words.specs.Accepting.{Accepted}
use Rattle.cond_words.specs.declared.faults.BindFault.{BindFault}
use Rattle.stack_words.specs.declared.faults.StackFault.{StackFault}
use Rattle.decoder_core.specs.Trees.{Node}
use Rattle.decoder_set.specs.declared.setup.Setup.{Setup}
use Rattle.run_status.specs.Notices.{line_of}
use Rattle.run_status.specs.declared.status.Status.{Status}
use Rattle.run_status.specs.declared.status.Status.TheVariants.{Done, Words, Stack, Bind, ReadFault}
use Rattle.run_status.specs.declared.status.Status.TheVariants.{Check, Capture, WriteFault, NoMemory}
use Rattle.make_job.specs.Making.{MadeBy}
use Rattle.run_status.specs.Causes.{SinkCause, SourceCause, WhereUnread}
use Rattle.search_job.specs.Searching.{Searched}
use Rattle.run_asks.specs.Asking.{AsksStack, CannotBind, CheckRefused, EndsAs, HasFault}
use Rattle.run_asks.specs.Asking.{HasStackFault, HeadIs, NamesNoHead, ReadHead, setups_in}
use Rattle.run_asks.specs.Asking.{lists_notes}
use Rattle.run_asks.specs.Parting.{CanBegin, Saves}
use Rattle.ldecode.specs.Decoding.{decode_listing, decode_notes}
use Rattle.ldecode.specs.Parts.{CameBefore, IsCheckAt, PartEnds, PartWrites, part_listing}

-- a stream before and after a run: its bytes, where it tells them (those that a source has left,
-- those that a sink has got), and its count of failures
pub record Stream : Type 0 where
  pub old : Option (List ℕ)
  pub new : Option (List ℕ)
  pub failed_old : ℕ
  pub failed_new : ℕ

-- a stream by what it tells
abbrev pub stream : {S : Type 0} → (S → Option (List ℕ)) → (S → ℕ) → S → S → Stream
stream bytes faults old new =
    record { old = bytes old; new = bytes new; failed_old = faults old; failed_new = faults new }

-- it failed: its count rose, or stands at the last value of its type
abbrev pub DidFail : Stream → Type 0
DidFail s = Rose s.failed_old s.failed_new

-- the decoding of a whole capture that the values ask for came to this end, and this holds of its
-- stack and of the samples: `Whole` of all of them, or `Front` of those that some bytes settle
pub record DecodedAs (values : Values) (Whole Front : Accepted → List (Node Setup) → List ℕ → Type 0)
    (bytes : List ℕ) (told : Told) (end : ListingEnd) : Type 0 where
  pub head : ReadHead values bytes told
  pub pins : List ℕ
  pub accepted : Accepted
  pub nodes : List (Node Setup)
  pub job : values.job ≡ Decode
  pub asks : AsksStack values head.names head.rate pins accepted nodes
  pub says : Says head.form pins (Whole accepted nodes) (Front accepted nodes) bytes told end

-- the listing of a stack was written, or a front of it
abbrev pub IsListed : Option (List ℕ) → Option (List ℕ) → Accepted → List (Node Setup) → List ℕ
    → Type 0
IsListed old new accepted nodes samples = Appends old new (decode_listing accepted nodes samples)

abbrev pub IsBegun : Option (List ℕ) → Option (List ℕ) → Accepted → List (Node Setup) → List ℕ
    → Type 0
IsBegun old new accepted nodes samples =
    AppendsFront old new (decode_listing accepted nodes samples)

-- the decoding came to this end, with what was written
abbrev pub Decoded : Values → List ℕ → Told → Option (List ℕ) → Option (List ℕ) → ListingEnd
    → Type 0
Decoded values bytes told old new end =
    DecodedAs values (IsListed old new) (IsBegun old new) bytes told end

-- the decoding of a part that the values ask for came to this end. What was written is said where
-- it is the first part, or goes on behind a checkpoint that was made of its decoders behind some
-- samples; nothing else depends on these
pub record Parted (saves : Saves) (values : Values) (bytes : List ℕ) (told : Told)
    (old new : Option (List ℕ)) (end : ListingEnd) : Type 0 where
  pub head : ReadHead values bytes told
  pub opens : IsForm head.form
  pub pins : List ℕ
  pub accepted : Accepted
  pub nodes : List (Node Setup)
  pub job : values.job ≡ Part
  pub asks : AsksStack values head.names head.rate pins accepted nodes
  pub count : ℕ
  pub begins : CanBegin saves (setups_in asks.stack) values.from count
  pub ends : PartEnds head.form pins count bytes told end
  pub says : (earlier : List ℕ) → CameBefore saves nodes values.from earlier
      → PartWrites (part_listing accepted nodes) (IsCheckAt saves nodes) earlier old new head.form pins
      bytes told end

-- the work that the values ask for came to this end
abbrev pub Worked : Saves → Values → List ℕ → Told → Option (List ℕ) → Option (List ℕ) → ListingEnd
    → Type 0
Worked saves values bytes told old new end =
    Searched values bytes told old new end ⊎ Decoded values bytes told old new end
    ⊎ Parted saves values bytes told old new end

-- what a status says of good words, the bytes that were taken and what was written
abbrev pub Works : Saves → Values → List ℕ → Told → Option (List ℕ) → Option (List ℕ) → Status
    → Type 0
Works saves values bytes told old new Done = Worked saves values bytes told old new end.Done
Works saves values bytes told old new (Words fault) = ⊥
Works saves values bytes told old new (Stack fault) =
    HasStackFault values fault × (bytes ≡ []) × Appends old new []
Works saves values bytes told old new (Bind fault) =
    CannotBind values bytes told fault × Appends old new []
Works saves values bytes told old new (Check fault) =
    CheckRefused saves values bytes told fault × Appends old new []
Works saves values bytes told old new ReadFault =
    (told ≡ Cut)
    × (Worked saves values bytes told old new end.Read
    ⊎ (HeadIs values bytes told Unread × Appends old new []))
Works saves values bytes told old new (Capture fault) =
    Worked saves values bytes told old new (end.Fault fault)
    ⊎ (HeadIs values bytes told (Bad fault) × Appends old new [])
Works saves values bytes told old new WriteFault = Worked saves values bytes told old new end.Write
Works saves values bytes told old new NoMemory =
    Worked saves values bytes told old new end.NoMemory ⊎ Appends old new []

-- the same of a run that took these bytes of its source, whose end it was told or not
pub record WorksOn (saves : Saves) (values : Values) (left_old left_new old new : Option (List ℕ))
    (status : Status) : Type 0 where
  pub bytes : List ℕ
  pub told : Told
  pub taken : Consumes left_old left_new bytes
  pub at_end : ToldAt told left_new
  pub works : Works saves values bytes told old new status

-- the same of a decoding that took these bytes of its source
pub record DecodesOn (values : Values) (Whole Front : Accepted → List (Node Setup) → List ℕ → Type 0)
    (left_old left_new : Option (List ℕ)) (end : ListingEnd) : Type 0 where
  pub bytes : List ℕ
  pub told : Told
  pub taken : Consumes left_old left_new bytes
  pub at_end : ToldAt told left_new
  pub decoded : DecodedAs values Whole Front bytes told end

-- the words are good, and this holds of their values
abbrev pub Good : List Text → (Values → Type 0) → Type 0
Good words Holds = (values : Values) × (settings_of words ≡ Ok values) × Holds values

-- the values ask for a made capture
abbrev pub IsMade : Values → Type 0
IsMade values = values.job ≡ Make

-- what a status says of a made capture: nothing was read
pub record Makes (values : Values) (bytes : List ℕ) (old new : Option (List ℕ))
    (status : Status) : Type 0 where
  pub job : IsMade values
  pub none : bytes ≡ []
  pub wrote : MadeBy values.seed values.count old new status

-- what a status says of good words, by their job
abbrev pub Does : Saves → Values → List ℕ → Told → Option (List ℕ) → Option (List ℕ) → Status
    → Type 0
Does saves values bytes told old new status =
    Works saves values bytes told old new status ⊎ Makes values bytes old new status

-- the same of what took these bytes of its source
pub record DoesOn (saves : Saves) (values : Values) (left_old left_new old new : Option (List ℕ))
    (status : Status) : Type 0 where
  pub bytes : List ℕ
  pub told : Told
  pub taken : Consumes left_old left_new bytes
  pub at_end : ToldAt told left_new
  pub does : Does saves values bytes told old new status

-- what a status says of the words, the bytes that were taken and what was written
abbrev pub Tells : Saves → List Text → List ℕ → Told → Option (List ℕ) → Option (List ℕ) → Status
    → Type 0
Tells saves words bytes told old new Done =
    Good words (λ values. Does saves values bytes told old new Done)
Tells saves words bytes told old new (Words fault) =
    (settings_of words ≡ Err fault) × (bytes ≡ []) × Appends old new []
Tells saves words bytes told old new (Stack fault) =
    Good words (λ values. Does saves values bytes told old new (Stack fault))
Tells saves words bytes told old new (Bind fault) =
    Good words (λ values. Does saves values bytes told old new (Bind fault))
Tells saves words bytes told old new (Check fault) =
    Good words (λ values. Does saves values bytes told old new (Check fault))
Tells saves words bytes told old new ReadFault =
    Good words (λ values. Does saves values bytes told old new ReadFault)
Tells saves words bytes told old new (Capture fault) =
    Good words (λ values. Does saves values bytes told old new (Capture fault))
Tells saves words bytes told old new WriteFault =
    Good words (λ values. Does saves values bytes told old new WriteFault)
Tells saves words bytes told old new NoMemory =
    Good words (λ values. Does saves values bytes told old new NoMemory) ⊎ Appends old new []

-- a run took these bytes of its source, whose end it was told or not, and its status says what it
-- says of them
pub record RunTells (saves : Saves) (words : List Text)
    (left_old left_new old new : Option (List ℕ)) (status : Status) : Type 0 where
  pub bytes : List ℕ
  pub told : Told
  pub taken : Consumes left_old left_new bytes
  pub at_end : ToldAt told left_new
  pub tells : Tells saves words bytes told old new status

-- this status, or want of memory
abbrev pub OrNoMemory : Status → Status → Type 0
OrNoMemory expected status = (status ≡ expected) ⊎ (status ≡ NoMemory)

-- a viewer looks on where a decoding is asked for that is to have one, and lists notes
abbrev pub IsWatched : Values → Type 0
IsWatched values = (values.watch ≡ true) × (lists_notes values ≡ true)

-- the listing of all samples has so many notes
abbrev pub HasSoMany : ℕ → Accepted → List (Node Setup) → List ℕ → Type 0
HasSoMany count accepted nodes samples = count ≡ length (decode_notes accepted nodes samples)

-- the whole listing that the values ask for has so many notes, of bytes that end as they may
abbrev pub HasNotes : Values → List ℕ → Told → ℕ → Type 0
HasNotes values bytes told count =
    DecodedAs values (HasSoMany count) (λ accepted nodes samples. Unit {0}) bytes told end.Done

-- how many notes a viewer saw: those of the whole listing. None where no viewer looks on, or the
-- run isn't done
abbrev pub Saw : List Text → List ℕ → Told → Status → Option ℕ → Type 0
Saw words bytes told status None = status ≡ Done → Good words IsWatched → ⊥
Saw words bytes told status (Some count) =
    (status ≡ Done)
    × Good words (λ values. IsWatched values × HasNotes values bytes told count)

-- the line that tells of a run: that of its status; or how many notes a viewer saw
pub record IsLine (words : List Text) (bytes : List ℕ) (told : Told) (status : Status)
    (line : List ℕ) : Type 0 where
  pub seen : Option ℕ
  pub saw : Saw words bytes told status seen
  pub is : line ≡ line_of status seen

-- the line that tells of a run was written, whole where the notices didn't fail
pub record Notified (notices : Stream) (Tells : List ℕ → Type 0) : Type 0 where
  pub line : List ℕ
  pub is : Tells line
  pub front : AppendsFront notices.old notices.new line
  pub whole : ¬ DidFail notices → Appends notices.old notices.new line

-- The promise of a run: for these words, what it did to its source, its sink and its notices, and
-- the status that it answers. `same` says that the source is just as it was, `saves` which bytes a
-- decoder saves, and `Line` which line tells of the bytes that were taken.
pub record Promises (saves : Saves) (words : List Text) (source sink notices : Stream)
    (same : Type 0) (status : Status) (Line : List ℕ → Told → List ℕ → Type 0) : Type 0 where
  -- these bytes were taken of the source, whose end it told or not
  pub bytes : List ℕ
  pub told : Told
  pub taken : Consumes source.old source.new bytes
  pub at_end : ToldAt told source.new
  -- what the status says of them, and of what was written
  pub tells : Tells saves words bytes told sink.old sink.new status
  -- each refusal comes exactly where words, stack, channels, checkpoint or bytes have just this
  -- fault, but for want of memory
  pub words_fault : (fault : WordFault) → settings_of words ≡ Err fault
      → OrNoMemory (Words fault) status
  pub stack_fault : (fault : StackFault) → Good words (λ values. HasStackFault values fault)
      → OrNoMemory (Stack fault) status
  pub bind_fault : (fault : BindFault) → Good words (λ values. CannotBind values bytes told fault)
      → OrNoMemory (Bind fault) status
  pub check_fault : (fault : CheckFault)
      → Good words (λ values. CheckRefused saves values bytes told fault)
      → OrNoMemory (Check fault) status
  pub capture_fault : (fault : CaptureFault)
      → Good words (λ values. HasFault saves values bytes told fault)
      → ¬ DidFail source → ¬ DidFail sink
      → OrNoMemory (Capture fault) status
  -- where nothing is refused, what the source had left ends as it may, and nothing fails, the run
  -- is done, but for want of memory
  pub complete : (left : List ℕ) → source.old ≡ Some left
      → Good words (λ values. EndsAs saves values left AtEnd Clean)
      → ¬ DidFail source → ¬ DidFail sink
      → OrNoMemory Done status
  -- where a capture is made, nothing can fail but writing and memory, and nothing is read
  pub made : Good words IsMade → ¬ DidFail sink → OrNoMemory Done status
  pub made_unread : Good words IsMade → same
  -- ReadFault comes only where the source failed, and WriteFault exactly where the sink failed
  pub read : SourceCause source.failed_old source.failed_new status
  pub write : SinkCause sink.failed_old sink.failed_new status
  -- a refusal reads nothing
  pub unread : WhereUnread (Good words NamesNoHead) status same
  -- the notices have got the line that tells of it
  pub notified : Notified notices (Line bytes told)

-- the promise of a run that tells its status, and of one at which a viewer looked on what it saw
abbrev pub Headline : Saves → List Text → Stream → Stream → Stream → Type 0 → Status → Type 0
Headline saves words source sink notices same status =
    Promises saves words source sink notices same status
    (λ bytes told line. IsLine words bytes told status line)
