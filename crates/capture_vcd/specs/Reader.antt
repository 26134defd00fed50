-- What a reader of VCD captures stands for behind its header, and what the answers of its calls
-- mean.
use Rattle.std.specs.Prelude.{ℕ, ◌≡◌, ◌+◌, ◌*◌, ◌^◌, ◌<◌, ◌≤◌, Bool, true, false, List, [], ◌++◌}
use Rattle.std.specs.Prelude.{length, map, Option, Some, None, Result, Ok, Err}
use Rattle.std.specs.Io.KnownBytes.{Consumes, IsAtEnd}
use Rattle.text_parts.specs.Places.{Placed}
use Rattle.la_base.specs.Samples.{samples}
use Rattle.la_base.specs.declared.samples.Run.{Run}
use Rattle.la_io.specs.Reading.{Reads, step_of}
use Rattle.la_io.specs.declared.fault.CaptureError.{CaptureError}
use Rattle.la_io.specs.declared.fault.CaptureError.TheVariants as error
use Rattle.la_io.specs.Capture.{Told, AtEnd, Cut, Good, Bad, Unread, Clean, Faulty, Open, Captured}
use Rattle.la_io.specs.Capture.{Ends}
use Rattle.byte_feed.specs.Reader.{HoldsNone, Stands, is_spent, taken_of}
use Rattle.std.specs.declared.vec.Vec.{Vec}
use Rattle.std.specs.declared.alloc.Global.{Global}
use Rattle.la_base.specs.declared.samples.Rate.{Rate}
use Rattle.capture_vcd.specs.Header.{Declared, Section, channels_of, declared_by, header_from}
use Rattle.capture_vcd.specs.Body.{Channel}
use Rattle.capture_vcd.specs.Vcd.{bits_in, chosen, scale_in, vcd_capture}
use Rattle.text_parts.specs.Reading.{read_front}
use Rattle.la_io.specs.declared.fault.CaptureFault.{CaptureFault}
use Rattle.capture_vcd.specs.Running.{BodyStands, all_in, channels_in, down_in, given_in, held_in}
use Rattle.capture_vcd.specs.declared.body.Body.{Body}
use Rattle.capture_vcd.specs.declared.place.Place.{Place}
use Rattle.capture_vcd.specs.Places.{channel_at}
use Rattle.capture_vcd.specs.declared.reader.VcdReader.{VcdReader}
use Rattle.capture_vcd.specs.declared.reader.Phase.{Phase}
use Rattle.capture_vcd.specs.declared.reader.Phase.TheVariants.{Fresh, Running, Ended, Refused}
use Rattle.la_io.specs.declared.answer.Step.{Step}
use Rattle.la_io.specs.declared.answer.Step.TheVariants.{Went, Gave, Over}

-- what is kept of a header: the names of its channels, each a bit of a code, and the rate
pub record Kept : Type 0 where
  pub names : List (List ℕ)
  pub bits : List Channel
  pub num : ℕ
  pub den : ℕ

-- these tokens are a whole header, this is kept of it, and these are the channels of it that are
-- selected
pub record HeadRead (down : ℕ) (pins : List ℕ) (channels : List Channel) (kept : Kept)
    (head : List Placed) : Type 0 where
  pub sections : List Section
  pub whole : header_from None head ≡ record { sections = sections; body = Some [] }
  pub declared : List Declared
  pub read : read_front declared_by [] sections ≡ (declared, None)
  pub scale : ℕ × ℕ
  pub scale_is : scale_in None declared ≡ Some scale
  pub channels_are : channels ≡ chosen (bits_in declared) pins
  pub names_are : kept.names ≡ channels_of declared
  pub bits_are : kept.bits ≡ bits_in declared
  pub num_is : kept.num ≡ scale.1
  pub den_is : kept.den ≡ scale.0 * down

abbrev pub kept_by : List (List ℕ) → List Place → Rate → List (Vec ℕ Global) → Kept
kept_by names places rate codes =
    record { names = names; bits = map (channel_at codes) places; num = rate.num; den = rate.den }

abbrev pub kept_in : VcdReader → Kept
kept_in reader = kept_by reader.names reader.places.items reader.rate reader.body.codes.items

-- the channels that are the bits of its samples; none before `select`
abbrev pub pins_in : VcdReader → List ℕ
pins_in reader = reader.pins.items

-- the names of its channels, and the rate of its samples
abbrev pub vcd_names : VcdReader → List (List ℕ)
vcd_names reader = reader.names

abbrev pub vcd_rate : VcdReader → Rate
vcd_rate reader = reader.rate

-- how many units a sample has
abbrev pub vcd_down : VcdReader → ℕ
vcd_down reader = down_in reader.body

-- whether there may be more to come
abbrev pub vcd_open : VcdReader → Bool
vcd_open reader = reader.is_open

-- how many samples it gave
abbrev pub given_at : Phase → Body → ℕ
given_at Fresh body = given_in body
given_at Running body = given_in body
given_at Ended body = all_in body
given_at (Refused fault) body = given_in body

abbrev pub vcd_given : VcdReader → ℕ
vcd_given reader = given_at reader.phase reader.body

-- what these bytes give, with its channels and its rate
abbrev pub vcd_by : VcdReader → List ℕ → Told → Captured
vcd_by reader bytes told = vcd_capture (vcd_down reader) (pins_in reader) bytes told

-- it reads the body
pub record Going (reader : VcdReader) (bytes : List ℕ) (told : Told) (given : List ℕ) : Type 0 where
  pub head : List Placed
  pub items : List Placed
  pub header : HeadRead (vcd_down reader) (pins_in reader) (channels_in reader.body)
      (kept_in reader) head
  pub fresh : is_spent reader.tokens ≡ false
  pub tokens : Stands reader.tokens bytes told (head ++ items)
  pub few : taken_of reader.tokens ≤ 2 ^ 60
  pub body : BodyStands reader.body items given

-- the same where no sample was given: nothing was read of the body
pub record Starting (reader : VcdReader) (bytes : List ℕ) (told : Told)
    (given : List ℕ) : Type 0 where
  pub going : Going reader bytes told given
  pub none : given ≡ []
  pub unread : going.items ≡ []

-- and where some were
pub record Midway (reader : VcdReader) (bytes : List ℕ) (told : Told)
    (given : List ℕ) : Type 0 where
  pub going : Going reader bytes told given
  pub some : 0 < length given

-- it has given all, and some
pub record Done (reader : VcdReader) (bytes : List ℕ) (told : Told) (given : List ℕ) : Type 0 where
  pub told_end : told ≡ AtEnd
  pub ends : Ends (vcd_by reader bytes told) given Clean
  pub some : 0 < length given

-- it has given all that come before a fault, and some
pub record Stopped (fault : CaptureFault) (reader : VcdReader) (bytes : List ℕ) (told : Told)
    (given : List ℕ) : Type 0 where
  pub ends : Ends (vcd_by reader bytes told) given (Faulty fault)
  pub some : 0 < length given

abbrev pub StandsAs : Phase → VcdReader → List ℕ → Told → List ℕ → Type 0
StandsAs Fresh reader bytes told given = Starting reader bytes told given
StandsAs Running reader bytes told given = Midway reader bytes told given
StandsAs Ended reader bytes told given = Done reader bytes told given
StandsAs (Refused fault) reader bytes told given = Stopped fault reader bytes told given

-- it took these bytes, whose end the source told or not, and gave these samples
abbrev pub VcdStands : VcdReader → List ℕ → Told → List ℕ → Type 0
VcdStands reader bytes told given = StandsAs reader.phase reader bytes told given

-- these samples were given of what is held: no byte was taken
abbrev pub GaveHeld : VcdReader → VcdReader → List ℕ → Type 0
GaveHeld old new more =
    (bytes : List ℕ) (told : Told) (given : List ℕ) → VcdStands old bytes told given
    → VcdStands new bytes told (given ++ more)

-- no token with a blank behind it is held, and no samples are held back, where it reads the body
-- and gave some
abbrev pub HeldOut : Phase → VcdReader → Type 0
HeldOut Fresh reader = Unit {0}
HeldOut Running reader = HoldsNone reader.tokens × (held_in reader.body ≡ 0)
HeldOut Ended reader = Unit {0}
HeldOut (Refused fault) reader = Unit {0}

abbrev pub HoldsNothing : VcdReader → Type 0
HoldsNothing reader = vcd_open reader ≡ true → HeldOut reader.phase reader

-- what an answer says of all bytes taken
abbrev pub StepAnswers : VcdReader → List ℕ → Told → List ℕ → Result Step CaptureError → Type 0
StepAnswers reader bytes told given (Ok Went) = Going reader bytes told given
StepAnswers reader bytes told given (Ok (Gave run)) =
    VcdStands reader bytes told (given ++ samples run)
StepAnswers reader bytes told given (Ok Over) =
    (told ≡ AtEnd) × Ends (vcd_by reader bytes told) given Clean
StepAnswers reader bytes told given (Err (error.Fault fault)) =
    Ends (vcd_by reader bytes told) given (Faulty fault)
StepAnswers reader bytes told given (Err error.Read) =
    (told ≡ Cut) × Ends (vcd_by reader bytes told) given Open
StepAnswers reader bytes told given (Err error.NoMemory) = ⊥

-- its channels and its rate stay, and the places of the file's channels
pub record SameReader (old new : VcdReader) : Type 0 where
  pub names : vcd_names new ≡ vcd_names old
  pub rate : vcd_rate new ≡ vcd_rate old
  pub pins : pins_in new ≡ pins_in old
  pub down : vcd_down new ≡ vcd_down old

-- one call: the bytes that it took, and what its answer means behind them
abbrev pub Gives : VcdReader → VcdReader → Option (List ℕ) → Option (List ℕ)
    → Result (Option Run) CaptureError → Type 0
Gives old new left_old left_new result =
    Reads left_old left_new (VcdStands old)
    (λ all told given. StepAnswers new all told given (step_of result))

-- a run more
abbrev pub MoreGiven : VcdReader → VcdReader → Result (Option Run) CaptureError → Type 0
MoreGiven old new (Ok (Some run)) = vcd_given old + run.len ≡ vcd_given new
MoreGiven old new (Ok None) = Unit {0}
MoreGiven old new (Err why) = Unit {0}

-- what it has given is a front of what the bytes that it took settle
abbrev pub GivenIsFront : Type 0
GivenIsFront =
    (reader : VcdReader) (bytes : List ℕ) (told : Told) (given : List ℕ)
    → VcdStands reader bytes told given
    → (rest : List ℕ) × ((vcd_by reader bytes told).settled ≡ given ++ rest)

-- what opening means, where these bytes were taken: the head is whole, or it has a fault, or the
-- source failed in it
abbrev pub Opened : ℕ → List ℕ → Option (List ℕ) → Result VcdReader CaptureError → Type 0
Opened down bytes left (Ok reader) =
    (told : Told) × (told ≡ AtEnd → IsAtEnd left) × VcdStands reader bytes told []
    × ((vcd_capture down [] bytes told).head
    ≡ Good (vcd_names reader) (vcd_rate reader).num (vcd_rate reader).den)
Opened down bytes left (Err (error.Fault fault)) =
    (told : Told) × (told ≡ AtEnd → IsAtEnd left)
    × ((vcd_capture down [] bytes told).head ≡ Bad fault)
Opened down bytes left (Err error.Read) = (vcd_capture down [] bytes Cut).head ≡ Unread
Opened down bytes left (Err error.NoMemory) = Unit {0}

-- a call of `open`: the bytes that it took, and what its answer means behind them
pub record Opens (down : ℕ) (left_old left_new : Option (List ℕ))
    (result : Result VcdReader CaptureError) : Type 0 where
  pub bytes : List ℕ
  pub consumed : Consumes left_old left_new bytes
  pub opened : Opened down bytes left_new result

-- the reader of such a header that has given nothing
pub record IsNew (down : ℕ) (reader : VcdReader) : Type 0 where
  pub down_is : vcd_down reader ≡ down
  pub no_pins : pins_in reader ≡ []
  pub is_open : vcd_open reader ≡ true
  pub few : (vcd_rate reader).num ≤ 10 ^ 15
