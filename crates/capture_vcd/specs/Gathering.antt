-- What the reader of a header stands for, and what its answers mean.
use Rattle.std.specs.Prelude.{ℕ, ◌≡◌, Bool, true, false, List, [], ◌∷◌, ◌++◌, length, map, codes}
use Rattle.std.specs.Prelude.{Option, Some, None, Result, Ok, Err}
use Rattle.std.specs.declared.vec.Vec.{Vec}
use Rattle.std.specs.declared.alloc.Global.{Global}
use Rattle.text_parts.specs.Places.{Placed}
use Rattle.la_io.specs.declared.fault.CaptureFault.{CaptureFault}
use Rattle.la_io.specs.declared.fault.CaptureError.{CaptureError}
use Rattle.la_io.specs.declared.fault.CaptureError.TheVariants as error
use Rattle.rate_math.specs.Scale.{in_second}
use Rattle.capture_vcd.specs.Header.{Cut, Declared, Pending, Section, channels_of, declared_by}
use Rattle.capture_vcd.specs.Header.{header_from}
use Rattle.capture_vcd.specs.Vcd.{bits_in, declared_in, scale_in}
use Rattle.text_parts.specs.Reading.{read_front}
use Rattle.capture_vcd.specs.Gathered.{IsKind, names_by, placed, text_at}
use Rattle.capture_vcd.specs.Keeping.{scale_step, scale_words, variable_step, variable_words}
use Rattle.capture_vcd.specs.Places.{Below, channel_at, places_of}
use Rattle.capture_vcd.specs.declared.header.Header.{Header}
use Rattle.capture_vcd.specs.declared.place.Place.{Place}
use Rattle.capture_vcd.specs.declared.scale.Scale.{Scale}
use Rattle.capture_vcd.specs.declared.section.Word.{Word}
use Rattle.capture_vcd.specs.declared.section.Kind.{Kind}
use Rattle.capture_vcd.specs.declared.section.Kind.TheVariants as kind

-- the section that is open, and what is kept of its words
abbrev pub PendingAt : Kind → ℕ → List Word → Pending → Type 0
PendingAt kind.Outside at words pending = pending ≡ None
PendingAt kind.Passed at words pending =
    (keyword : Placed) × (told : List Placed) × (pending ≡ Some (keyword, told))
    × IsKind keyword.1 kind.Passed
PendingAt kind.Definitions at words pending =
    (keyword : Placed) × (told : List Placed) × (pending ≡ Some (keyword, told))
    × IsKind keyword.1 kind.Definitions
PendingAt kind.Scale at words pending =
    (keyword : Placed) × (told : List Placed) × (pending ≡ Some (keyword, told))
    × IsKind keyword.1 kind.Scale × (map placed words ≡ scale_words told)
PendingAt kind.Variable at words pending =
    (text : List ℕ) × (told : List Placed) × (pending ≡ Some ((at, text), told))
    × IsKind text kind.Variable × (map placed words ≡ variable_words told)

-- sections before others
abbrev pub with_sections : List Section → Cut → Cut
with_sections sections cut = record { sections = sections ++ cut.sections; body = cut.body }

abbrev pub scale_pair : Option Scale → Option (ℕ × ℕ)
scale_pair None = None
scale_pair (Some scale) = Some (scale.count, in_second scale.unit)

-- what was declared is kept: names, places, codes, and the last time scale
pub record KeptOf (names : List (List ℕ)) (places : List Place) (codes : List (Vec ℕ Global))
    (scale : Option Scale) (declared : List Declared) : Type 0 where
  pub names_are : names ≡ channels_of declared
  pub bits_are : map (channel_at codes) places ≡ bits_in declared
  pub within : Below (length codes) places
  pub scale_is : scale_pair scale ≡ scale_in None declared

-- these tokens have no fault and don't end the header; this section is open behind them
pub record PartsAt (kind_is : Kind) (at : ℕ) (words : List Word) (names : List (List ℕ))
    (places : List Place) (codes : List (Vec ℕ Global)) (scale : Option Scale)
    (items : List Placed) : Type 0 where
  pub sections : List Section
  pub declared : List Declared
  pub pending : Pending
  pub goes : (rest : List Placed)
      → header_from None (items ++ rest) ≡ with_sections sections (header_from pending rest)
  pub read : read_front declared_by [] sections ≡ (declared, None)
  pub opened : PendingAt kind_is at words pending
  pub kept : KeptOf names places codes scale declared

abbrev pub HeaderAt : Header → List Placed → Type 0
HeaderAt header items =
    PartsAt header.kind header.at header.words.items header.names header.places.items
    header.codes.items header.scale items

-- these tokens are a whole header
pub record PartsDone (names : List (List ℕ)) (places : List Place) (codes : List (Vec ℕ Global))
    (scale : Option Scale) (items : List Placed) : Type 0 where
  pub sections : List Section
  pub declared : List Declared
  pub whole : header_from None items ≡ record { sections = sections; body = Some [] }
  pub read : read_front declared_by [] sections ≡ (declared, None)
  pub kept : KeptOf names places codes scale declared

abbrev pub HeaderDone : Header → List Placed → Type 0
HeaderDone header items =
    PartsDone header.names header.places.items header.codes.items header.scale items

-- a section of these tokens has this fault, and none before it has one
abbrev pub HeaderFaulty : List Placed → CaptureFault → Type 0
HeaderFaulty items fault =
    (rest : List Placed) → (declared_in (header_from None (items ++ rest))).1 ≡ Some fault

-- what an answer means behind these tokens
abbrev pub TokenSays : Header → List Placed → Result Bool CaptureError → Type 0
TokenSays new items (Ok true) = HeaderDone new items
TokenSays new items (Ok false) = HeaderAt new items
TokenSays new items (Err (error.Fault fault)) = HeaderFaulty items fault
TokenSays new items (Err error.Read) = ⊥
TokenSays new items (Err error.NoMemory) = Unit {0}

abbrev pub HeaderGives : Header → Header → Placed → Result Bool CaptureError → Type 0
HeaderGives old new token result =
    (items : List Placed) → HeaderAt old items → TokenSays new (items ++ token ∷ []) result

-- the same at the end of a section
abbrev pub Closes : Header → Header → ℕ → Result Bool CaptureError → Type 0
Closes old new end_at result = HeaderGives old new (end_at, codes "$end") result

-- a variable of so many channels was added
pub record Adds (old new : Header) (width : ℕ) : Type 0 where
  pub kind_stays : new.kind ≡ old.kind
  pub names : new.names ≡ old.names ++ names_by width (map placed old.words.items)
  pub places : new.places.items ≡ old.places.items ++ places_of (length old.codes.items) width
  pub code : Vec ℕ Global
  pub code_is : code.items ≡ text_at (map placed old.words.items) 2
  pub codes : new.codes.items ≡ old.codes.items ++ code ∷ []
  pub scale : new.scale ≡ old.scale

-- what is needed of a word was kept
abbrev pub KeepsWord : Kind → List Word → List Word → ℕ → List ℕ → Type 0
KeepsWord kind.Outside old new at text = Unit {0}
KeepsWord kind.Passed old new at text = Unit {0}
KeepsWord kind.Definitions old new at text = Unit {0}
KeepsWord kind.Scale old new at text = map placed new ≡ scale_step (map placed old) (at, text)
KeepsWord kind.Variable old new at text = map placed new ≡ variable_step (map placed old) (at, text)

pub record Keeps (old new : Header) (at : ℕ) (text : List ℕ) : Type 0 where
  pub kind_stays : new.kind ≡ old.kind
  pub at_stays : new.at ≡ old.at
  pub words : KeepsWord old.kind old.words.items new.words.items at text
  pub names : new.names ≡ old.names
  pub places : new.places ≡ old.places
  pub codes : new.codes ≡ old.codes
  pub scale : new.scale ≡ old.scale
