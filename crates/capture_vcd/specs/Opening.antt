-- What the reading of a header means.
use Rattle.std.specs.Prelude.{ℕ, ◌≡◌, ◌^◌, ◌<◌, ◌≤◌, Bool, true, false, List, ◌++◌, Option, Result}
use Rattle.std.specs.Prelude.{Ok, Err}
use Rattle.std.specs.Io.KnownBytes.{Consumes, IsAtEnd}
use Rattle.text_parts.specs.Places.{Placed}
use Rattle.la_io.specs.declared.fault.CaptureError.{CaptureError}
use Rattle.la_io.specs.declared.fault.CaptureError.TheVariants as error
use Rattle.la_io.specs.Capture.{Told, AtEnd, Cut, Bad, Unread}
use Rattle.byte_feed.specs.Reader.{Stands, is_spent, left_of, taken_of}
use Rattle.byte_feed.specs.declared.tokens.Tokens.{Tokens}
use Rattle.capture_vcd.specs.Vcd.{vcd_capture}
use Rattle.capture_vcd.specs.Gathering.{HeaderAt, HeaderDone}
use Rattle.capture_vcd.specs.Keeping.{KeepsFew}
use Rattle.capture_vcd.specs.declared.header.Header.{Header}

-- these bytes are a front of a file whose header isn't whole yet
pub record Started (tokens : Tokens) (header : Header) (left : Option (List ℕ))
    (bytes : List ℕ) : Type 0 where
  pub told : Told
  pub items : List Placed
  pub at_end : told ≡ AtEnd → IsAtEnd left
  pub stands : Stands tokens bytes told items
  pub begun : HeaderAt header items

-- these bytes are a front of a file whose header is whole
pub record Whole (tokens : Tokens) (header : Header) (left : Option (List ℕ))
    (bytes : List ℕ) : Type 0 where
  pub told : Told
  pub items : List Placed
  pub at_end : told ≡ AtEnd → IsAtEnd left
  pub stands : Stands tokens bytes told items
  pub few : taken_of tokens ≤ 2 ^ 60
  pub done : HeaderDone header items

-- what an answer says of the bytes that were taken: `true` is a whole header
abbrev pub HeadSays : Tokens → Header → Option (List ℕ) → List ℕ → Result Bool CaptureError → Type 0
HeadSays tokens header left bytes (Ok true) = Whole tokens header left bytes
HeadSays tokens header left bytes (Ok false) = Started tokens header left bytes
HeadSays tokens header left bytes (Err (error.Fault fault)) =
    (told : Told) × (told ≡ AtEnd → IsAtEnd left)
    × ((down : ℕ) (pins : List ℕ) → (vcd_capture down pins bytes told).head ≡ Bad fault)
HeadSays tokens header left bytes (Err error.Read) =
    (down : ℕ) (pins : List ℕ) → (vcd_capture down pins bytes Cut).head ≡ Unread
HeadSays tokens header left bytes (Err error.NoMemory) = Unit {0}

pub record HeadReads (tokens_old tokens_new : Tokens) (header_old header_new : Header)
    (left_old left_new : Option (List ℕ)) (result : Result Bool CaptureError) : Type 0 where
  pub bytes : List ℕ
  pub consumed : Consumes left_old left_new bytes
  pub says : (before : List ℕ) → Started tokens_old header_old left_old before
      → HeadSays tokens_new header_new left_new (before ++ bytes) result

-- behind a token it reads on, and less is left
abbrev pub HeadOn : Tokens → Tokens → Result Bool CaptureError → Type 0
HeadOn old new (Ok done) = (is_spent new ≡ false) × (left_of new < left_of old)
HeadOn old new (Err why) = Unit {0}

-- what is kept of the section that is open at most
abbrev pub HoldsFew : Header → Type 0
HoldsFew header = KeepsFew header.kind header.words.items
