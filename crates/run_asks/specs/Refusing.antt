-- Why nothing could be decoded or searched.
use Rattle.std.specs.Prelude.{ℕ, ◌≡◌, List, [], Option}
use Rattle.std.specs.Io.KnownBytes.{Consumes}
use Rattle.la_io.specs.Capture.{Told, Cut, Bad, Unread}
use Rattle.capture_any.specs.Captures.{ToldAt}
use Rattle.words.specs.Settings.{Values}
use Rattle.run_status.specs.declared.status.Status.{Status}
use Rattle.run_status.specs.declared.status.Status.TheVariants.{Done, Words, Stack, Bind, ReadFault}
use Rattle.run_status.specs.declared.status.Status.TheVariants.{Check, Capture, WriteFault, NoMemory}
use Rattle.run_asks.specs.Asking.{CannotBind, HasStackFault, HeadIs}

-- why nothing could be decoded or searched, by the status: of good words, and of the bytes that were
-- taken for the head
abbrev pub Refuses : Values → List ℕ → Told → Status → Type 0
Refuses values bytes told Done = ⊥
Refuses values bytes told (Words fault) = ⊥
Refuses values bytes told (Stack fault) = HasStackFault values fault × (bytes ≡ [])
Refuses values bytes told (Bind fault) = CannotBind values bytes told fault
Refuses values bytes told (Check fault) = ⊥
Refuses values bytes told ReadFault = (told ≡ Cut) × HeadIs values bytes told Unread
Refuses values bytes told (Capture fault) = HeadIs values bytes told (Bad fault)
Refuses values bytes told WriteFault = ⊥
Refuses values bytes told NoMemory = Unit {0}

-- the same of what took these bytes of its source
pub record RefusesOn (values : Values) (left_old left_new : Option (List ℕ)) (status : Status)
    : Type 0 where
  pub bytes : List ℕ
  pub told : Told
  pub taken : Consumes left_old left_new bytes
  pub at_end : ToldAt told left_new
  pub refuses : Refuses values bytes told status
