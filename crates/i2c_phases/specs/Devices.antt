-- What a device on an I2C bus promises.
use Rattle.std.specs.Prelude.{ℕ, ◌≡◌, ◌≤◌, Bool, if◌then◌else◌, List, [], ◌∷◌, ◌++◌, length}
use Rattle.la_base.specs.declared.wires.Out.{Out}
use Rattle.la_base.specs.declared.wires.Packet.{Packet}
use Rattle.la_base.specs.declared.wires.Wire.TheVariants.{Nothing as NoWire}
use Rattle.decoder_core.specs.Promises.{NotesFrom, PacketsOn}
use Rattle.list_cuts.specs.Along.{along}
use Rattle.i2c_phases.specs.declared.tracker.Event.{Event}
use Rattle.i2c_phases.specs.declared.tracker.Track.{Track}
use Rattle.i2c_phases.specs.Phases.{Meaning, Nothing, Writes, Reads, Reset, meanings}
use Rattle.i2c_phases.specs.laws.Tracking.{Comes, track}

-- each packet passes
abbrev pub Each : (Packet → Type 0) → List Packet → Type 0
Each Q [] = Unit {0}
Each Q (packet ∷ packets) = Q packet × Each Q packets

-- outputs grow by what passes
abbrev pub Adds : (List Out → Type 0) → List Out → List Out → Type 0
Adds P old now = (new : List Out) × (now ≡ old ++ new) × P new

-- what a phase gives grows byte by byte: where its bytes pass, by what passes
pub record ByByte (P : List Out → Type 0) (Q : Packet → Type 0)
    (out : Meaning → List Out) : Type 0 where
  pub none : P []
  pub nothing : out Nothing ≡ []
  pub reset : out Reset ≡ []
  pub no_write : out (Writes []) ≡ []
  pub no_read : out (Reads []) ≡ []
  pub write : (bytes : List Packet) (byte : Packet) → Each Q bytes → Q byte
      → Adds P (out (Writes bytes)) (out (Writes (bytes ++ byte ∷ [])))
  pub read : (bytes : List Packet) (byte : Packet) → Each Q bytes → Q byte
      → Adds P (out (Reads bytes)) (out (Reads (bytes ++ byte ∷ [])))

-- at most 16 outputs, whose notes start there or later
abbrev pub FewFrom : ℕ → List Out → Type 0
FewFrom floor new = (length new ≤ 16) × NotesFrom floor new

abbrev pub StartsFrom : ℕ → Packet → Type 0
StartsFrom floor packet = floor ≤ packet.start

-- each byte of a phase adds few outputs, whose notes start no earlier than the phase's bytes
abbrev pub GivesByByte : (List Meaning → Meaning → List Out) → Type 0
GivesByByte step =
    (floor : ℕ) (before : List Meaning) → ByByte (FewFrom floor) (StartsFrom floor) (step before)

-- no phase puts packets out
abbrev pub GivesNoPackets : (List Meaning → Meaning → List Out) → Type 0
GivesNoPackets step =
    (before : List Meaning) (phase : Meaning) → PacketsOn NoWire (step before phase)

-- what is known of a phase that isn't the device's is what is known of one without bytes
abbrev pub KnowsOpened : (List Meaning → Type 0) → Type 0
KnowsOpened knows =
    (before : List Meaning) → knows (before ++ Nothing ∷ [])
    → knows (before ++ Writes [] ∷ []) × knows (before ++ Reads [] ∷ [])

-- one more byte of an open phase
abbrev pub TakesByte : (List Packet → Meaning) → (List Meaning → Type 0) → (List Meaning → Type 0)
    → (List Meaning → Meaning → List Out) → Packet → List Out → Type 0
TakesByte kind old new step byte into =
    (before : List Meaning) (bytes : List Packet) → old (before ++ kind bytes ∷ [])
    → new (before ++ kind (bytes ++ byte ∷ []) ∷ [])
    × (step before (kind (bytes ++ byte ∷ [])) ≡ step before (kind bytes) ++ into)

-- two devices of one setup that know the same phases are equal
abbrev pub OneDevice : {D S : Type 0} → (D → S) → (D → List Meaning → Type 0) → Type 0
OneDevice {D} setup knows =
    (one other : D) (phases : List Meaning) → setup one ≡ setup other → knows one phases
    → knows other phases → one ≡ other

-- what a packet is to the device changes what it knows, and adds these outputs
abbrev pub Happens : (List Meaning → Type 0) → (List Meaning → Type 0)
    → (List Meaning → Meaning → List Out) → Event → Packet → List Out → Type 0
Happens old new step e p into =
    (phases longer : List Meaning) → Comes e p phases longer → old phases
    → new longer × (along step longer ≡ along step phases ++ into)

-- all that a device gives
abbrev pub phased : ℕ → Bool → (List Meaning → Meaning → List Out) → List Packet → List Out
phased device resets step packets = along step (meanings device resets packets)

-- a device stands for packets: it knows their phases, and what is kept is what they leave
abbrev pub StandsFor : (List Meaning → Type 0) → ℕ → Bool → Track → List Packet → Type 0
StandsFor knows device resets kept packets =
    (kept ≡ track device resets packets) × knows (meanings device resets packets)

-- where the open phase starts, by what is kept
abbrev pub near_by : Track → ℕ → ℕ
near_by kept from = if kept.begun then kept.start else from
