-- What lies on the links of a tree whose two ends were tied.
use Rattle.std.specs.Prelude.{ℕ, ◌≡◌, ◌≢◌, ◌≤◌, List, ◌++◌, map, length, Option, Some, None}
use Rattle.std.specs.Prelude.{slice_get}
use Rattle.la_base.specs.declared.wires.Feed.{Feed}
use Rattle.la_base.specs.declared.wires.Mark.{Mark}
use Rattle.stage_ring.specs.Link.{known, received, rx_link, sent, slots, tx_link}
use Rattle.stage_ring.specs.declared.ends.Rx.{Rx}
use Rattle.stage_ring.specs.declared.ends.Tx.{Tx}
use Rattle.stage_run.specs.Inputs.{came}
use Rattle.stage_run.specs.Stages.{parts_links}
use Rattle.stage_run.specs.declared.input.Input.{Input}
use Rattle.stage_run.specs.declared.input.Input.TheVariants.{Samples, Packets}
use Rattle.stage_run.specs.declared.input.HalfRun.{HalfRun}
use Rattle.stage_run.specs.declared.stage.Parts.{Parts}
use Rattle.stack_threads.specs.Trees.{place_of}

-- what an end has sent, and how many slots its link has
pub record Sent (T : Type 0) : Type 0 where
  pub items : List T
  pub slots : ℕ

-- what an end has received, and what it knows to wait
pub record Got (T : Type 0) : Type 0 where
  pub items : List T
  pub known : List T

abbrev pub sent_on : {T : Type 0} → Tx T → Sent T
sent_on tx = record { items = sent tx; slots = slots tx }

abbrev pub got_on : {T : Type 0} → Rx T → Got T
got_on rx = record { items = received rx; known = known rx }

-- the same of the end that a stage receives from
pub data Heard : Type 0 where
  HeardSamples : Got HalfRun → Heard
  HeardPackets : Got Feed → Heard

abbrev pub heard_on : Input → Heard
heard_on (Samples rx) = HeardSamples (got_on rx)
heard_on (Packets rx) = HeardPackets (got_on rx)

abbrev pub heard_by : {M : Type 0} → Parts M → Heard
heard_by p = heard_on p.input

-- the same of the ends that it sends on
pub record Given : Type 0 where
  pub children : List (Sent Feed)
  pub marks : Sent Mark

abbrev pub given_by : {M : Type 0} → Parts M → Given
given_by p = record { children = map sent_on p.children.items; marks = sent_on p.marks }

-- what was received, and then what is known to wait, is what was sent; at most as much waits as the
-- link has slots
pub record AllKnown {T : Type 0} (got : Got T) (sent : Sent T) : Type 0 where
  pub all : got.items ++ got.known ≡ sent.items
  pub few : length got.known ≤ sent.slots

abbrev pub KnowsSamples : Heard → Sent HalfRun → Type 0
KnowsSamples (HeardSamples got) sent = AllKnown got sent
KnowsSamples (HeardPackets got) sent = ⊥

abbrev pub KnowsPackets : Heard → Sent Feed → Type 0
KnowsPackets (HeardSamples got) sent = ⊥
KnowsPackets (HeardPackets got) sent = AllKnown got sent

-- so it is of the two links of an instance: its marks, and its input, which comes from the driver
-- or from the stage that it stands on
pub record Tied (parents : List (Option ℕ)) (heard : List Heard) (given : List Given)
    (feeds : List (Sent HalfRun)) (gathered : List (Got Mark)) (j : ℕ) : Type 0 where
  pub marks : (g : Given) (m : Got Mark) → slice_get given j ≡ Some g
      → slice_get gathered j ≡ Some m → AllKnown m g.marks
  pub root : slice_get parents j ≡ Some None → (h : Heard) (s : Sent HalfRun)
      → slice_get heard j ≡ Some h → slice_get feeds (place_of parents j None) ≡ Some s
      → KnowsSamples h s
  pub child : (p : ℕ) → slice_get parents j ≡ Some (Some p) → (h : Heard) (above : Given)
      (s : Sent Feed) → slice_get heard j ≡ Some h → slice_get given p ≡ Some above
      → slice_get above.children (place_of parents j (Some p)) ≡ Some s → KnowsPackets h s

-- the same machine and links, and on these the same was sent and received
pub record Alike {M : Type 0} (old new : Parts M) : Type 0 where
  pub machine : new.machine ≡ old.machine
  pub links : parts_links new ≡ parts_links old
  pub came : came new.input ≡ came old.input
  pub given : given_by new ≡ given_by old

-- the same of the driver's ends
pub record SameEnds (feeds_old feeds_new : List (Tx HalfRun)) (marks_old marks_new : List (Rx Mark))
    : Type 0 where
  pub feeds : (map sent_on feeds_new ≡ map sent_on feeds_old)
      × (map tx_link feeds_new ≡ map tx_link feeds_old)
  pub marks : (map received marks_new ≡ map received marks_old)
      × (map rx_link marks_new ≡ map rx_link marks_old)

-- two lists are the same at all places but one
abbrev pub SameBut : {X : Type 0} → ℕ → List X → List X → Type 0
SameBut i old new = (j : ℕ) → j ≢ i → slice_get new j ≡ slice_get old j
