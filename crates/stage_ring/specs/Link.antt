-- What a contract sees of the two ends of a link.
use Rattle.std.specs.Prelude.{◌≡◌, ℕ, ◌+◌, ◌-◌, ◌^◌, min, List, [], Bool, true, false}
use denote.RawPtr.{Ptr}
use Rattle.std.specs.declared.alloc.Global.{Global}
use Rattle.rtrb.specs.Ring.{known_free, known_items, producer_capacity}
use Rattle.rtrb.specs.Ring.{sent as pushed, received as popped}
use Rattle.rtrb.specs.Shared.{Names}
use Rattle.stage_ring.specs.declared.ends.Tx.{Tx}
use Rattle.stage_ring.specs.declared.ends.Rx.{Rx}

-- which link an end belongs to
pub record Link : Type 0 where
  pub words : Ptr
  pub places : Ptr
  pub names : Names
  pub heap : Global

module _ {T : Type 0} where
  abbrev pub tx_link : Tx T → Link
  tx_link t = record {
    words = t.ring.end.words;
    places = t.ring.end.slots;
    names = t.ring.end.names;
    heap = t.ring.end.heap;
  }

  abbrev pub rx_link : Rx T → Link
  rx_link r = record {
    words = r.ring.end.words;
    places = r.ring.end.slots;
    names = r.ring.end.names;
    heap = r.ring.end.heap;
  }

  -- how many items the link has room for
  abbrev pub slots : Tx T → ℕ
  slots t = producer_capacity t.ring

  -- the items sent, oldest first
  abbrev pub sent : Tx T → List T
  sent t = pushed t.ring

  -- how many slots this end knows to be free
  abbrev pub free : Tx T → ℕ
  free t = known_free t.ring

  -- the items received, oldest first
  abbrev pub received : Rx T → List T
  received r = popped r.ring

  -- the items that this end knows to be waiting, oldest first
  abbrev pub known : Rx T → List T
  known r = known_items r.ring

  -- how often an offer found too few free slots
  abbrev pub tx_misses : Tx T → ℕ
  tx_misses t = t.missed

  -- how often a take found no item
  abbrev pub rx_misses : Rx T → ℕ
  rx_misses r = r.missed

  -- the two ends of one link
  abbrev pub IsLink : Tx T → Rx T → Type 0
  IsLink t r = tx_link t ≡ rx_link r

-- one more, up to the last value of the type
abbrev pub more : ℕ → ℕ
more n = min (n + 1) (2 ^ 64 - 1)

-- one more where it was a miss
abbrev pub more_if : Bool → ℕ → ℕ
more_if true n = more n
more_if false n = n

-- the two ends of a new link
pub record Opens {T : Type 0} (wide : ℕ) (t : Tx T) (r : Rx T) : Type 0 where
  pub one : IsLink t r
  pub room : slots t ≡ wide
  pub sent_none : sent t ≡ []
  pub all_free : free t ≡ wide
  pub received_none : received r ≡ []
  pub known_none : known r ≡ []
  pub no_misses : (tx_misses t ≡ 0) × (rx_misses r ≡ 0)
