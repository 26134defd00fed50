-- What an end does, item by item: one offer or take, and a list of them.
use Rattle.std.specs.Prelude.{◌≡◌, ℕ, zero, suc, ◌+◌, ◌≤◌, List, [], ◌∷◌, ◌++◌}
use mathlib.Core.List.{IsPrefix}
use Rattle.stage_ring.specs.declared.ends.Tx.{Tx}
use Rattle.stage_ring.specs.declared.ends.Rx.{Rx}
use Rattle.stage_ring.specs.Link.{Link, tx_link, rx_link, slots, more}
use Rattle.stage_ring.specs.Link.{sent, free, received, known, tx_misses, rx_misses}

-- what the end that sends shows
pub record Sender (T : Type 0) : Type 0 where
  pub link : Link
  pub slots : ℕ
  pub sent : List T
  pub free : ℕ
  pub misses : ℕ

-- what the end that receives shows
pub record Receiver (T : Type 0) : Type 0 where
  pub link : Link
  pub received : List T
  pub known : List T
  pub misses : ℕ

module _ {T : Type 0} where
  abbrev pub sender : Tx T → Sender T
  sender t = record {
    link = tx_link t;
    slots = slots t;
    sent = sent t;
    free = free t;
    misses = tx_misses t;
  }

  abbrev pub receiver : Rx T → Receiver T
  receiver r = record {
    link = rx_link r;
    received = received r;
    known = known r;
    misses = rx_misses r;
  }

-- an offer that was Ok
pub record Sends {T : Type 0} (a : Sender T) (item : T) (b : Sender T) : Type 0 where
  pub same : (b.link ≡ a.link) × (b.slots ≡ a.slots)
  pub sent : b.sent ≡ a.sent ++ item ∷ []
  pub free : a.free ≤ b.free + 1
  pub misses : b.misses ≡ a.misses

-- an offer that handed its item back
pub record HandsBack {T : Type 0} (a b : Sender T) : Type 0 where
  pub same : (b.link ≡ a.link) × (b.slots ≡ a.slots)
  pub sent : b.sent ≡ a.sent
  pub none_free : (a.free ≡ 0) × (b.free ≡ 0)
  pub misses : b.misses ≡ more a.misses

-- no offer; more slots may be known to be free
pub record OffersNone {T : Type 0} (a b : Sender T) : Type 0 where
  pub same : (b.link ≡ a.link) × (b.slots ≡ a.slots)
  pub sent : b.sent ≡ a.sent
  pub free : a.free ≤ b.free
  pub misses : b.misses ≡ a.misses

-- a take that gave an item
pub record Receives {T : Type 0} (a : Receiver T) (item : T) (b : Receiver T) : Type 0 where
  pub same : b.link ≡ a.link
  pub received : b.received ≡ a.received ++ item ∷ []
  pub known : IsPrefix a.known (item ∷ b.known)
  pub misses : b.misses ≡ a.misses

-- a take that found no item
pub record FindsNone {T : Type 0} (a b : Receiver T) : Type 0 where
  pub same : b.link ≡ a.link
  pub received : b.received ≡ a.received
  pub none_known : (a.known ≡ []) × (b.known ≡ [])
  pub misses : b.misses ≡ more a.misses

-- no take; more items may be known
pub record TakesNone {T : Type 0} (a b : Receiver T) : Type 0 where
  pub same : b.link ≡ a.link
  pub received : b.received ≡ a.received
  pub known : IsPrefix a.known b.known
  pub misses : b.misses ≡ a.misses

module _ {T : Type 0} where
  -- offers of the items one by one: the first `count` were Ok, and the next, where there is one,
  -- was handed back and ended it
  abbrev pub Offers : Sender T → List T → ℕ → Sender T → Type 0
  Offers a [] zero b = OffersNone a b
  Offers a [] (suc count) b = ⊥
  Offers a (item ∷ items) zero b = HandsBack a b
  Offers a (item ∷ items) (suc count) b =
      (between : Sender T) × Sends a item between × Offers between items count b

  -- takes one by one, which gave these items
  abbrev pub Takes : Receiver T → List T → Receiver T → Type 0
  Takes a [] b = TakesNone a b
  Takes a (item ∷ items) b =
      (between : Receiver T) × Receives a item between × Takes between items b
