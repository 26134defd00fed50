-- Channels in chains, each of those whose codes have one key.
use Rattle.std.specs.Prelude.{ℕ, ◌≡◌, ◌≢◌, ◌+◌, ◌-◌, ◌%◌, ◌<◌, ◌≤◌, false, List, [], ◌∷◌, length}
use Rattle.std.specs.Prelude.{map, slice_index}
use Rattle.std.specs.declared.vec.Vec.{Vec}
use Rattle.std.specs.declared.alloc.Global.{Global}
use Rattle.la_base.specs.Naming.{same_name}
use Rattle.capture_vcd.specs.Body.{Channel}
use Rattle.capture_vcd.specs.Slots.{code_at}
use Rattle.capture_vcd.specs.declared.slots.Slot.{Slot}

-- a byte that tells most codes apart: the first and the last byte, added
abbrev pub key_of : List ℕ → ℕ
key_of code = (slice_index code 0 + slice_index code (length code - 1)) % 256

-- the keys of the codes of channels
abbrev pub keys_of : List Channel → List ℕ
keys_of channels = map (λ channel. key_of channel.0) channels

-- a place is the first one, from another on, where this key stands among these; where it doesn't,
-- it lies behind them all
pub record Leads (keys : List ℕ) (key from place : ℕ) : Type 0 where
  pub later : from ≤ place
  pub none : (k : ℕ) → from ≤ k → k < place → k < length keys → slice_index keys k ≢ key
  pub has : place < length keys → slice_index keys place ≡ key

-- from a place on, each key leads to the first channel that has it, and each channel to the next
-- one that has its key
pub record ChainedFrom (from : ℕ) (heads next keys : List ℕ) : Type 0 where
  pub first : (key : ℕ) → key < 256 → Leads keys key from (slice_index heads key)
  pub behind : (place : ℕ) → from ≤ place → place < length keys
      → Leads keys (slice_index keys place) (place + 1) (slice_index next place)

-- none of these channels has this code
abbrev pub NoneHas : List (Vec ℕ Global) → List ℕ → List Slot → Type 0
NoneHas codes code [] = Unit {0}
NoneHas codes code (slot ∷ slots) =
    (same_name (code_at codes slot.variable) code ≡ false) × NoneHas codes code slots
