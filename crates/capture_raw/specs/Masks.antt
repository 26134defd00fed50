-- Bits that tell samples apart, and bytes that agree on them.
use Rattle.std.specs.Prelude.{ℕ, ◌≡◌, ◌*◌, ◌<◌, List, length, slice_index, take, replicate}
use Rattle.std.specs.Int.{bit_at}
use Rattle.capture_raw.specs.Raw.{picked, word_of, raw_samples}

-- the mask has the bit of each pin
abbrev pub Covers : ℕ → List ℕ → Type 0
Covers mask pins = (k : ℕ) → k < length pins → bit_at mask (slice_index pins k) ≡ 1

-- a and b agree on the bits of the mask
abbrev pub Agree : ℕ → ℕ → ℕ → Type 0
Agree mask a b = (i : ℕ) → bit_at mask i ≡ 1 → bit_at a i ≡ bit_at b i

-- so many bytes at the front agree with this one
abbrev pub AllAgree : ℕ → ℕ → List ℕ → ℕ → Type 0
AllAgree mask first bytes count = (k : ℕ) → k < count → Agree mask (slice_index bytes k) first

-- so many units at the front give the sample of the first, for all pins whose bits the mask has
abbrev pub SameSamples : ℕ → ℕ → List ℕ → ℕ → Type 0
SameSamples unit mask bytes count =
    (pins : List ℕ) → Covers mask pins → raw_samples unit pins (take (count * unit) bytes)
    ≡ replicate count (word_of pins (take unit bytes))

-- a table of what the pins pick of each byte, times its worth
abbrev pub OfBytes : ℕ → List ℕ → List ℕ → Type 0
OfBytes worth table pins =
    (byte : ℕ) → byte < 256 → slice_index table byte ≡ picked pins (worth * byte)
