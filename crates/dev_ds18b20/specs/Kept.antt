-- What is kept of an open transaction, as plain parts.
use Rattle.std.specs.Prelude.{ℕ, ◌<◌, ◌^◌, ◌==◌, nat_le, if◌then◌else◌, List, [], ◌∷◌, ◌++◌, length}
use Rattle.std.specs.Prelude.{min, take}
use Rattle.std.specs.Int.{w64, to_be_bytes}
use Rattle.plain_bytes.specs.Forms.{byte_at, number_at, pair_at}
use Rattle.dev_ds18b20.specs.declared.spot.Spot.{Spot}
use Rattle.dev_ds18b20.specs.declared.held.Stage.{Stage}
use Rattle.dev_ds18b20.specs.declared.held.Stage.TheVariants.{Foreign, Own, Reads, Writes, Told}
use Rattle.dev_ds18b20.specs.declared.held.Transaction.{Transaction}
use Rattle.dev_ds18b20.specs.Probe.{nth}

abbrev pub SpotParts : Type 0
SpotParts = ℕ × (ℕ × ℕ)

abbrev pub spot_parts : Spot → SpotParts
spot_parts spot = (spot.start, (spot.end, spot.byte))

abbrev pub spot_of_parts : SpotParts → Spot
spot_of_parts parts = record { start = parts.0; end = parts.1.0; byte = parts.1.1 }

abbrev pub spot_fits : Spot → Type 0
spot_fits spot = (spot.start < 2 ^ 64) × ((spot.end < 2 ^ 64) × (spot.byte < 2 ^ 8))

-- a byte as bytes: where it starts, where it ends, and itself
abbrev pub spot_bytes : Spot → List ℕ
spot_bytes spot = to_be_bytes w64 spot.start ++ (to_be_bytes w64 spot.end ++ spot.byte ∷ [])

abbrev pub spot_made : SpotParts × List ℕ → Spot × List ℕ
spot_made read = (spot_of_parts read.0, read.1)

abbrev pub spot_at : List ℕ → Spot × List ℕ
spot_at bytes = spot_made (pair_at (number_at w64) (pair_at (number_at w64) byte_at) bytes)

abbrev pub EightSpots : Type 0
EightSpots = ((Spot × Spot) × (Spot × Spot)) × ((Spot × Spot) × (Spot × Spot))

abbrev pub BytesParts : Type 0
BytesParts = ℕ × EightSpots

-- how many bytes there are; 256, which no byte is, where there are more than eight
abbrev pub count_of : List Spot → ℕ
count_of bytes = if nat_le (length bytes) 8 then length bytes else 256

-- eight bytes, those behind the last of them blank
abbrev pub eight_parts : List Spot → EightSpots
eight_parts bytes = (
  ((nth bytes 0, nth bytes 1), (nth bytes 2, nth bytes 3)),
  ((nth bytes 4, nth bytes 5), (nth bytes 6, nth bytes 7)),
)

abbrev pub bytes_parts : List Spot → BytesParts
bytes_parts bytes = (count_of bytes, eight_parts bytes)

abbrev eight_of : EightSpots → List Spot
eight_of parts =
    parts.0.0.0 ∷ parts.0.0.1 ∷ parts.0.1.0 ∷ parts.0.1.1
    ∷ parts.1.0.0 ∷ parts.1.0.1 ∷ parts.1.1.0 ∷ parts.1.1.1 ∷ []

abbrev pub bytes_of_parts : BytesParts → List Spot
bytes_of_parts parts = take (min parts.0 8) (eight_of parts.1)

abbrev pub stage_place : Stage → ℕ
stage_place Foreign = 0
stage_place Own = 1
stage_place Reads = 2
stage_place Writes = 3
stage_place Told = 4

abbrev pub stage_at : ℕ → Stage
stage_at place =
    if place == 0 then Foreign
    else if place == 1 then Own
    else if place == 2 then Reads
    else if place == 3 then Writes
    else Told

abbrev pub Parts : Type 0
Parts = ℕ × (ℕ × BytesParts)

-- where it starts, the place of its stage, and its bytes
abbrev pub transaction_parts : Transaction → Parts
transaction_parts kept = (kept.start, (stage_place kept.stage, bytes_parts kept.bytes))

abbrev pub transaction_of : Parts → Transaction
transaction_of parts =
    record { start = parts.0; stage = stage_at parts.1.0; bytes = bytes_of_parts parts.1.1 }
