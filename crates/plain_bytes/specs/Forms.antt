-- How plain values are put as bytes, and read.
use Rattle.std.specs.Prelude.{ℕ, ◌≡◌, ◌≤◌, ◌+◌, ◌*◌, ◌/◌, ◌%◌, ◌^◌, nat_lt, if◌then◌else◌, List, []}
use Rattle.std.specs.Prelude.{◌∷◌, ◌++◌, length, take, drop, Option, Some, None, ◌==◌}
use Rattle.std.specs.Int.{Width, w64, byte_len, to_be_bytes, from_be_bytes}

-- what was put is read back, whatever follows it
abbrev pub ReadsBack : {X : Type 0} → (X → Type 0) → (X → List ℕ) → (List ℕ → X × List ℕ) → Type 0
ReadsBack {X} fits bytes_of read = (x : X) (rest : List ℕ) → fits x
    → read (bytes_of x ++ rest) ≡ (x, rest)

-- a value has at most so many bytes
abbrev pub IsAtMost : {X : Type 0} → (X → List ℕ) → ℕ → Type 0
IsAtMost {X} bytes_of most = (x : X) → length (bytes_of x) ≤ most

-- the byte at the front, or 0, and those behind it
abbrev pub byte_at : List ℕ → ℕ × List ℕ
byte_at [] = (0, [])
byte_at (byte ∷ bytes) = (byte, bytes)

-- the number at the front, its highest byte first, or 0 where there are too few bytes
unfoldable pub number_at : Width → List ℕ → ℕ × List ℕ
number_at width bytes =
    if nat_lt (length bytes) (byte_len width) then (0, []) else
    (from_be_bytes width (take (byte_len width) bytes), drop (byte_len width) bytes)

-- a pair, the first in front
abbrev pub pair_at : {X Y : Type 0} → (List ℕ → X × List ℕ) → (List ℕ → Y × List ℕ) → List ℕ
    → (X × Y) × List ℕ
pair_at one other bytes = (((one bytes).0, (other (one bytes).1).0), (other (one bytes).1).1)

-- a number of 128 bits: its high half, and its low half behind it
abbrev pub halves_bytes : ℕ → List ℕ
halves_bytes n = to_be_bytes w64 (n / 2 ^ 64) ++ to_be_bytes w64 (n % 2 ^ 64)

abbrev pub halves_joined : (ℕ × ℕ) × List ℕ → ℕ × List ℕ
halves_joined read = (read.0.0 * 2 ^ 64 + read.0.1, read.1)

abbrev pub halves_at : List ℕ → ℕ × List ℕ
halves_at bytes = halves_joined (pair_at (number_at w64) (number_at w64) bytes)

-- an option: a byte that tells whether there is a value, and the value
abbrev pub option_bytes : {X : Type 0} → (X → List ℕ) → Option X → List ℕ
option_bytes bytes_of None = 0 ∷ []
option_bytes bytes_of (Some x) = 1 ∷ bytes_of x

abbrev pub option_fits : {X : Type 0} → (X → Type 0) → Option X → Type 0
option_fits fits None = Unit {0}
option_fits fits (Some x) = fits x

abbrev pub some_at : {X : Type 0} → X × List ℕ → Option X × List ℕ
some_at read = (Some read.0, read.1)

abbrev pub option_at : {X : Type 0} → (List ℕ → X × List ℕ) → List ℕ → Option X × List ℕ
option_at read [] = (None, [])
option_at read (byte ∷ bytes) = if byte == 0 then (None, bytes) else some_at (read bytes)

-- the bytes begin with those of this value, and then come these
pub record BeginsWith {X : Type 0} (fits : X → Type 0) (bytes_of : X → List ℕ) (bytes : List ℕ)
    (x : X) (rest : List ℕ) : Type 0 where
  pub value_fits : fits x
  pub parts : bytes ≡ bytes_of x ++ rest

-- the bytes begin with those of this value, and of no other
pub record IsFront {X : Type 0} (fits : X → Type 0) (bytes_of : X → List ℕ) (bytes : List ℕ) (x : X)
    (rest : List ℕ) : Type 0 where
  pub begins : BeginsWith fits bytes_of bytes x rest
  pub only : (y : X) (more : List ℕ) → BeginsWith fits bytes_of bytes y more → (y ≡ x)
      × (more ≡ rest)

-- a value is put as just these bytes
abbrev pub IsPutAs : {X : Type 0} → (X → Type 0) → (X → List ℕ) → X → List ℕ → Type 0
IsPutAs fits bytes_of x bytes = fits x × (bytes ≡ bytes_of x)

-- its parts tell a value, where they are values of their types
abbrev pub ComesBack : {X P : Type 0} → (P → Type 0) → (X → P) → (P → X) → Type 0
ComesBack {X} fits parts_of value_of = (x : X) → fits (parts_of x) → value_of (parts_of x) ≡ x

abbrev pub option_map : {X Y : Type 0} → (X → Y) → Option X → Option Y
option_map f None = None
option_map f (Some x) = Some (f x)
