-- The number that bits make up.
use Rattle.std.specs.Prelude.{ℕ, ◌+◌, ◌*◌, Bool, true, false, List, [], ◌∷◌}

-- a bit as a number
abbrev pub bit_of : Bool → ℕ
bit_of true = 1
bit_of false = 0

-- a number with more bits behind it
abbrev pub with_bits : ℕ → List Bool → ℕ
with_bits n [] = n
with_bits n (bit ∷ bits) = with_bits (2 * n + bit_of bit) bits

-- the first bit is the highest
abbrev pub high_first : List Bool → ℕ
high_first bits = with_bits 0 bits

-- the first bit is the lowest
abbrev pub low_first : List Bool → ℕ
low_first [] = 0
low_first (bit ∷ bits) = bit_of bit + 2 * low_first bits
