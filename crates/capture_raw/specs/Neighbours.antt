-- Pins that are neighbours, in order.
use Rattle.std.specs.Prelude.{ℕ, ◌≡◌, ◌/◌, ◌^◌, Bool, true, List}
use Rattle.std.specs.Int.Bits.{bit_and}
use Rattle.capture_raw.specs.Raw.{picked}

-- where this holds, a shift by the first pin, and these ones, pick as the pins do
abbrev pub Picks : Bool → ℕ → ℕ → List ℕ → Type 0
Picks holds first ones pins = holds ≡ true → (n : ℕ) → bit_and (n / 2 ^ first) ones ≡ picked pins n
