-- Where the channels of a file stand.
use Rattle.std.specs.Prelude.{ℕ, ◌<◌, List, [], ◌∷◌, map}
use Rattle.std.specs.List.{range_with_len}
use Rattle.std.specs.declared.vec.Vec.{Vec}
use Rattle.std.specs.declared.alloc.Global.{Global}
use Rattle.capture_vcd.specs.Body.{Channel}
use Rattle.capture_vcd.specs.Slots.{code_at}
use Rattle.capture_vcd.specs.declared.place.Place.{Place}

-- a place, with the codes of the variables
abbrev pub channel_at : List (Vec ℕ Global) → Place → Channel
channel_at codes place = (code_at codes place.variable, place.bit)

-- the bits of a variable, from the lowest on
abbrev pub places_of : ℕ → ℕ → List Place
places_of variable width =
    map (λ bit. record { variable = variable; bit = bit }) (range_with_len 0 width)

-- each is of one of so many variables
abbrev pub Below : ℕ → List Place → Type 0
Below count [] = Unit {0}
Below count (place ∷ places) = (place.variable < count) × Below count places
