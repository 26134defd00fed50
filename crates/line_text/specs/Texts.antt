-- Numbers as text.
use Rattle.std.specs.Prelude.{ℕ, ◌-◌, Bool, true, List, [], ◌∷◌, ◌++◌, length, replicate}
use Rattle.std.specs.Prelude.{if◌then◌else◌}
use Rattle.std.specs.Fmt.{decimal, digits}

-- a text behind as many `0` as it lacks of a width
unfoldable pub padded : ℕ → List ℕ → List ℕ
padded width text = replicate (width - length text) 48 ++ text

-- a number in upper case base 16, with at least that many digits
abbrev pub hex : ℕ → ℕ → List ℕ
hex width n = padded width (digits 16 true n)

-- `-` where negative
abbrev pub sign : Bool → List ℕ
sign negative = if negative then 45 ∷ [] else []

-- a sign, a whole number, a point, and a part of that many digits
abbrev pub fixed : Bool → ℕ → ℕ → ℕ → List ℕ
fixed negative whole part width =
    sign negative ++ decimal whole ++ 46 ∷ [] ++ padded width (decimal part)
