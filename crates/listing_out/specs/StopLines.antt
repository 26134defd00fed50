-- The listing of `find`: a line for each stop.
use Rattle.std.specs.Prelude.{ℕ, ◌≡◌, ◌==◌, ◌+◌, ◌*◌, ◌/◌, ◌≤◌, Bool, codes, if◌then◌else◌}
use Rattle.std.specs.Prelude.{List, [], ◌++◌, map, filter, length, take, drop}
use Rattle.std.specs.Fmt.{decimal}
use Rattle.std.specs.Int.{bit_at}
use Rattle.std.specs.List.{flat_map, join_with_byte, range_with_len}
use Rattle.wait_cond.specs.Stops.{Stop}

-- whether an alternative is in a set
abbrev pub is_member : ℕ → ℕ → Bool
is_member set place = bit_at set place == 1

-- the members of a set that are below n, rising
abbrev pub members_below : ℕ → ℕ → List ℕ
members_below n set = filter (λ place. is_member set place) (range_with_len 0 n)

-- what stands before a member, the first or a further one
abbrev pub separator : Bool → List ℕ
separator first = if first then [] else codes ","

-- the numbers of the alternatives in a set, with commas between them
abbrev pub joined : List ℕ → List ℕ
joined numbers = join_with_byte 44 (map decimal numbers)

-- what stands behind the sample in a line: the alternatives that are met there
abbrev pub behind_sample : ℕ → List ℕ
behind_sample set = codes ": " ++ joined (members_below 8 set) ++ codes "\n"

-- the line of a stop: its sample, and the alternatives that are met there
abbrev pub line_of : Stop → List ℕ
line_of stop = decimal stop.0 ++ behind_sample stop.1

-- the lines of stops
abbrev pub lines_of : List Stop → List ℕ
lines_of stops = flat_map line_of stops

-- a line whose last two digits may be made anew: where they stand, what its sample is without
-- them, and the alternatives that it tells
pub record Mends (line : List ℕ) (low hundreds set : ℕ) : Type 0 where
  pub room : low + 2 ≤ length line
  pub round : hundreds / 100 * 100 ≡ hundreds
  pub front : take low line ≡ decimal (hundreds / 100)
  pub behind : drop (low + 2) line ≡ behind_sample set
