-- What alternatives ask, in masks of the lines that the lower half of a sample has.
use Rattle.std.specs.Prelude.{ℕ, ◌≡◌, ◌≢◌, ◌^◌, ◌/◌, ◌%◌, ◌<◌, List, [], ◌∷◌, ◌⊎◌, true, bit_and, bit_or}
use Rattle.std.specs.Prelude.{bit_xor}
use Rattle.wait_cond.specs.Watching.{edge_lines, high_lines, AskHigh}
use Rattle.wait_cond.specs.declared.alt.Alt.{Alt}
use Rattle.wait_cond.specs.declared.pair.Masks.{Masks}
use Rattle.wait_cond.specs.declared.pair.Pair.{Pair}

-- the lines that an alternative asks to be low, also those that fall
abbrev pub low_lines : Alt → ℕ
low_lines alt = bit_or alt.low alt.fall

-- the lines of which it asks a level, and those of which it asks that they change or that they
-- don't
abbrev pub level_lines : Alt → ℕ
level_lines alt = bit_or (high_lines alt) (low_lines alt)

abbrev pub change_lines : Alt → ℕ
change_lines alt = bit_or (edge_lines alt) alt.steady

-- these are the masks of an alternative
pub record OfAlt (masks : Masks) (alt : Alt) : Type 0 where
  pub want : masks.want ≡ high_lines alt % 2 ^ 64
  pub care : masks.care ≡ level_lines alt % 2 ^ 64
  pub edge : masks.edge ≡ edge_lines alt % 2 ^ 64
  pub asked : masks.asked ≡ change_lines alt % 2 ^ 64

-- the masks say all: there is no skip, an edge is asked, of no line two things that don't go
-- together, and nothing of a line of the upper half
pub record SaysAll (alt : Alt) : Type 0 where
  pub skip : alt.skip ≡ 0
  pub edge : edge_lines alt ≢ 0
  pub levels : bit_and (high_lines alt) (low_lines alt) ≡ 0
  pub changes : bit_and (edge_lines alt) alt.steady ≡ 0
  pub lower : bit_or (level_lines alt) (change_lines alt) / 2 ^ 64 ≡ 0

-- the lines that keep a sample from meeting an alternative
abbrev pub missing : Masks → ℕ → ℕ → ℕ
missing masks changed now =
    bit_or (bit_and (bit_xor now masks.want) masks.care)
    (bit_and (bit_xor changed masks.edge) masks.asked)

-- the same of whole samples
abbrev pub missing_in : Masks → ℕ → ℕ → ℕ
missing_in masks before now =
    missing masks (bit_xor (before % 2 ^ 64) (now % 2 ^ 64)) (now % 2 ^ 64)

-- no sample meets both of two alternatives: one asks that a line changes, and the other that it
-- doesn't
abbrev pub Excludes : Masks → Masks → Type 0
Excludes one two = bit_and (bit_and one.asked two.asked) (bit_xor one.edge two.edge) ≢ 0

-- a pair is one alternative, whose masks stand twice, or two
pub record SaysOne (pair : Pair) (alts : List Alt) : Type 0 where
  pub alt : Alt
  pub is : alts ≡ alt ∷ []
  pub masks : OfAlt pair.one alt
  pub again : pair.two ≡ pair.one
  pub all : SaysAll alt
  pub alone : pair.alone ≡ true

pub record SaysTwo (pair : Pair) (alts : List Alt) : Type 0 where
  pub first : Alt
  pub second : Alt
  pub is : alts ≡ first ∷ second ∷ []
  pub masks : OfAlt pair.one first
  pub others : OfAlt pair.two second
  pub all : SaysAll first
  pub also : SaysAll second
  pub alone : pair.alone ≡ true → Excludes pair.one pair.two

pub record Says (pair : Pair) (alts : List Alt) : Type 0 where
  pub high : AskHigh pair.high alts
  pub lower : pair.high < 2 ^ 64
  pub each : SaysOne pair alts ⊎ SaysTwo pair alts
