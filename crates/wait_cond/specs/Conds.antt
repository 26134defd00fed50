-- The alternatives of a condition, and what is kept beside them.
use Rattle.std.specs.Prelude.{ℕ, ◌≡◌, ◌≢◌, ◌≤◌, ◌<◌, ◌^◌, List, [], ◌∷◌, length, slice_get, Some}
use Rattle.wait_cond.specs.Pairs.{Says, SaysAll}
use Rattle.wait_cond.specs.Watching.{Watches, AskHigh, SkipAtLeast}
use Rattle.wait_cond.specs.declared.alt.Alt.{Alt}
use Rattle.wait_cond.specs.declared.pair.Pair.{Pair}

-- the alternatives, in their order: what a condition is seen as
abbrev pub cond_alts : List Alt → List Alt
cond_alts cond = cond

-- there are one or two alternatives, and masks say all of each
pub record IsExact (alts : List Alt) : Type 0 where
  pub few : length alts ≤ 2
  pub each : (i : ℕ) (alt : Alt) → slice_get alts i ≡ Some alt → SaysAll alt

-- what is kept beside the alternatives: the lines that they watch and that they ask to be high,
-- their least skip, and their masks
pub record IsKept (alts : List Alt) (watched high skip : ℕ) (pair : Pair) : Type 0 where
  pub some : 1 ≤ length alts
  pub watches : watched ≢ 0 → Watches watched alts
  pub asks : AskHigh high alts
  pub skips : SkipAtLeast skip alts
  pub says : IsExact alts → Says pair alts

-- an alternative asks nothing of the lines, and so many samples to pass
pub record OnlySkips (alt : Alt) : Type 0 where
  pub low : alt.low ≡ 0
  pub high : alt.high ≡ 0
  pub rise : alt.rise ≡ 0
  pub fall : alt.fall ≡ 0
  pub edge : alt.edge ≡ 0
  pub steady : alt.steady ≡ 0
  pub skip : alt.skip ≢ 0

-- one alternative alone, which only skips so many samples
pub record IsTimer (alts : List Alt) (skip : ℕ) : Type 0 where
  pub alt : Alt
  pub is : alts ≡ alt ∷ []
  pub only : OnlySkips alt
  pub skips : alt.skip ≡ skip

-- one alternative alone, which asks these lines of the lower half to fall, and nothing else
pub record IsFall (alts : List Alt) (lines : ℕ) : Type 0 where
  pub alt : Alt
  pub is : alts ≡ alt ∷ []
  pub low : alt.low ≡ 0
  pub high : alt.high ≡ 0
  pub rise : alt.rise ≡ 0
  pub fall : alt.fall ≡ lines
  pub edge : alt.edge ≡ 0
  pub steady : alt.steady ≡ 0
  pub skip : alt.skip ≡ 0
  pub lower : lines < 2 ^ 64
  pub some : lines ≢ 0
