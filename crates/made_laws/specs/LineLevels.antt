-- A serial line by its levels alone: what the walk over samples gives does not depend on other
-- lines.
use Rattle.std.specs.Prelude.{ℕ, ◌+◌, nat_lt, Bool, false, not, ◌&&◌, if◌then◌else◌, List, [], ◌∷◌}
use Rattle.std.specs.Prelude.{◌++◌, length, map, Option, Some, None}
use Rattle.la_base.specs.Samples.{is_high}
use Rattle.la_base.specs.declared.wires.Out.{Out}
use Rattle.dec_uart.specs.Chain.{Shape}
use Rattle.dec_uart.specs.laws.Machine.{Kept, Idle, Inside, Low, point_gives, point_next}

-- the levels of a line in samples
abbrev pub levels_of : ℕ → List ℕ → List Bool
levels_of rx samples = map (λ sample. is_high sample rx) samples

-- whether the line is high in the sample before; it isn't where there is none
abbrev pub was_high : ℕ → Option ℕ → Bool
was_high rx None = false
was_high rx (Some before) = is_high before rx

module _ (c : Shape) where
  -- what is kept behind one more level at place q, and what that gives
  abbrev pub level_next : Kept → ℕ → Bool → Bool → Kept
  level_next Idle q before now = if before && not now then Inside q [] else Idle
  level_next (Inside f levels) q before now =
      if nat_lt q (f + c.point (length levels)) then Inside f levels else point_next c f levels now
  level_next (Low f) q before now = if now then Idle else Low f

  abbrev pub level_gives : Kept → ℕ → Bool → List Out
  level_gives Idle q now = []
  level_gives (Inside f levels) q now =
      if nat_lt q (f + c.point (length levels)) then [] else point_gives c f levels q now
  level_gives (Low f) q now = if now then c.rise f q else []

  -- what levels give, the first of which stands at place q
  abbrev pub levels_give : Kept → ℕ → Bool → List Bool → List Out
  levels_give h q before [] = []
  levels_give h q before (now ∷ later) =
      level_gives h q now ++ levels_give (level_next h q before now) (q + 1) now later
