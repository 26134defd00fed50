-- Conditions that an edge alone can meet, or only while lines are high, or not for some time.
use Rattle.std.specs.Prelude.{ℕ, ◌≡◌, ◌≢◌, ◌≤◌, ◌<◌, List, slice_get, Option, Some, bit_or}
use Rattle.wait_cond.specs.Meets.{AllIn}
use Rattle.wait_cond.specs.Stops.{MetSet}
use Rattle.wait_cond.specs.declared.alt.Alt.{Alt}

-- the lines of which an alternative asks an edge
abbrev pub edge_lines : Alt → ℕ
edge_lines alt = bit_or (bit_or alt.rise alt.fall) alt.edge

-- each alternative asks an edge of a line, and these are such lines of all of them
abbrev pub Watches : ℕ → List Alt → Type 0
Watches lines alts =
    (i : ℕ) (alt : Alt) → slice_get alts i ≡ Some alt
    → (edge_lines alt ≢ 0) × AllIn (edge_lines alt) lines

-- the lines that an alternative asks to be high, also those that rise
abbrev pub high_lines : Alt → ℕ
high_lines alt = bit_or alt.high alt.rise

-- each alternative asks these lines to be high
abbrev pub AskHigh : ℕ → List Alt → Type 0
AskHigh lines alts =
    (i : ℕ) (alt : Alt) → slice_get alts i ≡ Some alt → AllIn lines (high_lines alt)

-- each alternative skips at least so many samples; and more than so many
abbrev pub SkipAtLeast : ℕ → List Alt → Type 0
SkipAtLeast least alts = (i : ℕ) (alt : Alt) → slice_get alts i ≡ Some alt → least ≤ alt.skip

abbrev pub SkipMore : ℕ → List Alt → Type 0
SkipMore samples alts = (i : ℕ) (alt : Alt) → slice_get alts i ≡ Some alt → samples < alt.skip

-- no alternative is met at a sample, however far it lies behind the last stop
abbrev pub NeverMet : List Alt → Option ℕ → ℕ → Type 0
NeverMet alts before now = (from q : ℕ) → MetSet alts before now from q 0
