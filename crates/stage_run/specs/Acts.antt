-- What acts say of what was given and taken, and of links that had no room or nothing to take.
use Rattle.std.specs.Prelude.{ℕ, ◌≡◌, ◌<◌, ◌≤◌, ◌⊎◌, ◌-◌, ◌^◌, nat_lt, if◌then◌else◌, Bool, true}
use Rattle.std.specs.Prelude.{false}
use Rattle.stage_run.specs.declared.turn.Act.{Act}
use Rattle.stage_run.specs.declared.turn.Progress.{Progress}
use Rattle.stage_run.specs.declared.turn.Act.TheVariants.{Worked, Passed, Short, Missed, Ended}

-- there were more misses; or so many that a count of them stands at the last value of its type
abbrev pub More : ℕ → ℕ → Type 0
More old new = (old < new) ⊎ ((2 ^ 64 - 1 ≤ old) × (2 ^ 64 - 1 ≤ new))

-- how many things were given or taken before and after an act, and how many misses there were
abbrev pub Acts : Act → ℕ → ℕ → ℕ → ℕ → Type 0
Acts Worked old new missed misses = (new ≡ old) × (misses ≡ missed)
Acts Passed old new missed misses = (old < new) × (misses ≡ missed)
Acts Short old new missed misses = (old < new) × More missed misses
Acts Missed old new missed misses = (new ≡ old) × More missed misses
Acts Ended old new missed misses = (new ≡ old) × (misses ≡ missed)

-- how much was left to do before and after an act: work leaves less; where a link had no room or
-- nothing to take, and where nothing was left, it stays
abbrev pub Lessens : Act → ℕ → ℕ → Type 0
Lessens Worked old new = new < old
Lessens Passed old new = Unit {0}
Lessens Short old new = Unit {0}
Lessens Missed old new = new ≡ old
Lessens Ended old new = new ≡ old

-- the act that gave so many of those that were kept
abbrev pub act_by : ℕ → ℕ → Act
act_by given kept =
    if nat_lt given kept then (if nat_lt 0 given then Short else Missed)
    else (if nat_lt 0 given then Passed else Worked)

abbrev pub Passing : Bool → ℕ → ℕ → Type 0
Passing true old new = old < new
Passing false old new = new ≡ old

abbrev pub Missing : Bool → ℕ → ℕ → Type 0
Missing true old new = More old new
Missing false old new = new ≡ old

-- the same of several acts
abbrev pub Goings : Progress → ℕ → ℕ → ℕ → ℕ → Type 0
Goings made old new missed misses = Passing made.passed old new × Missing made.missed missed misses

abbrev pub Working : Bool → ℕ → ℕ → Type 0
Working true old new = new < old
Working false old new = new ≡ old

-- how much was left to do before and after several acts, where nothing was given or taken
abbrev pub Lessening : Progress → ℕ → ℕ → Type 0
Lessening made old new = made.passed ≡ false → Working made.worked old new
