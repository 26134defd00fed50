-- A pointer that some phases set and others move, and what is kept of the last phase.
use Rattle.std.specs.Prelude.{ℕ, ◌+◌, Bool, true, false, List, [], ◌∷◌, Option, Some, None, map}
use Rattle.std.specs.Prelude.{drop, sum}
use Rattle.list_cuts.specs.LastWhere.{last_that, last_where}
use Rattle.i2c_phases.specs.Phases.{Meaning, Nothing, Writes, Reads, Reset}

-- a phase that sets a pointer of one byte: it writes that byte, or resets the device
abbrev pub points : Meaning → Bool
points Nothing = false
points (Writes []) = false
points (Writes (first ∷ bytes)) = true
points (Reads bytes) = false
points Reset = true

-- what the last phase that sets the pointer made it, 0 where there is none
abbrev pub set_by : (Meaning → ℕ) → Option Meaning → ℕ
set_by set_to None = 0
set_by set_to (Some phase) = set_to phase

abbrev pub pointer_set : (Meaning → Bool) → (Meaning → ℕ) → List Meaning → ℕ
pointer_set sets set_to before = set_by set_to (last_that sets before)

-- the phases behind a place, all where there is none
abbrev pub since : List Meaning → Option ℕ → List Meaning
since before None = before
since before (Some place) = drop (place + 1) before

-- the pointer behind some phases: what the last one that sets it made it, and as far on as those
-- behind it move it
abbrev pub pointer_behind : (Meaning → Bool) → (Meaning → ℕ) → (Meaning → ℕ) → List Meaning → ℕ
pointer_behind sets set_to moves before =
    pointer_set sets set_to before + sum (map moves (since before (last_where sets before)))

-- what is kept of the last phase, and where there is none
abbrev pub of_last : {X : Type 0} → (Meaning → X) → X → List Meaning → X
of_last kept none [] = none
of_last kept none (phase ∷ []) = kept phase
of_last kept none (phase ∷ next ∷ phases) = of_last kept none (next ∷ phases)
