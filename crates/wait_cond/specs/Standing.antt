-- When an alternative is met while a value stands.
use Rattle.std.specs.Prelude.{ℕ, ◌≡◌, ◌≤◌, ◌<◌, List, slice_get, Some}
use Rattle.wait_cond.specs.Meets.{MeetsAt}
use Rattle.wait_cond.specs.declared.alt.Alt.{Alt}

-- an alternative is met at sample q, where it and the one before have this value
abbrev pub MetStanding : List Alt → ℕ → ℕ → ℕ → Type 0
MetStanding alts value from q =
    (i : ℕ) × (alt : Alt) × (slice_get alts i ≡ Some alt) × MeetsAt alt (Some value) value from q

-- the first sample from `begin` on and before `end` at which one is met, or `end`
pub record FirstStanding (alts : List Alt) (value from begin end first : ℕ) : Type 0 where
  pub after : begin ≤ first
  pub within : first ≤ end
  pub none : (q : ℕ) → begin ≤ q → q < first → ¬ MetStanding alts value from q
  pub some : first < end → MetStanding alts value from first
