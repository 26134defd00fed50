-- The last place at which a note may be given, of all bounds.
use Rattle.std.specs.Prelude.{ℕ, ◌≡◌, ◌≢◌, ◌≤◌, ◌<◌, ◌⊎◌, ◌-◌, ◌^◌, List, []}
use Rattle.std.specs.Prelude.{◌∷◌, ◌++◌, length, slice_get, Option, Some, None}
use Rattle.annot_merge.specs.declared.limit.Lead.{Lead}
use Rattle.annot_merge.specs.declared.limit.Limit.{Limit}

-- a limit is at the bound of an instance or before it
abbrev pub IsBelow : Limit → Option ℕ → ℕ → Type 0
IsBelow limit None instance = Unit {0}
IsBelow limit (Some floor) instance =
    (limit.start ≤ floor) × (floor ≡ limit.start → limit.instance ≤ instance)

-- it is the least of the bounds; where there is none, it is behind all places
pub record IsLimit (bounds : List (Option ℕ)) (limit : Limit) : Type 0 where
  pub within : (instance : ℕ) (bound : Option ℕ) → slice_get bounds instance ≡ Some bound
      → IsBelow limit bound instance
  pub reached : (slice_get bounds limit.instance ≡ Some (Some limit.start))
      ⊎ ((limit.start ≡ 2 ^ 64 - 1) × (limit.instance ≡ 2 ^ 32 - 1))

-- the limit of some bounds and one more
abbrev pub IsNearer : Limit → ℕ → Option ℕ → Limit → Type 0
IsNearer limit instance bound result =
    (bounds : List (Option ℕ)) → length bounds ≡ instance → IsLimit bounds limit
    → IsLimit (bounds ++ bound ∷ []) result

-- a limit is behind all places
abbrev pub IsNone : Limit → Type 0
IsNone limit = (limit.start ≡ 2 ^ 64 - 1) × (limit.instance ≡ 2 ^ 32 - 1)

-- an instance that starts here stands before a limit
abbrev pub IsBefore : ℕ → ℕ → Limit → Type 0
IsBefore start instance limit =
    (start ≤ limit.start) × (start ≡ limit.start → instance < limit.instance)

-- no bound but that of one instance stands before a limit
abbrev pub NoOther : List (Option ℕ) → ℕ → Limit → Type 0
NoOther bounds instance limit =
    (other : ℕ) (bound : Option ℕ) → other ≢ instance → slice_get bounds other ≡ Some bound
    → IsBelow limit bound other

-- the least of the bounds but for that of one instance; where there is none, it is behind all places
pub record IsNext (bounds : List (Option ℕ)) (but : ℕ) (limit : Limit) : Type 0 where
  pub below : NoOther bounds but limit
  pub reached : ((limit.instance ≢ but) × (slice_get bounds limit.instance ≡ Some (Some limit.start)))
      ⊎ IsNone limit

-- the least of the bounds, and the least of the others
pub record Leads (bounds : List (Option ℕ)) (lead : Lead) : Type 0 where
  pub least_is : IsLimit bounds lead.least
  pub others_are : IsNext bounds lead.least.instance lead.others

-- a limit is as it was, or the bound of this instance
abbrev pub IsOneOf : Limit → Limit → ℕ → Option ℕ → Type 0
IsOneOf result limit instance bound =
    (result ≡ limit) ⊎ ((result.instance ≡ instance) × (bound ≡ Some result.start))
