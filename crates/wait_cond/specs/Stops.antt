-- Where waits stop, on the whole list of samples.
use Rattle.std.specs.Prelude.{ℕ, ◌≡◌, ◌≢◌, ◌+◌, ◌≤◌, ◌<◌, List, [], ◌∷◌, length, slice_get}
use Rattle.std.specs.Prelude.{slice_index, Option, Some}
use Rattle.std.specs.Int.{bit_at}
use Rattle.la_base.specs.Samples.{before_of}
use Rattle.wait_cond.specs.Meets.{MeetsAt}
use Rattle.wait_cond.specs.declared.alt.Alt.{Alt}

-- the set of the alternatives that are met: bit i is alternative i
pub record MetSet (alts : List Alt) (before : Option ℕ) (now from q met : ℕ) : Type 0 where
  pub each : (i : ℕ) → bit_at met i ≡ 1
      → (alt : Alt) × (slice_get alts i ≡ Some alt) × MeetsAt alt before now from q
  pub all : (i : ℕ) (alt : Alt) → slice_get alts i ≡ Some alt → MeetsAt alt before now from q
      → bit_at met i ≡ 1

-- the set of the alternatives that are met at sample q of a list, in the wait from sample `from` on
abbrev pub MetIn : List ℕ → List Alt → ℕ → ℕ → ℕ → Type 0
MetIn samples alts from q met = MetSet alts (before_of samples q) (slice_index samples q) from q met

-- no sample from `from` on and before `end` meets an alternative
abbrev pub NoneMet : List ℕ → List Alt → ℕ → ℕ → Type 0
NoneMet samples alts from end = (q : ℕ) → from ≤ q → q < end → MetIn samples alts from q 0

-- the wait from sample `from` on stops at q: the first sample that meets an alternative, with all
-- that it meets
pub record IsStop (samples : List ℕ) (alts : List Alt) (from q met : ℕ) : Type 0 where
  pub after : from ≤ q
  pub within : q < length samples
  pub set : MetIn samples alts from q met
  pub some : met ≢ 0
  pub first : NoneMet samples alts from q

-- a stop: its place and its set of alternatives
abbrev pub Stop : Type 0
Stop = ℕ × ℕ

-- each of these is the stop of the wait that begins behind the one before, the first of the wait
-- from `from` on; the next wait begins at `to`
abbrev pub Chain : List ℕ → List Alt → ℕ → List Stop → ℕ → Type 0
Chain samples alts from [] to = from ≡ to
Chain samples alts from (stop ∷ stops) to =
    IsStop samples alts from stop.0 stop.1 × Chain samples alts (stop.0 + 1) stops to

-- these are all stops of the samples from `from` on: the wait behind the last of them has none
pub record StopsFrom (samples : List ℕ) (alts : List Alt) (from : ℕ)
    (stops : List Stop) : Type 0 where
  pub to : ℕ
  pub chain : Chain samples alts from stops to
  pub none : NoneMet samples alts to (length samples)

-- these are all stops of the samples
abbrev pub AreStops : List ℕ → List Alt → List Stop → Type 0
AreStops samples alts stops = StopsFrom samples alts 0 stops
