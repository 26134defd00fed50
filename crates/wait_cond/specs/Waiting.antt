-- What a waiter stands for.
use Rattle.std.specs.Prelude.{ℕ, ◌≡◌, ◌≢◌, ◌+◌, ◌-◌, ◌≤◌, ◌<◌, List, [], ◌++◌, length, take}
use Rattle.std.specs.Prelude.{slice_index, Option, Some, None, IfSome}
use Rattle.la_base.specs.declared.samples.Run.{Run}
use Rattle.la_base.specs.Samples.{samples}
use Rattle.wait_cond.specs.Stops.{NoneMet, MetIn, IsStop}
use Rattle.wait_cond.specs.declared.alt.Alt.{Alt}
use Rattle.wait_cond.specs.declared.scan.Waiter.{Waiter}
use Rattle.wait_cond.specs.declared.scan.Scan.{Scan}
use Rattle.wait_cond.specs.declared.scan.Scan.TheVariants.{Met, Through}

-- the alternatives that are waited for
abbrev pub alts_of : Waiter → List Alt
alts_of w = w.cond

-- the sample that the wait began with: the one behind the last stop, or the first of all
abbrev pub wait_from : Waiter → ℕ
wait_from w = w.from

-- how many samples were consumed
abbrev pub consumed_by : Waiter → ℕ
consumed_by w = w.consumed

-- the last sample that was consumed, or 0
abbrev pub last_of : Waiter → ℕ
last_of w = w.last

-- these samples were consumed, and none of those behind the last stop met the condition
pub record WaitsAt (alts : List Alt) (consumed from last : ℕ) (list : List ℕ) : Type 0 where
  pub count : length list ≡ consumed
  pub stop : from ≤ consumed
  pub last_is : last ≡ slice_index list (consumed - 1)
  pub none : NoneMet list alts from consumed

-- a waiter stands for a list of samples
abbrev pub Waits : Waiter → List ℕ → Type 0
Waits w list = WaitsAt w.cond w.consumed w.from w.last list

-- the sample behind a last stop; the first of all where there was none
abbrev pub behind_stop : Option ℕ → ℕ
behind_stop None = 0
behind_stop (Some at) = at + 1

-- as many samples, the last of which is this one if there is one, and none of those behind the last
-- stop met the condition: what a waiter is made for
pub record MadeOf (alts : List Alt) (consumed from last : ℕ) (list : List ℕ) : Type 0 where
  pub count : length list ≡ consumed
  pub last_is : 0 < consumed → last ≡ slice_index list (consumed - 1)
  pub none : NoneMet list alts from consumed

-- the first sample of those behind the first n that meets a condition, counted from there, and the
-- set that it meets
abbrev pub Found : List Alt → ℕ → List ℕ → ℕ → ℕ → Option (ℕ × ℕ) → Type 0
Found alts from list n len None = NoneMet list alts from (n + len)
Found alts from list n len (Some (k, met)) =
    (k < len) × NoneMet list alts from (n + k) × MetIn list alts from (n + k) met × (met ≢ 0)

-- the same in a run behind all that a waiter stands for
abbrev pub FindsIn : Waiter → Run → Option (ℕ × ℕ) → Type 0
FindsIn w run answer =
    (list : List ℕ) → Waits w list
    → Found w.cond w.from (list ++ samples run) (length list) run.len answer

-- the samples of what is left of a run
abbrev pub rest_samples : Option Run → List ℕ
rest_samples None = []
rest_samples (Some run) = samples run

-- how many they are
abbrev pub rest_len : Option Run → ℕ
rest_len None = 0
rest_len (Some run) = run.len

-- what an answer means, where list is all that was consumed and the run
abbrev pub Scanned : Waiter → Waiter → List ℕ → Scan → Type 0
Scanned old new list Through = Waits new list × (new.from ≡ old.from)
Scanned old new list (Met at value met rest) =
    IsStop list old.cond old.from at met × (value ≡ slice_index list at)
    × (list ≡ take (at + 1) list ++ rest_samples rest) × Waits new (take (at + 1) list)
    × (new.from ≡ at + 1)

-- the answer to a stop, by numbers alone: it lies within the run, and what is left of the run
-- follows it
pub record StopCounts (old new : Waiter) (run : Run) (at value met : ℕ)
    (rest : Option Run) : Type 0 where
  pub behind : old.consumed ≤ at
  pub within : at < old.consumed + run.len
  pub some : met ≢ 0
  pub value_is : value ≡ run.value
  pub left : at + 1 + rest_len rest ≡ old.consumed + run.len
  pub same : IfSome rest (λ more. more.value ≡ run.value)
  pub consumed : new.consumed ≡ at + 1
  pub from : new.from ≡ at + 1
  pub last : new.last ≡ value

-- the answer that there is no stop, by numbers alone: the whole run was consumed
pub record ThroughCounts (old new : Waiter) (run : Run) : Type 0 where
  pub consumed : new.consumed ≡ old.consumed + run.len
  pub from : new.from ≡ old.from
  pub last : new.last ≡ run.value

-- what holds of every waiter, also of one that stands for no list
abbrev pub Counts : Waiter → Waiter → Run → Scan → Type 0
Counts old new run Through = ThroughCounts old new run
Counts old new run (Met at value met rest) = StopCounts old new run at value met rest

-- two waiters hold the same numbers
pub record SameNumbers (one other : Waiter) : Type 0 where
  pub consumed : one.consumed ≡ other.consumed
  pub from : one.from ≡ other.from
  pub last : one.last ≡ other.last

-- waiters with equal alternatives and last stops that stand for one list are equal
abbrev pub OneWaiter : Type 0
OneWaiter =
    (one other : Waiter) (list : List ℕ) → alts_of one ≡ alts_of other
    → wait_from one ≡ wait_from other → Waits one list → Waits other list → one ≡ other

-- a waiter stands for every list of as many samples as it consumed that ends in its last sample and
-- has no stop behind its last one
abbrev pub EveryList : Type 0
EveryList =
    (waiter : Waiter) (list : List ℕ) → length list ≡ consumed_by waiter
    → last_of waiter ≡ slice_index list (consumed_by waiter - 1)
    → NoneMet list (alts_of waiter) (wait_from waiter) (consumed_by waiter) → Waits waiter list
