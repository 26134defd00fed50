-- What came on the link that a stage receives from.
use Rattle.std.specs.Prelude.{ℕ, zero, suc, ◌≤◌, ◌+◌, ◌*◌, ◌/◌, ◌%◌, ◌^◌, Bool, true, false}
use Rattle.std.specs.Prelude.{List, [], ◌∷◌, ◌++◌, length, nat_eq, if◌then◌else◌}
use Rattle.std.proofs.Common.{arith}
use Rattle.la_base.specs.declared.samples.Run.{Run}
use Rattle.la_base.specs.declared.wires.Feed.{Feed}
use Rattle.la_base.specs.declared.wires.Feed.TheVariants.{Run as RunFeed, End as EndFeed}
use Rattle.stage_ring.specs.Link.{Link, rx_link, received, rx_misses}
use Rattle.stage_run.specs.declared.input.HalfRun.{HalfRun}
use Rattle.stage_run.specs.declared.input.Input.{Input}
use Rattle.stage_run.specs.declared.input.Input.TheVariants.{Samples, Packets}

pub at_least_one : (n : ℕ) → 1 ≤ suc n
at_least_one n = omega arith

-- the upper half of the lines of a run
abbrev pub upper_of : Run → ℕ
upper_of run = run.value / 2 ^ 64

-- a run as a half run, where that was told
abbrev pub half_run_of : Run → HalfRun
half_run_of run = record { value = run.value % 2 ^ 64; len = run.len }

-- what tells such an upper half, or the end
abbrev pub telling : ℕ → HalfRun
telling upper = record { value = upper; len = 0 }

-- both halves of the lines
abbrev pub whole_value : ℕ → ℕ → ℕ
whole_value upper lower = upper * 2 ^ 64 + lower

-- the upper half of the lines that is told behind a half run of so many samples
abbrev pub upper_by : ℕ → ℕ → ℕ → ℕ
upper_by upper value zero = value
upper_by upper value (suc n) = upper

-- the same behind several
abbrev pub told_behind : ℕ → List HalfRun → ℕ
told_behind upper [] = upper
told_behind upper (s ∷ others) = told_behind (upper_by upper s.value s.len) others

-- what a half run means, where the upper half of the lines was told: a run of so many samples; with
-- none it is the end, where it tells the same, and else nothing by itself
abbrev pub feeds_by : ℕ → ℕ → ℕ → List Feed
feeds_by upper value zero = if nat_eq value upper then EndFeed ∷ [] else []
feeds_by upper value (suc n) = RunFeed (record {
  value = whole_value upper value;
  len = suc n;
  not_empty = at_least_one n;
}) ∷ []

-- what several mean
abbrev pub feeds_in : ℕ → List HalfRun → List Feed
feeds_in upper [] = []
feeds_in upper (s ∷ others) =
    feeds_by upper s.value s.len ++ feeds_in (upper_by upper s.value s.len) others

abbrev pub input_link : Input → Link
input_link (Samples rx) = rx_link rx
input_link (Packets rx) = rx_link rx

-- whether samples come
abbrev pub reads_samples : Input → Bool
reads_samples (Samples rx) = true
reads_samples (Packets rx) = false

-- what came
abbrev pub came : Input → List Feed
came (Samples rx) = feeds_in 0 (received rx)
came (Packets rx) = received rx

-- how many items were received
abbrev pub taken : Input → ℕ
taken (Samples rx) = length (received rx)
taken (Packets rx) = length (received rx)

-- the upper half of the lines that was told
abbrev pub told_on : Input → ℕ
told_on (Samples rx) = told_behind 0 (received rx)
told_on (Packets rx) = 0

-- how often nothing was there
abbrev pub input_misses : Input → ℕ
input_misses (Samples rx) = rx_misses rx
input_misses (Packets rx) = rx_misses rx
