-- Samples, and the runs that stand for them.
use Rattle.std.specs.Prelude.{ℕ, zero, suc, Bool, List, replicate, ◌==◌, slice_index, Option, Some}
use Rattle.std.specs.Prelude.{None}
use Rattle.std.specs.Int.{bit_at}
use Rattle.la_base.specs.declared.samples.Run.{Run}

-- the samples that a run stands for; not opened by itself, since a run may be very long
unfoldable pub samples : Run → List ℕ
samples run = replicate run.len run.value

-- whether a line is high in a sample
abbrev pub is_high : ℕ → ℕ → Bool
is_high value line = bit_at value line == 1

-- the sample before sample q, if there is one
abbrev pub before_of : List ℕ → ℕ → Option ℕ
before_of list zero = None
before_of list (suc q) = Some (slice_index list q)
