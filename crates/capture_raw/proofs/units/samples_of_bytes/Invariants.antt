use Rattle.std.proofs.Common.{ℕ, ◌≡◌, ◌-◌, ◌<◌, ◌≤◌, ◌*◌, length, slice_index}
use Rattle.capture_raw.specs.Raw.{picked}
use Rattle.capture_raw.proofs.units.samples_of_bytes.Given as goal

abbrev pub invariant-loop-byte : goal.invariant-loop-byte
invariant-loop-byte l = record {
  within : l.byte ≤ 256;
  size : length l.table ≡ 256;
  so_far : (k : ℕ) → k < l.byte → slice_index l.table k ≡ picked l.pins (l.worth * k);
}

abbrev pub decreases-loop-byte : goal.decreases-loop-byte
decreases-loop-byte l = 256 - l.byte
