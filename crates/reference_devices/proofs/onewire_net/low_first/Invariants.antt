use Rattle.std.proofs.Common.{◌≡◌, ◌≤◌, drop, length}
use Rattle.list_cuts.specs.Bits.{low_first}
use Rattle.reference_devices.proofs.onewire_net.low_first.Given as goal

abbrev pub invariant-loop-place : goal.invariant-loop-place
invariant-loop-place l = record {
  told : l.number ≡ low_first (drop l.place l.bits);
  within : l.place ≤ length l.bits;
}

abbrev pub decreases-loop-place : goal.decreases-loop-place
decreases-loop-place l = l.place
