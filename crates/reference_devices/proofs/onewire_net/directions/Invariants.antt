use Rattle.std.proofs.Common.{◌≡◌, ◌++◌, length}
use Rattle.dec_onewire.specs.Net.{directions}
use Rattle.reference_devices.proofs.onewire_net.directions.Given as goal

abbrev pub invariant-loop-rest : goal.invariant-loop-rest
invariant-loop-rest l = l.list.items ++ directions l.rest ≡ directions l.bits

abbrev pub decreases-loop-rest : goal.decreases-loop-rest
decreases-loop-rest l = length l.rest
