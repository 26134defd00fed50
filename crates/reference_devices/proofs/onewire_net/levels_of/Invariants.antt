use Rattle.std.proofs.Common.{◌≡◌, map, take}
use Rattle.dec_onewire.specs.Net.{bit_in}
use Rattle.reference_devices.proofs.onewire_net.levels_of.Given as goal

abbrev pub invariant-loop-bit : goal.invariant-loop-bit
invariant-loop-bit l = l.levels.items ≡ map bit_in (take l.bit-index l.bits)
