use Rattle.std.proofs.Common.{◌≡◌, take}
use Rattle.dec_onewire.specs.Net.{bits_in}
use Rattle.reference_devices.proofs.onewire_net.bits_in.Given as goal

abbrev pub invariant-loop-packet : goal.invariant-loop-packet
invariant-loop-packet l = l.bits.items ≡ bits_in (take l.packet-index l.packets)
