use Rattle.std.proofs.Common.{◌≡◌, take}
use Rattle.dev_ds18b20.specs.Probe.{bytes_in}
use Rattle.reference_devices.proofs.ds18b20.bytes_in.Given as goal

abbrev pub invariant-loop-packet : goal.invariant-loop-packet
invariant-loop-packet l = l.bytes.items ≡ bytes_in (take l.packet-index l.packets)
