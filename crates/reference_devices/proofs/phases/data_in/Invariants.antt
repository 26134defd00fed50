use Rattle.std.proofs.Common.{◌≡◌, take}
use Rattle.i2c_phases.specs.Phases.{data_in}
use Rattle.reference_devices.proofs.phases.data_in.Given as goal

abbrev pub invariant-loop-packet : goal.invariant-loop-packet
invariant-loop-packet l = l.bytes.items ≡ data_in (take l.packet-index l.list)
