use Rattle.std.proofs.Common.{◌≡◌, drop}
use Rattle.dec_modbus.specs.Modbus.{last_in}
use Rattle.reference_devices.proofs.modbus.last_in.Given as goal

abbrev pub invariant-loop-packet : goal.invariant-loop-packet
invariant-loop-packet l = last_in l.last (drop l.packet-index l.others) ≡ last_in l.fn.first l.others
