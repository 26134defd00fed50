use Rattle.std.proofs.Common.{◌≡◌, map, take}
use Rattle.dec_modbus.specs.Modbus.{byte_in}
use Rattle.reference_devices.proofs.modbus.bytes_of.Given as goal

abbrev pub invariant-loop-frame : goal.invariant-loop-frame
invariant-loop-frame l = l.bytes.items ≡ map byte_in (take l.frame-index l.row)
