use Rattle.std.proofs.Common.{◌≡◌, ◌-◌}
use Rattle.std.specs.Int.Bits.{bit_xor}
use Rattle.dec_modbus.specs.Modbus.{shifts}
use Rattle.reference_devices.proofs.modbus.with_byte.Given as goal

abbrev pub invariant-loop : goal.invariant-loop
invariant-loop l = shifts (8 - l.counter) l.register ≡ shifts 8 (bit_xor l.fn.crc l.fn.byte)
