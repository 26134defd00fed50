use Rattle.std.proofs.Common.{◌≡◌, drop}
use Rattle.dec_modbus.specs.Modbus.{crc16, crc_from}
use Rattle.reference_devices.proofs.modbus.crc16.Given as goal

abbrev pub invariant-loop-byte : goal.invariant-loop-byte
invariant-loop-byte l = crc_from l.crc (drop l.byte-index l.bytes) ≡ crc16 l.bytes
