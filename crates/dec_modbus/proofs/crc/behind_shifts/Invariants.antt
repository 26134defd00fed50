use Rattle.std.proofs.Common.{◌≡◌, ◌-◌}
use Rattle.dec_modbus.specs.Modbus.{shifts}
use Rattle.dec_modbus.proofs.crc.behind_shifts.Given as goal

abbrev pub invariant-loop : goal.invariant-loop
invariant-loop l = shifts (8 - l.counter) l.register ≡ shifts 8 l.fn.crc
