use Rattle.std.proofs.Common.{◌≡◌, ◌++◌, take}
use Rattle.std.specs.List.{flat_map, enumerate_from}
use Rattle.dev_eeprom24.specs.Eeprom.{read_outs}
use Rattle.reference_devices.proofs.eeprom24.add_read.Given as goal

abbrev pub invariant-loop-place : goal.invariant-loop-place
invariant-loop-place l = l.outs.items ≡ l.initial.outs.items ++ flat_map (read_outs l.fn.chip l.from) (enumerate_from 0 (take l.place l.bytes))
