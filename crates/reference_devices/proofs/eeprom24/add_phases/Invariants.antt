use Rattle.std.proofs.Common.{◌≡◌, ◌++◌, map, take}
use Rattle.list_cuts.specs.Along.{along}
use Rattle.dev_eeprom24.specs.Eeprom.{step}
use Rattle.reference_devices.specs.Meant.{meant}
use Rattle.reference_devices.proofs.eeprom24.add_phases.Given as goal

abbrev pub invariant-loop-place : goal.invariant-loop-place
invariant-loop-place l = l.outs.items ≡ l.initial.outs.items ++ along (step l.chip) (map meant (take l.place l.meanings))
