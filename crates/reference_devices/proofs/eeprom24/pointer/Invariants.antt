use Rattle.std.proofs.Common.{◌≡◌, map, take}
use Rattle.dev_eeprom24.specs.Eeprom.{pointer}
use Rattle.reference_devices.specs.Meant.{meant}
use Rattle.reference_devices.proofs.eeprom24.pointer.Given as goal

abbrev pub invariant-loop-meaning : goal.invariant-loop-meaning
invariant-loop-meaning l = l.at ≡ pointer l.chip (map meant (take l.meaning-index l.before))
