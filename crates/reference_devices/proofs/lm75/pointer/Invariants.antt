use Rattle.std.proofs.Common.{◌≡◌, map, take}
use Rattle.dev_lm75.specs.Thermometer.{pointer}
use Rattle.reference_devices.specs.Meant.{meant}
use Rattle.reference_devices.proofs.lm75.pointer.Given as goal

abbrev pub invariant-loop-meaning : goal.invariant-loop-meaning
invariant-loop-meaning l = l.at ≡ pointer (map meant (take l.meaning-index l.before))
