use Rattle.std.proofs.Common.{◌≡◌, map, take}
use Rattle.dev_ds1307.specs.Clock.{register}
use Rattle.reference_devices.specs.Meant.{meant}
use Rattle.reference_devices.proofs.ds1307.register.Given as goal

abbrev pub invariant-loop-meaning : goal.invariant-loop-meaning
invariant-loop-meaning l = l.at ≡ register (map meant (take l.meaning-index l.before))
