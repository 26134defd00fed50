use Rattle.std.proofs.Common.{◌≡◌, ◌++◌, map, take}
use Rattle.list_cuts.specs.Along.{along}
use Rattle.dev_ds1307.specs.Clock.{step}
use Rattle.reference_devices.specs.Meant.{meant}
use Rattle.reference_devices.proofs.ds1307.add_phases.Given as goal

abbrev pub invariant-loop-place : goal.invariant-loop-place
invariant-loop-place l = l.outs.items ≡ l.initial.outs.items ++ along (step) (map meant (take l.place l.meanings))
