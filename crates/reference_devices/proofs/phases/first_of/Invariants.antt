use Rattle.std.proofs.Common.{◌≡◌, drop}
use Rattle.i2c_phases.specs.Phases.{first_of}
use Rattle.reference_devices.specs.Meant.{wants}
use Rattle.reference_devices.proofs.phases.first_of.Given as goal

abbrev pub invariant-loop-place : goal.invariant-loop-place
invariant-loop-place l = first_of (wants l.wanted) (drop l.place l.list) ≡ first_of (wants l.wanted) l.list
