use Rattle.std.proofs.Common.{◌≡◌, ◌++◌, map, take}
use Rattle.std.specs.List.{flat_map}
use Rattle.i2c_phases.specs.Phases.{meaning, phase_in}
use Rattle.reference_devices.specs.Meant.{meant}
use Rattle.reference_devices.proofs.phases.add_parts.Given as goal

abbrev pub invariant-loop-part : goal.invariant-loop-part
invariant-loop-part l = map meant l.meanings.items ≡ map meant l.initial.meanings.items ++ map (meaning l.device l.resets) (flat_map phase_in (map (λ part. part.items) (take l.part-index l.parts)))
