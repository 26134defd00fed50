use Rattle.std.proofs.Common.{◌≡◌, ◌++◌, length}
use Rattle.dev_lm75.specs.Thermometer.{pairs}
use Rattle.reference_devices.proofs.lm75.add_pairs.Given as goal

abbrev pub invariant-loop-rest : goal.invariant-loop-rest
invariant-loop-rest l = l.outs.items ++ pairs l.class l.rest ≡ l.initial.outs.items ++ pairs l.class l.bytes

abbrev pub decreases-loop-rest : goal.decreases-loop-rest
decreases-loop-rest l = length l.rest
