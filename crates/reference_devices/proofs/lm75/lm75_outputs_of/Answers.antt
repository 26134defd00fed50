use Rattle.std.proofs.Common.{◌∙◌, ◌++◌, map, ap}
use Rattle.list_cuts.specs.Along.{along}
use Rattle.dev_lm75.specs.Thermometer.{lm75_outs, step}
use Rattle.reference_devices.specs.Meant.{meant}
use Rattle.reference_devices.proofs.lm75.lm75_outputs_of.Goals as goal

pub returns : goal.returns
unfolding lm75_outs
returns c =
    c.in_ok-add_phases.ensures ∙ (λ i. c.new-outs.ensures.items i ++ along step (map meant (c.deref.ensures.value i)))
    ∙ ap (along step) c.in_ok-meanings.ensures
