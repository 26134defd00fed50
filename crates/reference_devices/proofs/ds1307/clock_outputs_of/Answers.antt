use Rattle.std.proofs.Common.{◌∙◌, ◌++◌, map, ap}
use Rattle.list_cuts.specs.Along.{along}
use Rattle.dev_ds1307.specs.Clock.{clock_outs, step}
use Rattle.reference_devices.specs.Meant.{meant}
use Rattle.reference_devices.proofs.ds1307.clock_outputs_of.Goals as goal

pub returns : goal.returns
unfolding clock_outs
returns c =
    c.in_ok-add_phases.ensures ∙ (λ i. c.new-outs.ensures.items i ++ along step (map meant (c.deref.ensures.value i)))
    ∙ ap (along step) c.in_ok-meanings.ensures
