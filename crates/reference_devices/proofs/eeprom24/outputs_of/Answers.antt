use Rattle.std.proofs.Common.{◌∙◌, ◌++◌, map, ap}
use Rattle.list_cuts.specs.Along.{along}
use Rattle.dev_eeprom24.specs.Eeprom.{eeprom_outs, step}
use Rattle.reference_devices.specs.Meant.{meant}
use Rattle.reference_devices.proofs.eeprom24.outputs_of.Goals as goal

pub returns : goal.returns
unfolding eeprom_outs
returns c =
    c.in_ok-add_phases.ensures ∙ (λ i. c.new-outs.ensures.items i ++ along (step c.args.chip) (map meant (c.deref.ensures.value i)))
    ∙ ap (along (step c.args.chip)) c.in_ok-meanings.ensures
