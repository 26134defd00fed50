use Rattle.std.proofs.Common.{◌∙◌}
use Rattle.i2c_phases.specs.laws.DeviceLaws.{kept_nothing}
use Rattle.i2c_phases.proofs.phased.Phased.new.Goals as goal

pub returns-clause-stands : goal.returns-clause-stands
returns-clause-stands g c =
    let m = g.D.I2cDevice in
    let setup = g.D.Configured.setup c.args.device in
    (c.no_phase.ensures ∙ kept_nothing (m.bus_address setup) (m.takes_reset setup), c.requires)
