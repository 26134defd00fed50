use Rattle.decoder_core.specs.laws.OneDriver.{one_state}
use Rattle.decoder_core.proofs.driver.one_input_makes_one_driver.Goals as goal

pub returns : goal.returns
returns g c =
    let m = g.L.LogicMachine in
    let laws = g.met.L.LogicMachine in
    let one = c.args.one.now in
    let other = c.args.other.now in
    λ input same d e. one_state g.L.Configured.setup m.stands m.alts laws.one_machine laws.one_stop one.machine other.machine one.waiter other.waiter input same d e
