use Rattle.std.proofs.Common.{◌<◌, length, arith}
use Rattle.reference_devices.proofs.Rounds.{clock_round}
use Rattle.reference_devices.proofs.ds1307.register.Goals as goal

pub loop-meaning-preserved : goal.loop-meaning-preserved
loop-meaning-preserved c =
    let s = c.loop-meaning in
    let within : s.meaning-index < length c.args.before.now = omega arith in
    clock_round c.args.before.now s.meaning-index c.meaning-item.result within c.meaning-item.is s.at c.moved-at.result s.invariant c.moved-at.ensures
