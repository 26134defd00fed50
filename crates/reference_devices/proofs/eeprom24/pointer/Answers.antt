use Rattle.std.proofs.Common.{◌<◌, length, arith}
use Rattle.reference_devices.proofs.Rounds.{pointer_round}
use Rattle.reference_devices.proofs.eeprom24.pointer.Goals as goal

pub loop-meaning-preserved : goal.loop-meaning-preserved
loop-meaning-preserved c =
    let s = c.loop-meaning in
    let within : s.meaning-index < length c.args.before.now = omega arith in
    pointer_round c.args.chip c.args.before.now s.meaning-index c.meaning-item.result within c.meaning-item.is s.at c.moved-at.result s.invariant c.moved-at.ensures
