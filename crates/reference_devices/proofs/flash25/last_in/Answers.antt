use Rattle.std.proofs.Common.{◌<◌, length, arith}
use Rattle.reference_devices.proofs.Rounds.{last_round}
use Rattle.reference_devices.proofs.flash25.last_in.Goals as goal

pub loop-word-preserved : goal.loop-word-preserved
loop-word-preserved c =
    let s = c.loop-word in
    let within : s.word-index < length c.args.words.now = omega arith in
    last_round c.args.command c.args.words.now s.word-index c.word-item.result within c.word-item.is
