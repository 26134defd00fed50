use Rattle.decoder_set.proofs.Held.{held_saved}
use Rattle.decoder_set.proofs.member.save.Goals as goal

pub returns : goal.returns
returns g c =
    let laws = g.met.M.Member in
    held_saved laws.member laws.saved c.args.machine.now c.save.result.items c.save.ensures
