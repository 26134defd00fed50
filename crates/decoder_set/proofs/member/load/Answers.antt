use Rattle.decoder_set.proofs.Held.{held_loaded}
use Rattle.decoder_set.proofs.member.load.Goals as goal

pub returns : goal.returns
returns g c =
    let laws = g.met.M.Member in
    let did = c.load.ensures in
    held_loaded laws.member laws.saved c.args.machine.now c.load.new.self c.load.result c.args.saved.now.items did.setup did.loaded did.none did.same did.stands
