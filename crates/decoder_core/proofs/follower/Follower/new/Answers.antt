use Rattle.decoder_core.proofs.Followed.{starts}
use Rattle.decoder_core.proofs.follower.Follower.new.Goals as goal

pub returns-clause-stands : goal.returns-clause-stands
returns-clause-stands g c = let m = g.D.PacketMachine in starts m.stands (m.wire (g.D.Configured.setup c.args.machine)) (m.outs (g.D.Configured.setup c.args.machine)) c.args.machine 0 c.requires
