use Rattle.std.proofs.Common.{rules}
use Rattle.decoder_core.specs.laws.KeepLaws.{follows_as, none_follows}
use Rattle.decoder_core.proofs.follower_keep.FollowerKeep.load.Goals as goal

pub returns-else-not-get-clause-stands : goal.returns-else-not-get-clause-stands
returns-else-not-get-clause-stands g c = λ done other input same s d.
    let p = g.D.PacketMachine in
    follows_as g.D.Configured.setup p.stands p.wire c.as_slice.result.now c.args.saved.now.items c.as_slice.ensures.value c.in-Some.rest.now c.in-Some.from
    c.in-Some.ensures c.get.new.self (c.get.ensures.only (search (rules, c.if-not-get.false))) other.machine other.from input same s d

pub returns-in-None-clause-none : goal.returns-in-None-clause-none
returns-in-None-clause-none g c = λ done other same s.
    none_follows c.as_slice.result.now c.args.saved.now.items c.as_slice.ensures.value other.machine other.from s c.in-None.ensures
