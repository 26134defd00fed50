use Rattle.packet_walks.specs.laws.TransactionLaws.{kept_floor, kept_near}
use Rattle.packet_walks.proofs.transacting.TransactingPacketMachine.floor.Goals as goal

pub returns-clause-floor : goal.returns-clause-floor
returns-clause-floor g c =
    let o = g.O.OpenTransaction in
    let laws = g.met.O.OpenTransaction in
    λ seen stands from. kept_floor o.device o.steps o.wire o.fits o.kept laws.sound laws.pushed c.args.self.now.held seen stands c.args.from c.near.result from c.near.ensures

pub returns-clause-near : goal.returns-clause-near
returns-clause-near g c =
    let o = g.O.OpenTransaction in
    let laws = g.met.O.OpenTransaction in
    λ seen stands from. kept_near o.device o.steps o.wire o.fits o.kept laws.sound laws.pushed c.args.self.now.held seen stands c.args.from c.near.result from c.near.ensures
