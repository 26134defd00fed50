use Rattle.packet_walks.specs.laws.TransactionLaws.{kept_stands, kept_loud}
use Rattle.packet_walks.proofs.transacting.TransactingPacketMachine.accept.Goals as goal

pub returns-clause-stands : goal.returns-clause-stands
returns-clause-stands g c =
    let o = g.O.OpenTransaction in
    let laws = g.met.O.OpenTransaction in
    λ seen stands counts. kept_stands o.device o.steps o.wire o.fits o.kept laws.sound laws.pushed c.args.self.now.held seen stands c.args.packet c.take.new.self.held c.take.ensures.next

pub returns-clause-loud : goal.returns-clause-loud
returns-clause-loud g c =
    let o = g.O.OpenTransaction in
    let laws = g.met.O.OpenTransaction in
    λ seen stands counts. kept_loud o.device o.steps o.wire o.fits o.kept laws.sound laws.pushed c.args.self.now.held seen stands c.args.packet c.take.new.into c.take.ensures.gives
