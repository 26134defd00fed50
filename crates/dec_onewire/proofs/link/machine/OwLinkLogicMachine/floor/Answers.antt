use Rattle.sample_walks.specs.laws.EventDecoders.{floor_of, near_of, packets_of}
use Rattle.dec_onewire.specs.laws.LinkLaws.{link_decoder}
use Rattle.dec_onewire.proofs.link.machine.OwLinkLogicMachine.floor.Goals as goal

pub returns-clause-floor : goal.returns-clause-floor
returns-clause-floor c = λ seen more stands none next.
    let m = c.args.self.now in floor_of (link_decoder m.line.opts m.line.rate) m.held seen more (stands.0, stands.1) none _ _ next c.near.ensures

pub returns-clause-packets : goal.returns-clause-packets
returns-clause-packets c = λ seen more stands none next.
    let m = c.args.self.now in packets_of (link_decoder m.line.opts m.line.rate) m.held seen more (stands.0, stands.1) none _ _ next c.near.ensures

pub returns-clause-near : goal.returns-clause-near
returns-clause-near c = λ seen more stands none next.
    let m = c.args.self.now in near_of (link_decoder m.line.opts m.line.rate) m.held seen more (stands.0, stands.1) none _ _ next c.near.ensures
