use Rattle.packet_walks.specs.laws.Walking.{kept_floor, kept_near}
use Rattle.packet_walks.proofs.walking.WalkingPacketMachine.floor.Goals as goal

pub returns-clause-floor : goal.returns-clause-floor
returns-clause-floor g c =
    let w = g.W.WalkState in
    let laws = g.met.W.WalkState in
    let m = c.args.self.now in
    λ seen stands from. kept_floor (w.walk m.setup) (w.outs m.setup) (w.kept m.setup) (laws.pushed m.setup) m.held seen stands c.args.from _ c.near.ensures w.wire w.gives w.fits (laws.sound m.setup) from

pub returns-clause-near : goal.returns-clause-near
returns-clause-near g c =
    let w = g.W.WalkState in
    let laws = g.met.W.WalkState in
    let m = c.args.self.now in
    λ seen stands from. kept_near (w.walk m.setup) (w.outs m.setup) (w.kept m.setup) (laws.pushed m.setup) m.held seen stands c.args.from _ c.near.ensures (w.near m.setup) (laws.near_is m.setup)
