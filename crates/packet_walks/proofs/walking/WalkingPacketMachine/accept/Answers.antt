use Rattle.packet_walks.specs.laws.Walking.{kept_stands, kept_loud}
use Rattle.packet_walks.proofs.walking.WalkingPacketMachine.accept.Goals as goal

pub returns-clause-stands : goal.returns-clause-stands
returns-clause-stands g c =
    let w = g.W.WalkState in
    let m = c.args.self.now in
    λ seen stands counts. kept_stands (w.walk m.setup) (w.outs m.setup) (w.kept m.setup) (g.met.W.WalkState.pushed m.setup) m.held seen stands c.args.packet _ c.take.ensures.next

pub returns-clause-loud : goal.returns-clause-loud
returns-clause-loud g c =
    let w = g.W.WalkState in
    let m = c.args.self.now in
    λ seen stands counts. kept_loud (w.walk m.setup) (w.outs m.setup) (w.kept m.setup) (g.met.W.WalkState.pushed m.setup) m.held seen stands c.args.packet _ c.take.ensures.gives
