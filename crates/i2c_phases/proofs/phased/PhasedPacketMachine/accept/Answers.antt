use Rattle.std.proofs.Common.{[], ◌∷◌, ◌++◌, sym, ◌∙◌, subst}
use Rattle.i2c_phases.specs.declared.tracker.Event.{Event}
use Rattle.i2c_phases.specs.laws.Tracking.{track_next}
use Rattle.i2c_phases.specs.Devices.{Happens, StandsFor}
use Rattle.i2c_phases.specs.laws.DeviceLaws.{stands_more, loud_more}
use Rattle.i2c_phases.proofs.phased.PhasedPacketMachine.accept.Goals as goal

pub returns-clause-stands : goal.returns-clause-stands
returns-clause-stands g c =
    let m = g.D.I2cDevice in
    let s = c.args.self.now in
    let p = c.args.packet in
    let setup = g.D.Configured.setup s.device in
    let step = m.step setup in
    let new = c.happen.new.device in
    let into = c.happen.new.into in
    let happens = subst (λ (e : Event). Happens (m.knows s.device) (m.knows new) step e p into) c.event-event.ensures c.happen.ensures.happens in
    let kept = c.next-kept.ensures ∙ (λ i. track_next (c.address-address.ensures i) (c.resets-resets.ensures i) s.kept p) in
    λ seen stands counts. subst (λ (t : g.row.D-Setup.Denot). StandsFor (m.knows new) (m.bus_address t) (m.takes_reset t) c.next-kept.result (seen ++ p ∷ [])) (sym c.happen.ensures.setup)
    (stands_more (m.knows s.device) (m.knows new) step (m.bus_address setup) (m.takes_reset setup) s.kept p into happens seen stands c.next-kept.result kept)

pub returns-clause-loud : goal.returns-clause-loud
returns-clause-loud g c =
    let m = g.D.I2cDevice in
    let s = c.args.self.now in
    let p = c.args.packet in
    let setup = g.D.Configured.setup s.device in
    let step = m.step setup in
    let new = c.happen.new.device in
    let into = c.happen.new.into in
    let happens = subst (λ (e : Event). Happens (m.knows s.device) (m.knows new) step e p into) c.event-event.ensures c.happen.ensures.happens in
    λ seen stands counts. loud_more (m.knows s.device) (m.knows new) step (m.bus_address setup) (m.takes_reset setup) s.kept p into happens seen stands
