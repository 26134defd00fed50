use Rattle.std.proofs.Common.{◌∙◌, ap, sym}
use Rattle.i2c_phases.specs.declared.tracker.Track.{Track}
use Rattle.i2c_phases.proofs.kept.PhasedHold.get.Goals as goal

pub returns-in-Some-clause-only : goal.returns-in-Some-clause-only
returns-in-Some-clause-only g c = λ done other same put.
    let now = c.take.new.self in
    let theirs : Track × g.row.D-Held.Denot = (other.kept, g.D.HeldDevice.held other.device) in
    let both = c.in-Some.ensures.1 theirs put ∙ sym c.take.ensures.kept in
    let held = ap (λ (p : Track × g.row.D-Held.Denot). p.1) both in
    let device = g.met.D.HeldDevice.one_of_held other.device now.device same held in
    λ i. record { device = device i; kept = (both i).0 }

pub returns-in-None-clause-none : goal.returns-in-None-clause-none
returns-in-None-clause-none g c = λ done other same put.
    c.in-None.ensures (other.kept, g.D.HeldDevice.held other.device) put
