use Rattle.std.proofs.Common.{ℕ, ◌≤◌, subst}
use Rattle.std.proofs.Math.Nat.{le_refl}
use Rattle.la_base.specs.declared.wires.Wire.TheVariants.{I2c}
use Rattle.decoder_core.specs.Packets.{IsPacketFloor}
use Rattle.i2c_phases.specs.Phases.{phase_near}
use Rattle.i2c_phases.specs.Devices.{phased}
use Rattle.i2c_phases.specs.laws.DeviceLaws.{near_kept, phased_floor, phased_on}
use Rattle.i2c_phases.proofs.phased.PhasedPacketMachine.floor.Goals as goal

pub returns-clause-floor : goal.returns-clause-floor
returns-clause-floor g c =
    let m = g.D.I2cDevice in
    let s = c.args.self.now in
    let setup = g.D.Configured.setup s.device in
    let step = m.step setup in
    let device = m.bus_address setup in
    let resets = m.takes_reset setup in
    λ seen stands later. subst (λ (n : ℕ). IsPacketFloor I2c (phased device resets step) seen c.args.from n)
    (near_kept device resets s.kept seen c.args.from c.near.result stands.0 c.near.ensures)
    (phased_floor step (g.met.D.I2cDevice.by_byte s.device) device resets
    (phased_on step (g.met.D.I2cDevice.no_packets s.device) device resets) seen c.args.from later)

pub returns-clause-near : goal.returns-clause-near
returns-clause-near g c =
    let m = g.D.I2cDevice in
    let s = c.args.self.now in
    let setup = g.D.Configured.setup s.device in
    λ seen stands later. subst (λ (n : ℕ). phase_near seen c.args.from ≤ n) (near_kept (m.bus_address setup) (m.takes_reset setup) s.kept seen c.args.from c.near.result stands.0 c.near.ensures) (le_refl (phase_near seen c.args.from))
