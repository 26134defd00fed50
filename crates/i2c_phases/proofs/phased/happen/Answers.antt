use Rattle.std.proofs.Common.{sym, subst}
use Rattle.i2c_phases.specs.declared.tracker.Event.{Event}
use Rattle.i2c_phases.specs.Devices.{Happens}
use Rattle.i2c_phases.specs.laws.DeviceLaws.{happens_begin, happens_write, happens_read, happens_reset, happens_pass}
use Rattle.i2c_phases.proofs.phased.happen.Goals as goal

pub returns-in-Begins-clause-happens : goal.returns-in-Begins-clause-happens
returns-in-Begins-clause-happens g c =
    let m = g.D.I2cDevice in
    let d = c.args.device.now in
    let step = m.step (g.D.Configured.setup d) in
    subst (λ (e : Event). Happens (m.knows d) (m.knows c.begin.new.self) step e c.args.packet c.args.into.now) (sym c.in-Begins.is)
    (happens_begin step (g.met.D.I2cDevice.by_byte d) (m.knows d) (m.knows c.begin.new.self) c.args.packet c.args.into.now c.requires.empty c.begin.ensures.knows)

pub returns-in-WriteByte-clause-happens : goal.returns-in-WriteByte-clause-happens
returns-in-WriteByte-clause-happens g c =
    let m = g.D.I2cDevice in
    let d = c.args.device.now in
    let step = m.step (g.D.Configured.setup d) in
    subst (λ (e : Event). Happens (m.knows d) (m.knows c.write.new.self) step e c.args.packet c.write.new.into) (sym c.in-WriteByte.is)
    (happens_write step (g.met.D.I2cDevice.by_byte d) (m.knows d) (m.knows c.write.new.self) c.args.packet c.write.new.into c.write.ensures.takes)

pub returns-in-ReadByte-clause-happens : goal.returns-in-ReadByte-clause-happens
returns-in-ReadByte-clause-happens g c =
    let m = g.D.I2cDevice in
    let d = c.args.device.now in
    let step = m.step (g.D.Configured.setup d) in
    subst (λ (e : Event). Happens (m.knows d) (m.knows c.read.new.self) step e c.args.packet c.read.new.into) (sym c.in-ReadByte.is)
    (happens_read step (g.met.D.I2cDevice.by_byte d) (m.knows d) (m.knows c.read.new.self) c.args.packet c.read.new.into c.read.ensures.takes)

pub returns-in-Resets-clause-happens : goal.returns-in-Resets-clause-happens
returns-in-Resets-clause-happens g c =
    let m = g.D.I2cDevice in
    let d = c.args.device.now in
    let step = m.step (g.D.Configured.setup d) in
    subst (λ (e : Event). Happens (m.knows d) (m.knows c.reset.new.self) step e c.args.packet c.args.into.now) (sym c.in-Resets.is)
    (happens_reset step (g.met.D.I2cDevice.by_byte d) (m.knows d) (m.knows c.reset.new.self) c.args.packet c.args.into.now c.requires.empty c.reset.ensures.knows)

pub returns-in-Passes-clause-happens : goal.returns-in-Passes-clause-happens
returns-in-Passes-clause-happens g c =
    let m = g.D.I2cDevice in
    let d = c.args.device.now in
    let step = m.step (g.D.Configured.setup d) in
    subst (λ (e : Event). Happens (m.knows d) (m.knows d) step e c.args.packet c.args.into.now) (sym c.in-Passes.is)
    (happens_pass step (g.met.D.I2cDevice.by_byte d) (m.knows d) (m.knows d) c.args.packet c.args.into.now c.requires.empty (g.met.D.I2cDevice.opened d) (λ phases had. had))
