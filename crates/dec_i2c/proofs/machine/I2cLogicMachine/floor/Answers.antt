use Rattle.sample_walks.specs.laws.EventDecoders.{floor_of, near_of, packets_of}
use Rattle.dec_i2c.specs.laws.I2cLaws.{i2c_decoder}
use Rattle.dec_i2c.proofs.machine.I2cLogicMachine.floor.Goals as goal

pub returns-clause-floor : goal.returns-clause-floor
returns-clause-floor c = λ seen more stands none next. let m = c.args.self.now in floor_of (i2c_decoder m.bus.scl m.bus.sda) m.held seen more stands none _ _ next c.near.ensures

pub returns-clause-packets : goal.returns-clause-packets
returns-clause-packets c = λ seen more stands none next. let m = c.args.self.now in packets_of (i2c_decoder m.bus.scl m.bus.sda) m.held seen more stands none _ _ next c.near.ensures

pub returns-clause-near : goal.returns-clause-near
returns-clause-near c = λ seen more stands none next. let m = c.args.self.now in near_of (i2c_decoder m.bus.scl m.bus.sda) m.held seen more stands none _ _ next c.near.ensures
