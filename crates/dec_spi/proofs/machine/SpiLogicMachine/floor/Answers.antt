use Rattle.sample_walks.specs.laws.EventDecoders.{floor_of, near_of, packets_of}
use Rattle.dec_spi.specs.laws.SpiLaws.{spi_decoder}
use Rattle.dec_spi.proofs.machine.SpiLogicMachine.floor.Goals as goal

pub returns-clause-floor : goal.returns-clause-floor
returns-clause-floor c = λ seen more stands none next.
    let s = c.args.self.now in floor_of (spi_decoder s.bus.opts s.bus.bits_some s.bus.bits_few) s.held seen more stands none _ _ next c.near.ensures

pub returns-clause-packets : goal.returns-clause-packets
returns-clause-packets c = λ seen more stands none next.
    let s = c.args.self.now in packets_of (spi_decoder s.bus.opts s.bus.bits_some s.bus.bits_few) s.held seen more stands none _ _ next c.near.ensures

pub returns-clause-near : goal.returns-clause-near
returns-clause-near c = λ seen more stands none next.
    let s = c.args.self.now in near_of (spi_decoder s.bus.opts s.bus.bits_some s.bus.bits_few) s.held seen more stands none _ _ next c.near.ensures
