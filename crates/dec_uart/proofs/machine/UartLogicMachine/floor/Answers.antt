use Rattle.dec_uart.specs.laws.MachineLaws.{floor_is, packets_are, near_below}
use Rattle.dec_uart.proofs.machine.UartLogicMachine.floor.Goals as goal

pub returns-clause-floor : goal.returns-clause-floor
returns-clause-floor c = let m = c.args.self.now in
    λ seen more stands none next. floor_is m.line.opts m.line.rate m.line.in_range m.line.fast m.held seen more stands.0 stands.1 none _ _ next c.near.ensures

pub returns-clause-packets : goal.returns-clause-packets
returns-clause-packets c = let m = c.args.self.now in
    λ seen more stands none next. packets_are m.line.opts m.line.rate m.line.in_range m.line.fast m.held seen more stands.0 stands.1 none _ _ next c.near.ensures

pub returns-clause-near : goal.returns-clause-near
returns-clause-near c = let m = c.args.self.now in
    λ seen more stands none next. near_below m.line.opts m.line.rate m.line.in_range m.line.fast m.held seen more stands.0 stands.1 none _ _ next c.near.ensures
