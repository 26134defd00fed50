use Rattle.std.proofs.Common.{Bool, List, ◌∙◌, ◌++◌, ap, sym}
use Rattle.std.proofs.lemmas.List.{append-nil}
use Rattle.la_base.specs.declared.wires.Out.{Out}
use Rattle.dec_uart.specs.laws.Machine.{stop_outs, stop_held}
use Rattle.dec_uart.specs.laws.MachineLaws.{loud_is, stands_there}
use Rattle.dec_uart.proofs.PointLaws.{point_kept, point_left, point_silent}
use Rattle.dec_uart.proofs.machine.UartLogicMachine.resume.Goals as goal

pub returns-then-takes_point-clause-stands : goal.returns-then-takes_point-clause-stands
returns-then-takes_point-clause-stands c = let m = c.args.self.now in
    λ seen more stands stop. stands_there m.line.opts m.line.rate m.line.in_range m.line.fast m.held seen more stands.0 stands.1 _ _ _ stop _
    (c.takes_point.ensures.keeps
    ∙ point_kept m.line.opts c.args.at c.pin-level.result m.last m.last_is m.held c.if-takes_point.ensures.answers
    ∙ ap (λ (b : Bool). stop_held m.line.opts m.held c.args.at b) c.pin-level.ensures)

pub returns-then-takes_point-clause-loud : goal.returns-then-takes_point-clause-loud
returns-then-takes_point-clause-loud c = let m = c.args.self.now in
    λ seen more stands stop. loud_is m.line.opts m.line.rate m.line.in_range m.line.fast m.held seen more stands.0 stands.1 _ _ _ stop c.args.into.now _
    (sym (append-nil c.args.into.now)
    ∙ ap (λ (l : List Out). c.args.into.now ++ l) (sym (point_silent m.line.opts c.args.at c.pin-level.result m.last m.last_is m.line.rate m.held c.if-takes_point.ensures.answers))
    ∙ ap (λ (b : Bool). c.args.into.now ++ stop_outs m.line.opts m.line.rate m.held c.args.at b) c.pin-level.ensures)

pub returns-clause-stands : goal.returns-clause-stands
returns-clause-stands c = let m = c.args.self.now in
    let left = c.takes_point.ensures.keeps ∙ point_left m.line.opts c.args.at c.pin-level.result m.last m.last_is m.held c.if-takes_point.ensures.answers in
    λ seen more stands stop. stands_there m.line.opts m.line.rate m.line.in_range m.line.fast m.held seen more stands.0 stands.1 _ _ _ stop _
    (c.step-self.ensures ∙ (λ i. stop_held m.line.opts (left i) c.args.at (c.pin-level.ensures i)))

pub returns-clause-loud : goal.returns-clause-loud
returns-clause-loud c = let m = c.args.self.now in
    let left = c.takes_point.ensures.keeps ∙ point_left m.line.opts c.args.at c.pin-level.result m.last m.last_is m.held c.if-takes_point.ensures.answers in
    λ seen more stands stop. loud_is m.line.opts m.line.rate m.line.in_range m.line.fast m.held seen more stands.0 stands.1 _ _ _ stop c.args.into.now _
    (c.give.ensures ∙ (λ i. c.args.into.now ++ stop_outs m.line.opts m.line.rate (left i) c.args.at (c.pin-level.ensures i)))
