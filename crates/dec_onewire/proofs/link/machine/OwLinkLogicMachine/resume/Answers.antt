use Rattle.std.proofs.Common.{◌∙◌, ◌++◌}
use Rattle.sample_walks.specs.laws.EventDecoders.{loud_of, holds_of}
use Rattle.dec_onewire.specs.Link.{To}
use Rattle.dec_onewire.specs.laws.LinkLaws.{link_decoder}
use Rattle.dec_onewire.specs.laws.LinkMachine.{gives, next}
use Rattle.dec_onewire.proofs.link.machine.OwLinkLogicMachine.resume.Goals as goal

pub returns-clause-stands : goal.returns-clause-stands
returns-clause-stands c = λ seen more stands stop.
    let m = c.args.self.now in
    let new = holds_of (link_decoder m.line.opts m.line.rate) m.held seen more (stands.0, stands.1) c.args.at c.args.value c.args._met stop _
    (c.next-self.ensures ∙ (λ i. next (stands.2 i) m.held (To c.args.at (c.pin-level.ensures i)))) in
    (new.0, new.1, stands.2)

pub returns-clause-loud : goal.returns-clause-loud
returns-clause-loud c = λ seen more stands stop.
    let m = c.args.self.now in
    loud_of (link_decoder m.line.opts m.line.rate) m.held seen more (stands.0, stands.1) c.args.at c.args.value c.args._met stop c.args.into.now _
    (c.give.ensures ∙ (λ i. c.args.into.now ++ gives (stands.2 i) m.held (To c.args.at (c.pin-level.ensures i))))
