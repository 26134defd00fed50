use Rattle.std.proofs.Common.{◌∙◌, ◌++◌, ◌≤◌, ap, sym, subst, length, List}
use Rattle.std.proofs.lemmas.List.{append-nil}
use Rattle.la_base.specs.declared.wires.Out.{Out}
use Rattle.sample_walks.specs.laws.EventDecoders.{loud_of, holds_of}
use Rattle.dec_spi.proofs.TakenLaws.{clock_gives_is, clock_next_is, clock_later, left_silent, left_held}
use Rattle.dec_spi.specs.declared.held.Held.{Held}
use Rattle.dec_spi.specs.laws.Machine.{event_of, spi_alts, gives, next, is_fresh}
use Rattle.dec_spi.specs.laws.MachineLaws.{waits_on}
use Rattle.dec_spi.specs.laws.SpiLaws.{spi_decoder}
use Rattle.dec_spi.proofs.machine.SpiLogicMachine.resume.Goals as goal

pub returns-then-takes_clock-clause-stands : goal.returns-then-takes_clock-clause-stands
returns-then-takes_clock-clause-stands c = λ seen more stands stop.
    let s = c.args.self.now in
    holds_of (spi_decoder s.bus.opts s.bus.bits_some s.bus.bits_few) s.held seen more stands c.args.at c.args.value c.args._met stop _
    (c.takes_clock.ensures.next ∙ clock_next_is c.args.value c.low_half.result c.low_half.ensures s.bus.opts s.lines s.lines_are c.args.at s.held c.if-takes_clock.ensures.answers)

pub returns-then-takes_clock-clause-loud : goal.returns-then-takes_clock-clause-loud
returns-then-takes_clock-clause-loud c = λ seen more stands stop.
    let s = c.args.self.now in
    loud_of (spi_decoder s.bus.opts s.bus.bits_some s.bus.bits_few) s.held seen more stands c.args.at c.args.value c.args._met stop c.args.into.now _
    (c.takes_clock.ensures.gives ∙ ap (λ (l : List Out). c.args.into.now ++ l) (clock_gives_is c.args.value c.low_half.result c.low_half.ensures s.bus.opts s.lines s.lines_are c.args.at s.held c.if-takes_clock.ensures.answers))

pub returns-then-takes_clock-clause-waits : goal.returns-then-takes_clock-clause-waits
returns-then-takes_clock-clause-waits c = λ later.
    let s = c.args.self.now in
    ap (λ (h : Held). spi_alts s.bus.opts h)
    (c.takes_clock.ensures.next ∙ clock_next_is c.args.value c.low_half.result c.low_half.ensures s.bus.opts s.lines s.lines_are c.args.at s.held c.if-takes_clock.ensures.answers)
    ∙ waits_on s.bus.opts s.held (event_of s.bus.opts s.held c.args.at c.args.value) (clock_later s.lines s.held c.low_half.result c.if-takes_clock.ensures.answers)

pub stop-self-requires : goal.stop-self-requires
stop-self-requires c =
    let s = c.args.self.now in
    let none = c.takes_clock.ensures.gives ∙ ap (λ (l : List Out). c.args.into.now ++ l) (left_silent s.bus.opts s.lines s.held c.args.at c.low_half.result c.if-takes_clock.ensures.answers) ∙ append-nil c.args.into.now in
    subst (λ (l : List Out). length l ≤ 16) (sym none) c.requires.room

pub returns-clause-stands : goal.returns-clause-stands
returns-clause-stands c = λ seen more stands stop.
    let s = c.args.self.now in
    holds_of (spi_decoder s.bus.opts s.bus.bits_some s.bus.bits_few) s.held seen more stands c.args.at c.args.value c.args._met stop _
    (c.stop-self.ensures.next ∙ ap (λ (h : Held). next s.bus.opts h (event_of s.bus.opts h c.args.at c.args.value))
    (c.takes_clock.ensures.next ∙ left_held s.bus.opts s.lines s.held c.args.at c.low_half.result c.if-takes_clock.ensures.answers))

pub returns-clause-loud : goal.returns-clause-loud
returns-clause-loud c = λ seen more stands stop.
    let s = c.args.self.now in
    let none = c.takes_clock.ensures.gives ∙ ap (λ (l : List Out). c.args.into.now ++ l) (left_silent s.bus.opts s.lines s.held c.args.at c.low_half.result c.if-takes_clock.ensures.answers) ∙ append-nil c.args.into.now in
    let left = c.takes_clock.ensures.next ∙ left_held s.bus.opts s.lines s.held c.args.at c.low_half.result c.if-takes_clock.ensures.answers in
    loud_of (spi_decoder s.bus.opts s.bus.bits_some s.bus.bits_few) s.held seen more stands c.args.at c.args.value c.args._met stop c.args.into.now _
    (c.stop-self.ensures.gives ∙ (λ i. none i ++ gives s.bus.opts (left i) (event_of s.bus.opts (left i) c.args.at c.args.value)))

pub returns-clause-waits : goal.returns-clause-waits
returns-clause-waits c = λ later.
    let s = c.args.self.now in
    let left = c.takes_clock.ensures.next ∙ left_held s.bus.opts s.lines s.held c.args.at c.low_half.result c.if-takes_clock.ensures.answers in
    ap (λ (h : Held). spi_alts s.bus.opts h)
    (c.stop-self.ensures.next ∙ ap (λ (h : Held). next s.bus.opts h (event_of s.bus.opts h c.args.at c.args.value)) left)
    ∙ waits_on s.bus.opts s.held (event_of s.bus.opts s.held c.args.at c.args.value) (sym (c.is_fresh-fresh.ensures ∙ ap is_fresh left) ∙ later)
