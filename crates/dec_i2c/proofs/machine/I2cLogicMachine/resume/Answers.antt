use Rattle.std.proofs.Common.{◌∙◌, ◌++◌, ap, sym, Bool, List}
use Rattle.std.proofs.lemmas.List.{append-nil}
use Rattle.la_base.specs.declared.wires.Out.{Out}
use Rattle.sample_walks.specs.laws.EventDecoders.{loud_of, holds_of}
use Rattle.dec_i2c.specs.laws.I2cLaws.{i2c_decoder}
use Rattle.dec_i2c.specs.laws.Machine.{event_met, gives, next}
use Rattle.dec_i2c.proofs.TakenLaws.{bit_silent, bit_kept, bit_left, level_is}
use Rattle.dec_i2c.proofs.machine.I2cLogicMachine.resume.Goals as goal

pub returns-then-takes_bit-clause-stands : goal.returns-then-takes_bit-clause-stands
returns-then-takes_bit-clause-stands c = λ seen more stands stop.
    let m = c.args.self.now in
    let level = level_is c.reads-level.result c.args.value m.sda_mask m.bus.sda m.mask_is c.reads-level.ensures in
    holds_of (i2c_decoder m.bus.scl m.bus.sda) m.held seen more stands c.args.at c.args.value c.args.met stop _
    (c.takes_bit.ensures.keeps
    ∙ bit_kept m.held c.args.met c.args.at c.reads-level.result c.if-takes_bit.ensures.answers
    ∙ ap (λ (b : Bool). next m.held (event_met c.args.met c.args.at b)) level)

pub returns-then-takes_bit-clause-loud : goal.returns-then-takes_bit-clause-loud
returns-then-takes_bit-clause-loud c = λ seen more stands stop.
    let m = c.args.self.now in
    let level = level_is c.reads-level.result c.args.value m.sda_mask m.bus.sda m.mask_is c.reads-level.ensures in
    loud_of (i2c_decoder m.bus.scl m.bus.sda) m.held seen more stands c.args.at c.args.value c.args.met stop c.args.into.now _
    (sym (append-nil c.args.into.now)
    ∙ ap (λ (l : List Out). c.args.into.now ++ l)
    (bit_silent m.held c.args.met c.args.at c.reads-level.result c.if-takes_bit.ensures.answers
    ∙ ap (λ (b : Bool). gives m.held (event_met c.args.met c.args.at b)) level))

pub returns-clause-stands : goal.returns-clause-stands
returns-clause-stands c = λ seen more stands stop.
    let m = c.args.self.now in
    let level = level_is c.reads-level.result c.args.value m.sda_mask m.bus.sda m.mask_is c.reads-level.ensures in
    let left = c.takes_bit.ensures.keeps ∙ bit_left m.held c.args.met c.args.at c.reads-level.result c.if-takes_bit.ensures.answers in
    holds_of (i2c_decoder m.bus.scl m.bus.sda) m.held seen more stands c.args.at c.args.value c.args.met stop _
    (c.step.ensures ∙ (λ i. next (left i) (event_met c.args.met c.args.at (level i))))

pub returns-clause-loud : goal.returns-clause-loud
returns-clause-loud c = λ seen more stands stop.
    let m = c.args.self.now in
    let level = level_is c.reads-level.result c.args.value m.sda_mask m.bus.sda m.mask_is c.reads-level.ensures in
    let left = c.takes_bit.ensures.keeps ∙ bit_left m.held c.args.met c.args.at c.reads-level.result c.if-takes_bit.ensures.answers in
    loud_of (i2c_decoder m.bus.scl m.bus.sda) m.held seen more stands c.args.at c.args.value c.args.met stop c.args.into.now _
    (c.give.ensures ∙ (λ i. c.args.into.now ++ gives (left i) (event_met c.args.met c.args.at (level i))))
