use Rattle.std.proofs.Common.{arith, refl, ◌∙◌, ◌++◌, ◌∷◌, ◌<◌, [], length, sym, ap, subst, List}
use Rattle.std.proofs.lemmas.List.{append-nil}
use Rattle.la_base.specs.declared.wires.Out.{Out}
use Rattle.decoder_core.specs.Inputs.{Item, Pack, items_of, counted_samples}
use Rattle.decoder_core.specs.Driving.{Drives}
use Rattle.decoder_core.proofs.Counting.{counted_packet, counted_nothing}
use Rattle.decoder_core.proofs.Driven.{passed, passed_over}
use Rattle.decoder_core.proofs.driver.DriverMachine.step.Goals as goal

pub returns-in-Packet-clause-step : goal.returns-in-Packet-clause-step
returns-in-Packet-clause-step g c =
    let m = g.L.LogicMachine in
    let s = c.args.self.now in
    let front : List Item = Pack c.in-Packet.field-0 ∷ [] in
    let goes = λ (input : List Item) (d : Drives m.stands m.alts s.machine s.waiter input). passed g.L.Configured.setup m.outs m.stands m.alts g.met.L.LogicMachine.quiet s.machine s.waiter input d front (counted_packet input c.in-Packet.field-0) in
    record {
      front = front;
      split = ap items_of c.in-Packet.is;
      some = λ some. subst (λ (l : List Item). 0 < length l) (ap items_of c.in-Packet.is) some;
      more = tt;
      consumes = λ input d. (goes input d).0;
      gives = λ input d. (goes input d).1 ∙ sym (append-nil (m.outs (g.L.Configured.setup s.machine) (counted_samples input))) ∙ ap (λ (l : List Out). m.outs (g.L.Configured.setup s.machine) (counted_samples input) ++ l) (sym c.requires);
    }

pub returns-in-End-clause-step : goal.returns-in-End-clause-step
returns-in-End-clause-step g c =
    let m = g.L.LogicMachine in
    let s = c.args.self.now in
    let front : List Item = [] in
    let goes = λ (input : List Item) (d : Drives m.stands m.alts s.machine s.waiter input). passed g.L.Configured.setup m.outs m.stands m.alts g.met.L.LogicMachine.quiet s.machine s.waiter input d front (counted_nothing input) in
    record {
      front = front;
      split = ap items_of c.in-End.is;
      some = λ some. subst (λ (l : List Item). 0 < length l) (ap items_of c.in-End.is) some;
      more = tt;
      consumes = λ input d. (goes input d).0;
      gives = λ input d. (goes input d).1 ∙ sym (append-nil (m.outs (g.L.Configured.setup s.machine) (counted_samples input))) ∙ ap (λ (l : List Out). m.outs (g.L.Configured.setup s.machine) (counted_samples input) ++ l) (sym c.requires);
    }

pub returns-in-From-clause-step : goal.returns-in-From-clause-step
returns-in-From-clause-step g c =
    let m = g.L.LogicMachine in
    let s = c.args.self.now in
    let front : List Item = [] in
    let goes = λ (input : List Item) (d : Drives m.stands m.alts s.machine s.waiter input). passed g.L.Configured.setup m.outs m.stands m.alts g.met.L.LogicMachine.quiet s.machine s.waiter input d front (counted_nothing input) in
    record {
      front = front;
      split = ap items_of c.in-From.is;
      some = λ some. subst (λ (l : List Item). 0 < length l) (ap items_of c.in-From.is) some;
      more = tt;
      consumes = λ input d. (goes input d).0;
      gives = λ input d. (goes input d).1 ∙ sym (append-nil (m.outs (g.L.Configured.setup s.machine) (counted_samples input))) ∙ ap (λ (l : List Out). m.outs (g.L.Configured.setup s.machine) (counted_samples input) ++ l) (sym c.requires);
    }

pub returns-in-Packet-clause-stops : goal.returns-in-Packet-clause-stops
returns-in-Packet-clause-stops g c =
    let m = g.L.LogicMachine in
    let s = c.args.self.now in
    let step = returns-in-Packet-clause-step g c in
    record {
      front = step.front;
      split = step.split;
      none = λ input earlier last d is. passed_over g.L.Configured.setup m.outs m.stands m.alts g.met.L.LogicMachine.quiet s.machine s.waiter input d s.waiter step.front earlier last (step.consumes input d) refl is;
      stop = λ some. absurd (omega (arith, some));
    }

pub returns-in-End-clause-stops : goal.returns-in-End-clause-stops
returns-in-End-clause-stops g c =
    let m = g.L.LogicMachine in
    let s = c.args.self.now in
    let step = returns-in-End-clause-step g c in
    record {
      front = step.front;
      split = step.split;
      none = λ input earlier last d is. passed_over g.L.Configured.setup m.outs m.stands m.alts g.met.L.LogicMachine.quiet s.machine s.waiter input d s.waiter step.front earlier last (step.consumes input d) refl is;
      stop = λ some. absurd (omega (arith, some));
    }

pub returns-in-From-clause-stops : goal.returns-in-From-clause-stops
returns-in-From-clause-stops g c =
    let m = g.L.LogicMachine in
    let s = c.args.self.now in
    let step = returns-in-From-clause-step g c in
    record {
      front = step.front;
      split = step.split;
      none = λ input earlier last d is. passed_over g.L.Configured.setup m.outs m.stands m.alts g.met.L.LogicMachine.quiet s.machine s.waiter input d s.waiter step.front earlier last (step.consumes input d) refl is;
      stop = λ some. absurd (omega (arith, some));
    }
