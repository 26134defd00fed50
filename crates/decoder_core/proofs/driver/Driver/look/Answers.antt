use Rattle.std.proofs.Common.{refl, [], min, slice_index, ◌≡◌, ◌∙◌, ◌++◌, ◌+◌, ◌-◌, ◌^◌, ◌≤◌, sym, ap, subst, arith, List, ℕ, take, drop, map, length, replicate}
use Rattle.std.proofs.lemmas.List.{append-nil, length-map, length-replicate, take-take}
use Rattle.la_base.specs.declared.wires.Out.{Out}
use Rattle.la_base.specs.Samples.{samples}
use Rattle.wait_cond.specs.Waiting.{Waits, wait_from, consumed_by}
use Rattle.decoder_core.specs.Inputs.{Item, Sample, counted_samples}
use Rattle.decoder_core.specs.Driving.{Drives}
use Rattle.decoder_core.specs.Promises.{StopsIn}
use Rattle.decoder_core.proofs.Counting.{parts_of_run}
use Rattle.decoder_core.proofs.Driven.{through, passed_over, before_stop, awake, outs_now, part_counts, seen_parts, stop_seen, counted_front, list_len, spent}
use Rattle.decoder_core.proofs.driver.Driver.look.Goals as goal

-- no sample counts any more
pub returns-then-before-ge-MOST_SAMPLES-clause-step : goal.returns-then-before-ge-MOST_SAMPLES-clause-step
returns-then-before-ge-MOST_SAMPLES-clause-step g c =
    let m = g.L.LogicMachine in
    let s = c.args.self.now in
    let front = map Sample (samples c.args.run) in
    let goes = λ (input : List Item) (d : Drives m.stands m.alts s.machine s.waiter input).
    through g.L.Configured.setup m.outs m.stands m.alts g.met.L.LogicMachine.quiet s.machine s.waiter input d s.waiter [] front
    (spent g.L.Configured.setup m.outs m.stands m.alts g.met.L.LogicMachine.quiet s.machine s.waiter input d c.args.run (omega (arith, c.consumed-before.ensures.consumed)))
    (subst (λ (l : List ℕ). Waits s.waiter l) (sym (append-nil (counted_samples input))) d.waits) refl refl in
    record {
      front = front;
      split = sym (append-nil front);
      some = λ some. some;
      more = tt;
      consumes = λ input d. (goes input d).0;
      gives = λ input d. (goes input d).1 ∙ sym (append-nil (m.outs (g.L.Configured.setup s.machine) (counted_samples input))) ∙ ap (λ (l : List Out). m.outs (g.L.Configured.setup s.machine) (counted_samples input) ++ l) (sym c.requires);
    }

pub returns-then-before-ge-MOST_SAMPLES-clause-stops : goal.returns-then-before-ge-MOST_SAMPLES-clause-stops
returns-then-before-ge-MOST_SAMPLES-clause-stops g c =
    let m = g.L.LogicMachine in
    let s = c.args.self.now in
    let step = returns-then-before-ge-MOST_SAMPLES-clause-step g c in
    record {
      front = step.front;
      split = step.split;
      none = λ input earlier last d is. passed_over g.L.Configured.setup m.outs m.stands m.alts g.met.L.LogicMachine.quiet s.machine s.waiter input d s.waiter step.front earlier last (step.consumes input d) refl is;
      stop = λ some. absurd (omega (arith, some));
    }

pub returns-in-Through-clause-step : goal.returns-in-Through-clause-step
returns-in-Through-clause-step g c =
    let m = g.L.LogicMachine in
    let s = c.args.self.now in
    let run = c.args.run in
    let part = c.part_of.result in
    let front = map Sample (samples run) in
    let len : part.len ≡ min run.len (2 ^ 60 - consumed_by s.waiter) = c.part_of.ensures.len ∙ ap (λ (n : ℕ). min run.len (2 ^ 60 - n)) c.consumed-before.ensures.consumed in
    let goes = λ (input : List Item) (d : Drives m.stands m.alts s.machine s.waiter input).
    through g.L.Configured.setup m.outs m.stands m.alts g.met.L.LogicMachine.quiet s.machine s.waiter input d c.scan.new.self (samples part) front
    (part_counts g.L.Configured.setup m.outs m.stands m.alts g.met.L.LogicMachine.quiet s.machine s.waiter input d run part c.part_of.ensures.value len)
    (c.in-Through.ensures.scanned (counted_samples input) d.waits).0 c.in-Through.ensures.counts.from c.scan.ensures.alts in
    record {
      front = front;
      split = sym (append-nil front);
      some = λ some. some;
      more = tt;
      consumes = λ input d. (goes input d).0;
      gives = λ input d. (goes input d).1 ∙ sym (append-nil (m.outs (g.L.Configured.setup s.machine) (counted_samples input))) ∙ ap (λ (l : List Out). m.outs (g.L.Configured.setup s.machine) (counted_samples input) ++ l) (sym c.requires);
    }

pub returns-in-Through-clause-stops : goal.returns-in-Through-clause-stops
returns-in-Through-clause-stops g c =
    let m = g.L.LogicMachine in
    let s = c.args.self.now in
    let step = returns-in-Through-clause-step g c in
    record {
      front = step.front;
      split = step.split;
      none = λ input earlier last d is. passed_over g.L.Configured.setup m.outs m.stands m.alts g.met.L.LogicMachine.quiet s.machine s.waiter input d c.scan.new.self step.front earlier last (step.consumes input d) c.in-Through.ensures.counts.from is;
      stop = λ some. absurd (omega (arith, some));
    }

pub returns-in-Met-clause-step : goal.returns-in-Met-clause-step
returns-in-Met-clause-step g c =
    let m = g.L.LogicMachine in
    let s = c.args.self.now in
    let run = c.args.run in
    let part = c.part_of.result in
    let at = c.in-Met.at in
    let counts = c.in-Met.ensures.counts in
    let used = at + 1 - c.consumed-before.result in
    let front = map Sample (replicate used run.value) in
    let before = c.consumed-before.ensures.consumed in
    let used_fits : used ≤ part.len = omega (arith, counts.behind, counts.within, before) in
    let part_fits : part.len ≤ 2 ^ 60 - consumed_by s.waiter = omega (arith, c.part_of.ensures.len, before) in
    let run_fits : used ≤ run.len = omega (arith, used_fits, c.part_of.ensures.len) in
    let seen = λ (input : List Item). take (wait_from s.waiter) (counted_samples input) in
    let more = λ (input : List Item). drop (wait_from s.waiter) (counted_samples input) ++ samples part in
    let place = λ (input : List Item) (d : Drives m.stands m.alts s.machine s.waiter input).
    let e : at + 1 ≡ length (counted_samples input) + used = omega (arith, counts.behind, before, list_len g.L.Configured.setup m.outs m.stands m.alts g.met.L.LogicMachine.quiet s.machine s.waiter input d) in
    counted_front g.L.Configured.setup m.outs m.stands m.alts g.met.L.LogicMachine.quiet s.machine s.waiter input d part used at run.value e used_fits c.part_of.ensures.value part_fits in
    let parts = λ (input : List Item) (d : Drives m.stands m.alts s.machine s.waiter input).
    seen_parts g.L.Configured.setup m.outs m.stands m.alts g.met.L.LogicMachine.quiet s.machine s.waiter input d (samples part) in
    let stops = λ (input : List Item) (d : Drives m.stands m.alts s.machine s.waiter input).
    let scanned = c.in-Met.ensures.scanned (counted_samples input) d.waits in
    let is : StopsIn (m.alts s.machine) (seen input) (more input) at c.in-Met.value c.in-Met.met = record {
      stop = stop_seen g.L.Configured.setup m.outs m.stands m.alts g.met.L.LogicMachine.quiet s.machine s.waiter input d (samples part) at c.in-Met.met scanned.0;
      value_is = scanned.1 ∙ ap (λ (l : List ℕ). slice_index l at) (sym (parts input d));
    } in
    is in
    record {
      front = front;
      split = parts_of_run run used run_fits ∙ ap (λ (l : List Item). front ++ l) (sym c.behind.ensures.rest);
      some = λ some. omega (arith, length-map (replicate used run.value) Sample, length-replicate used run.value, counts.behind, before);
      more = c.behind.ensures.more;
      consumes = λ input d.
          let whole = counted_samples input ++ samples part in
          let scanned = c.in-Met.ensures.scanned (counted_samples input) d.waits in
          let cut = ap (λ (l : List ℕ). take (at + 1) l) (place input d) ∙ take-take (at + 1) (at + 1) whole (omega arith) ∙ ap (λ (l : List ℕ). take (at + 1) l) (sym (parts input d)) in
          let from = c.wait_on.ensures.from ∙ counts.from in
          record {
            waits = subst (λ (l : List ℕ). Waits c.wait_on.new.waiter l) (sym (place input d)) (c.wait_on.ensures.waits (take (at + 1) whole) scanned.3);
            machine_stands = subst (λ (n : ℕ). m.stands c.resume-anew.new.self (take n (counted_samples (input ++ front)))) (sym from)
                (subst (λ (l : List ℕ). m.stands c.resume-anew.new.self l) (sym cut) (c.resume-anew.ensures.stands (seen input) (more input) d.machine_stands (stops input d)));
            cond = c.wait_on.ensures.alts (λ same. c.scan.ensures.alts ∙ d.cond ∙ sym (c.resume-anew.ensures.waits same));
          };
      gives = λ input d.
          let loud = c.resume-anew.ensures.loud (seen input) (more input) d.machine_stands (stops input d) in
          ap (λ (l : List ℕ). m.outs (g.L.Configured.setup s.machine) l) (place input d ∙ ap (λ (l : List ℕ). take (at + 1) l) (sym (parts input d)))
          ∙ loud.2
          ∙ ap (λ (l : List Out). m.outs (g.L.Configured.setup s.machine) (seen input) ++ l) (ap (λ (l : List Out). l ++ loud.0) (sym c.requires) ∙ sym loud.1)
          ∙ ap (λ (l : List Out). l ++ c.resume-anew.new.into) (sym (outs_now g.L.Configured.setup m.outs m.stands m.alts g.met.L.LogicMachine.quiet s.machine s.waiter input d));
    }

pub returns-in-Met-clause-stops : goal.returns-in-Met-clause-stops
returns-in-Met-clause-stops g c =
    let m = g.L.LogicMachine in
    let s = c.args.self.now in
    let run = c.args.run in
    let part = c.part_of.result in
    let at = c.in-Met.at in
    let counts = c.in-Met.ensures.counts in
    let used = at + 1 - c.consumed-before.result in
    let before = c.consumed-before.ensures.consumed in
    let front = map Sample (replicate used run.value) in
    let used_fits : used ≤ part.len = omega (arith, counts.behind, counts.within, before) in
    let part_fits : part.len ≤ 2 ^ 60 - consumed_by s.waiter = omega (arith, c.part_of.ensures.len, before) in
    let run_fits : used ≤ run.len = omega (arith, used_fits, c.part_of.ensures.len) in
    let length_is : length front ≡ used = length-map (replicate used run.value) Sample ∙ length-replicate used run.value in
    let place = λ (input : List Item) (d : Drives m.stands m.alts s.machine s.waiter input).
    let e : at + 1 ≡ length (counted_samples input) + used = omega (arith, counts.behind, before, list_len g.L.Configured.setup m.outs m.stands m.alts g.met.L.LogicMachine.quiet s.machine s.waiter input d) in
    e in
    let ends = λ (input : List Item) (d : Drives m.stands m.alts s.machine s.waiter input).
    counted_front g.L.Configured.setup m.outs m.stands m.alts g.met.L.LogicMachine.quiet s.machine s.waiter input d part used at run.value (place input d) used_fits c.part_of.ensures.value part_fits in
    record {
      front = front;
      split = parts_of_run run used run_fits ∙ ap (λ (l : List Item). front ++ l) (sym c.behind.ensures.rest);
      none = λ input earlier last d is.
          before_stop g.L.Configured.setup m.outs m.stands m.alts g.met.L.LogicMachine.quiet s.machine s.waiter input d front (counted_samples input ++ samples part) at c.in-Met.met (ends input d)
          (c.in-Met.ensures.scanned (counted_samples input) d.waits).0 earlier last (place input d ∙ ap (λ (n : ℕ). length (counted_samples input) + n) (sym length_is)) is;
      stop = λ some input d.
          awake g.L.Configured.setup m.outs m.stands m.alts g.met.L.LogicMachine.quiet s.machine s.waiter input d front (counted_samples input ++ samples part) at c.in-Met.met (ends input d)
          (c.in-Met.ensures.scanned (counted_samples input) d.waits).0;
    }
