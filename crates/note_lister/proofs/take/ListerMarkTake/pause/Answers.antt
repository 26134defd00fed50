use Rattle.std.proofs.Common.{◌≡◌, ◌≢◌, ◌<◌, Option, inl, inr, refl, sym, subst, arith}
use Rattle.std.specs.Prelude.{IsSome}
use Rattle.std.proofs.lemmas.Bool.{cases_eq}
use Rattle.stack_words.specs.Stacks.{stack_meaning}
use Rattle.note_lister.specs.Taking.{Writes, first_sink, sink_of}
use Rattle.note_lister.specs.declared.stop.ListStop.{ListStop}
use Rattle.note_lister.proofs.TakingLemmas.{all_front, none_is, pause_fails, paused_again}
use Rattle.note_lister.proofs.take.ListerMarkTake.pause.Goals as goal

pub returns-then-is_some-clause-took : goal.returns-then-is_some-clause-took
returns-then-is_some-clause-took g c = λ marks took.
    let k = g.K.Sink in
    let old = c.args.self.now in
    let accepted = stack_meaning old.stack.now in
    let saw = g.W.Watch.saw old.watch in
    let s = c.stop_again.ensures in
    let some : IsSome old.cause = sym c.if-is_some.ensures in
    let f = s.first in
    let a = s.again in
    let rises : c.stop_again.new.stops ≢ 0 = λ is. elim (cases_eq old.stops 0) [ inl none ↦ (let one : c.stop_again.new.stops ≡ 1 = f none in omega (arith, is, one)) | inr more ↦ (let two : 1 < c.stop_again.new.stops = a more in omega (arith, is, two)) ] in
    record {
      same_sink = took.same_sink;
      goes_on_is = took.goes_on_is;
      writes = paused_again accepted old.merge old.cause old.stops c.stop_again.new.stops saw (k.written (first_sink old)) (k.written (sink_of old)) (k.faults (first_sink old)) (k.faults (sink_of old)) marks some rises took.writes;
      at_pause = λ is. absurd (rises is);
      at_stop = λ is. all_front accepted accepted.binary refl old.merge saw (k.written (first_sink old)) (k.written (sink_of old)) marks (took.at_pause (elim (cases_eq old.stops 0) [ inl none ↦ none | inr more ↦ (let two : 1 < c.stop_again.new.stops = a more in absurd (omega (arith, is, two))) ]));
      holds_none = took.holds_none;
    }

pub returns-in-Err-clause-took : goal.returns-in-Err-clause-took
returns-in-Err-clause-took g c = λ marks took.
    let k = g.K.Sink in
    let old = c.args.self.now in
    let e = c.in-Err.ensures in
    let accepted = stack_meaning old.stack.now in
    let saw = g.W.Watch.saw old.watch in
    let never = none_is old.cause (sym c.if-is_some.ensures) in
    let both = pause_fails accepted old.merge old.cause old.stops saw saw (k.written (first_sink old)) (k.written (sink_of old)) (k.written c.hand_on.new.self) (k.faults (first_sink old)) (k.faults (sink_of old)) (k.faults c.hand_on.new.self) marks never (λ seen had. had) e.bytes took.writes e.cause.later e.cause.failed in
    record {
      same_sink = took.same_sink;
      goes_on_is = g.met.K.Sink.goes_on_further _ _ _ took.goes_on_is e.goes_on;
      writes = subst (λ (cause : Option ListStop). Writes accepted old.merge cause c.stop.new.stops saw (k.written (first_sink old)) (k.written c.hand_on.new.self) (k.faults (first_sink old)) (k.faults c.hand_on.new.self) marks) (sym c.stop.ensures.cause) both.0;
      at_pause = λ is. absurd (omega (arith, is, c.stop.ensures.stops));
      at_stop = λ _. all_front accepted accepted.binary refl old.merge saw (k.written (first_sink old)) (k.written c.hand_on.new.self) marks both.1;
      holds_none = took.holds_none;
    }
