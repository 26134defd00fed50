use Rattle.std.proofs.Common.{arith}
use Rattle.stack_words.specs.Stacks.{stack_meaning}
use Rattle.note_lister.specs.Taking.{first_sink, sink_of}
use Rattle.note_lister.proofs.TakingLemmas.{data_fails, data_writes, never_stopped}
use Rattle.note_lister.proofs.lister.Lister.take_data.Goals as goal

pub returns-in-Ok-clause-adds : goal.returns-in-Ok-clause-adds
returns-in-Ok-clause-adds g c = λ before after took adds.
    let k = g.K.Sink in
    let old = c.args.self.now in
    let saw = g.W.Watch.saw old.watch in
    let e = c.in-Ok.ensures in
    let writes = data_writes (stack_meaning old.stack.now) before after c.args.instance c.args.mark adds old.merge old.cause old.stops saw saw (k.written (first_sink old)) (k.written (sink_of old)) (k.written c.write_wanted.new.sink)
    (k.faults (first_sink old)) (k.faults (sink_of old)) (k.faults c.write_wanted.new.sink) c.requires.never took.writes c.requires.wanted e.cause.kept e.whole in
    record {
      same_sink = took.same_sink;
      goes_on_is = g.met.K.Sink.goes_on_further _ _ _ took.goes_on_is e.goes_on;
      writes = writes;
      at_pause = λ _. (never_stopped (stack_meaning old.stack.now) old.merge old.cause old.stops saw (k.written (first_sink old)) (k.written c.write_wanted.new.sink) (k.faults (first_sink old)) (k.faults c.write_wanted.new.sink) after c.requires.never writes).2;
      at_stop = λ is. absurd (omega (arith, is, old.quiet c.requires.never));
      holds_none = took.holds_none;
    }

pub returns-in-Err-clause-adds : goal.returns-in-Err-clause-adds
returns-in-Err-clause-adds g c = λ before after took adds.
    let k = g.K.Sink in
    let old = c.args.self.now in
    let saw = g.W.Watch.saw old.watch in
    let e = c.in-Err.ensures in
    let s = c.stop.ensures in
    let both = data_fails (stack_meaning old.stack.now) before after c.args.instance c.args.mark adds old.merge old.cause old.stops saw saw (k.written (first_sink old)) (k.written (sink_of old)) (k.written c.write_wanted.new.sink)
    (k.faults (first_sink old)) (k.faults (sink_of old)) (k.faults c.write_wanted.new.sink) c.requires.never took.writes c.requires.wanted c.stop.new.cause c.stop.new.stops s.cause (λ is. omega (arith, is, s.stops)) e.cause.later e.cause.failed e.front in
    record {
      same_sink = took.same_sink;
      goes_on_is = g.met.K.Sink.goes_on_further _ _ _ took.goes_on_is e.goes_on;
      writes = both.0;
      at_pause = λ is. absurd (omega (arith, is, s.stops));
      at_stop = λ _. both.1;
      holds_none = took.holds_none;
    }
