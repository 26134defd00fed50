use Rattle.std.proofs.Common.{◌<◌, ℕ, List, [], ◌∷◌, refl, sym, subst, arith}
use Rattle.std.proofs.lemmas.List.{append-nil}
use Rattle.la_io.specs.Grown.{appends_nothing}
use Rattle.note_order.specs.declared.entry.Entry.{Entry}
use Rattle.annot_merge.specs.Held.{Stands}
use Rattle.stack_words.specs.Stacks.{stack_meaning}
use Rattle.note_lister.specs.Taking.{first_sink, sink_of}
use Rattle.note_lister.proofs.Seeing.{sees_nothing}
use Rattle.note_lister.proofs.TakingLemmas.{marks_cut, marks_fail, marks_write, never_stopped, none_pushed, one_pushed, wants_none}
use Rattle.note_lister.proofs.lister.Lister.take_mark.Goals as goal

pub returns-in-Ok-listed-clause-adds : goal.returns-in-Ok-listed-clause-adds
returns-in-Ok-listed-clause-adds g c = λ before after took adds.
    let k = g.K.Sink in
    let old = c.args.self.now in
    let saw = g.W.Watch.saw old.watch in
    let saw_now = g.W.Watch.saw c.list_ready-listed.new.watch in
    let e = c.in-Ok-listed.ensures in
    let accepted = stack_meaning old.stack.now in
    let writes = marks_write accepted before after c.args.instance (c.args.mark ∷ []) adds old.merge old.cause old.stops saw saw_now (k.written (first_sink old)) (k.written (sink_of old)) (k.written c.list_ready-listed.new.sink)
    (k.faults (first_sink old)) (k.faults (sink_of old)) (k.faults c.list_ready-listed.new.sink) (old.going c.requires.merges) took.writes (old.notes c.requires.merges) c.push.new.self c.list_ready-listed.new.merge tt e.cause (one_pushed old.merge c.push.new.self c.args.instance c.args.mark c.in-Ok.ensures.takes) e.lists in
    record {
      same_sink = took.same_sink;
      goes_on_is = g.met.K.Sink.goes_on_further _ _ _ took.goes_on_is e.goes_on;
      writes = writes;
      at_pause = λ _. (never_stopped accepted c.list_ready-listed.new.merge old.cause old.stops saw_now (k.written (first_sink old)) (k.written c.list_ready-listed.new.sink) (k.faults (first_sink old)) (k.faults c.list_ready-listed.new.sink) after (old.going c.requires.merges) writes).2;
      at_stop = λ is. absurd (omega (arith, is, old.quiet (old.going c.requires.merges)));
      holds_none = λ some. absurd (wants_none accepted.binary (old.notes c.requires.merges) some);
    }

pub returns-in-Err-listed-clause-adds : goal.returns-in-Err-listed-clause-adds
returns-in-Err-listed-clause-adds g c = λ before after took adds.
    let k = g.K.Sink in
    let old = c.args.self.now in
    let saw = g.W.Watch.saw old.watch in
    let saw_now = g.W.Watch.saw c.list_ready-listed.new.watch in
    let e = c.in-Err-listed.ensures in
    let s = c.stop.ensures in
    let both = marks_fail (stack_meaning old.stack.now) before after c.args.instance (c.args.mark ∷ []) adds old.merge old.cause old.stops saw saw_now (k.written (first_sink old)) (k.written (sink_of old)) (k.written c.list_ready-listed.new.sink)
    (k.faults (first_sink old)) (k.faults (sink_of old)) (k.faults c.list_ready-listed.new.sink) (old.going c.requires.merges) took.writes (old.notes c.requires.merges) c.push.new.self c.list_ready-listed.new.merge c.in-Err-listed.why c.stop.new.cause c.stop.new.stops s.cause (λ is. omega (arith, is, s.stops)) e.cause (one_pushed old.merge c.push.new.self c.args.instance c.args.mark c.in-Ok.ensures.takes) e.lists in
    record {
      same_sink = took.same_sink;
      goes_on_is = g.met.K.Sink.goes_on_further _ _ _ took.goes_on_is e.goes_on;
      writes = both.0;
      at_pause = λ is. absurd (omega (arith, is, s.stops));
      at_stop = λ _. both.1;
      holds_none = λ some. absurd (wants_none (stack_meaning old.stack.now).binary (old.notes c.requires.merges) some);
    }

pub returns-in-Err-clause-adds : goal.returns-in-Err-clause-adds
returns-in-Err-clause-adds g c = λ before after took adds.
    let k = g.K.Sink in
    let old = c.args.self.now in
    let saw = g.W.Watch.saw old.watch in
    let e = c.in-Err.ensures in
    let s = c.stop-in-Err.ensures in
    let both = marks_cut (stack_meaning old.stack.now) before after c.args.instance [] c.args.mark adds old.merge old.cause old.stops saw (k.written (first_sink old)) (k.written (sink_of old))
    (k.faults (first_sink old)) (k.faults (sink_of old)) (old.going c.requires.merges) took.writes (old.notes c.requires.merges) c.push.new.self c.stop-in-Err.new.cause c.stop-in-Err.new.stops s.cause (λ is. omega (arith, is, s.stops))
    (subst (λ (n : ℕ). c.args.instance < n) (sym e.count) c.requires.within) (none_pushed old.merge c.push.new.self c.args.instance e.kept.1) in
    record {
      same_sink = took.same_sink;
      goes_on_is = took.goes_on_is;
      writes = both.0;
      at_pause = λ is. absurd (omega (arith, is, s.stops));
      at_stop = λ _. both.1;
      holds_none = λ some. absurd (wants_none (stack_meaning old.stack.now).binary (old.notes c.requires.merges) some);
    }

pub returns-then-not-is_ready-clause-adds : goal.returns-then-not-is_ready-clause-adds
returns-then-not-is_ready-clause-adds g c = λ before after took adds.
    let k = g.K.Sink in
    let old = c.args.self.now in
    let saw = g.W.Watch.saw old.watch in
    let none = c.if-not-is_ready.ensures in
    let accepted = stack_meaning old.stack.now in
    let writes = marks_write accepted before after c.args.instance (c.args.mark ∷ []) adds old.merge old.cause old.stops saw saw (k.written (first_sink old)) (k.written (sink_of old)) (k.written (sink_of old))
    (k.faults (first_sink old)) (k.faults (sink_of old)) (k.faults (sink_of old)) (old.going c.requires.merges) took.writes (old.notes c.requires.merges) c.push.new.self c.push.new.self tt refl (one_pushed old.merge c.push.new.self c.args.instance c.args.mark c.in-Ok.ensures.takes)
    (λ marks given s. (record { more = []; stands = subst (λ (l : List Entry). Stands c.push.new.self marks l) (sym (append-nil given)) s; lines = appends_nothing (k.written (sink_of old)); sees = sees_nothing saw saw (λ seen had. had) }, none.none marks given s)) in
    record {
      same_sink = took.same_sink;
      goes_on_is = took.goes_on_is;
      writes = writes;
      at_pause = λ _. (never_stopped accepted c.push.new.self old.cause old.stops saw (k.written (first_sink old)) (k.written (sink_of old)) (k.faults (first_sink old)) (k.faults (sink_of old)) after (old.going c.requires.merges) writes).2;
      at_stop = λ is. absurd (omega (arith, is, old.quiet (old.going c.requires.merges)));
      holds_none = λ some. absurd (wants_none accepted.binary (old.notes c.requires.merges) some);
    }
