use Rattle.std.proofs.Common.{◌≡◌, ◌<◌, inl, inr, ℕ, List, [], ◌∷◌, ◌++◌, refl, sym, subst, arith}
use Rattle.std.proofs.lemmas.List.{append-nil}
use Rattle.la_base.specs.declared.wires.Mark.{Mark}
use Rattle.tree_io.specs.Feeds.{AddsMarks, TakesMarks, real}
use Rattle.la_io.specs.Grown.{appends_nothing}
use Rattle.tree_io.proofs.Taking.{same_after, some_behind, takes_whole}
use Rattle.note_order.specs.declared.entry.Entry.{Entry}
use Rattle.annot_merge.specs.Held.{Stands}
use Rattle.annot_merge.specs.declared.merge.Merge.{Merge}
use Rattle.stack_words.specs.Stacks.{stack_meaning}
use Rattle.note_lister.specs.Taking.{Took, Writes, first_sink, sink_of}
use Rattle.note_lister.proofs.PushLemmas.{not_ok}
use Rattle.note_lister.proofs.Seeing.{sees_nothing}
use Rattle.note_lister.proofs.TakingLemmas.{marks_cut, marks_fail, marks_write, never_stopped, wants_none}
use Rattle.note_lister.proofs.lister.Lister.list_marks.Goals as goal

pub returns-then-not-some-clause-adds : goal.returns-then-not-some-clause-adds
returns-then-not-some-clause-adds g c =
    let k = g.K.Sink in
    let w = g.W.Watch in
    let old = c.args.self.now in
    let saw = w.saw old.watch in
    let accepted = stack_meaning old.stack.now in
    let none = c.in-Ok.ensures.some.none c.if-not-some.true in
    let marks = real c.args.marks.now in
    let first = k.written (first_sink old) in
    let now = k.written (sink_of old) in
    let failed = k.faults (first_sink old) in
    let fails = k.faults (sink_of old) in
    takes_whole _ _ c.args.instance marks (λ before after took adds.
    let same : before ≡ after = same_after (subst (AddsMarks before after c.args.instance) none.1 adds) in
    let still : Writes accepted old.merge old.cause old.stops saw first now failed fails after = subst (λ (h : ℕ → List Mark). Writes accepted old.merge old.cause old.stops saw first now failed fails h) same took.writes in
    let writes : Writes accepted c.push_marks.new.merge old.cause old.stops saw first now failed fails after = subst (λ (m : Merge). Writes accepted m old.cause old.stops saw first now failed fails after) (sym none.2) still in
    record {
      same_sink = took.same_sink;
      goes_on_is = took.goes_on_is;
      writes = writes;
      at_pause = λ _. (never_stopped accepted c.push_marks.new.merge old.cause old.stops saw first now failed fails after (old.going c.requires.merges) writes).2;
      at_stop = λ is. absurd (omega (arith, is, old.quiet (old.going c.requires.merges)));
      holds_none = λ some. absurd (wants_none accepted.binary (old.notes c.requires.merges) some);
    })

pub returns-in-Ok-listed-clause-adds : goal.returns-in-Ok-listed-clause-adds
returns-in-Ok-listed-clause-adds g c =
    let k = g.K.Sink in
    let w = g.W.Watch in
    let old = c.args.self.now in
    let saw = w.saw old.watch in
    let saw_now = w.saw c.list_ready-listed.new.watch in
    let e = c.in-Ok-listed.ensures in
    let accepted = stack_meaning old.stack.now in
    let marks = real c.args.marks.now in
    takes_whole _ _ c.args.instance marks (λ before after took adds.
    let writes = marks_write accepted before after c.args.instance marks adds old.merge old.cause old.stops saw saw_now (k.written (first_sink old)) (k.written (sink_of old)) (k.written c.list_ready-listed.new.sink)
    (k.faults (first_sink old)) (k.faults (sink_of old)) (k.faults c.list_ready-listed.new.sink) (old.going c.requires.merges) took.writes (old.notes c.requires.merges) c.push_marks.new.merge c.list_ready-listed.new.merge tt e.cause c.in-Ok.ensures.pushes e.lists in
    record {
      same_sink = took.same_sink;
      goes_on_is = g.met.K.Sink.goes_on_further _ _ _ took.goes_on_is e.goes_on;
      writes = writes;
      at_pause = λ _. (never_stopped accepted c.list_ready-listed.new.merge old.cause old.stops saw_now (k.written (first_sink old)) (k.written c.list_ready-listed.new.sink) (k.faults (first_sink old)) (k.faults c.list_ready-listed.new.sink) after (old.going c.requires.merges) writes).2;
      at_stop = λ is. absurd (omega (arith, is, old.quiet (old.going c.requires.merges)));
      holds_none = λ some. absurd (wants_none accepted.binary (old.notes c.requires.merges) some);
    })

pub returns-in-Err-listed-clause-adds : goal.returns-in-Err-listed-clause-adds
returns-in-Err-listed-clause-adds g c =
    let k = g.K.Sink in
    let w = g.W.Watch in
    let old = c.args.self.now in
    let saw = w.saw old.watch in
    let saw_now = w.saw c.list_ready-listed.new.watch in
    let e = c.in-Err-listed.ensures in
    let s = c.stop.ensures in
    let marks = real c.args.marks.now in
    record {
      taken = marks;
      rest = [];
      front = append-nil marks;
      whole = λ done. refl;
      some = λ stopped. elim (c.in-Ok.ensures.some.some_is c.if-not-some.false) [ inl never ↦ absurd cc | inr some ↦ some ];
      takes = λ before after took adds.
          let both = marks_fail (stack_meaning old.stack.now) before after c.args.instance marks adds old.merge old.cause old.stops saw saw_now (k.written (first_sink old)) (k.written (sink_of old)) (k.written c.list_ready-listed.new.sink)
          (k.faults (first_sink old)) (k.faults (sink_of old)) (k.faults c.list_ready-listed.new.sink) (old.going c.requires.merges) took.writes (old.notes c.requires.merges) c.push_marks.new.merge c.list_ready-listed.new.merge c.in-Err-listed.why c.stop.new.cause c.stop.new.stops s.cause (λ is. omega (arith, is, s.stops)) e.cause c.in-Ok.ensures.pushes e.lists in
          record {
            same_sink = took.same_sink;
            goes_on_is = g.met.K.Sink.goes_on_further _ _ _ took.goes_on_is e.goes_on;
            writes = both.0;
            at_pause = λ is. absurd (omega (arith, is, s.stops));
            at_stop = λ _. both.1;
            holds_none = λ some. absurd (wants_none (stack_meaning old.stack.now).binary (old.notes c.requires.merges) some);
          };
    }

pub returns-in-Err-clause-adds : goal.returns-in-Err-clause-adds
returns-in-Err-clause-adds g c =
    let k = g.K.Sink in
    let w = g.W.Watch in
    let old = c.args.self.now in
    let saw = w.saw old.watch in
    let e = c.in-Err.ensures in
    let f = e.front in
    let s = c.stop-in-Err.ensures in
    record {
      taken = f.first ++ f.refused ∷ [];
      rest = f.rest;
      front = f.front;
      whole = λ done. not_ok c.stop-in-Err.result s.stopped done;
      some = λ stopped. some_behind f.first (f.refused ∷ []) (λ is. absurd cc);
      takes = λ before after took adds.
          let both = marks_cut (stack_meaning old.stack.now) before after c.args.instance f.first f.refused adds old.merge old.cause old.stops saw (k.written (first_sink old)) (k.written (sink_of old))
          (k.faults (first_sink old)) (k.faults (sink_of old)) (old.going c.requires.merges) took.writes (old.notes c.requires.merges) c.push_marks.new.merge c.stop-in-Err.new.cause c.stop-in-Err.new.stops s.cause (λ is. omega (arith, is, s.stops))
          (subst (λ (n : ℕ). c.args.instance < n) (sym e.count) c.requires.within) f.pushes in
          record {
            same_sink = took.same_sink;
            goes_on_is = took.goes_on_is;
            writes = both.0;
            at_pause = λ is. absurd (omega (arith, is, s.stops));
            at_stop = λ _. both.1;
            holds_none = λ some. absurd (wants_none (stack_meaning old.stack.now).binary (old.notes c.requires.merges) some);
          };
    }

pub returns-then-not-is_ready-clause-adds : goal.returns-then-not-is_ready-clause-adds
returns-then-not-is_ready-clause-adds g c =
    let k = g.K.Sink in
    let w = g.W.Watch in
    let old = c.args.self.now in
    let saw = w.saw old.watch in
    let none = c.if-not-is_ready.ensures in
    let accepted = stack_meaning old.stack.now in
    let marks = real c.args.marks.now in
    let last = c.push_marks.new.merge in
    takes_whole _ _ c.args.instance marks (λ before after took adds.
    let writes = marks_write accepted before after c.args.instance marks adds old.merge old.cause old.stops saw saw (k.written (first_sink old)) (k.written (sink_of old)) (k.written (sink_of old))
    (k.faults (first_sink old)) (k.faults (sink_of old)) (k.faults (sink_of old)) (old.going c.requires.merges) took.writes (old.notes c.requires.merges) last last tt refl c.in-Ok.ensures.pushes
    (λ marks given s. (record { more = []; stands = subst (λ (l : List Entry). Stands last marks l) (sym (append-nil given)) s; lines = appends_nothing (k.written (sink_of old)); sees = sees_nothing saw saw (λ seen had. had) }, none.none marks given s)) in
    record {
      same_sink = took.same_sink;
      goes_on_is = took.goes_on_is;
      writes = writes;
      at_pause = λ _. (never_stopped accepted last old.cause old.stops saw (k.written (first_sink old)) (k.written (sink_of old)) (k.faults (first_sink old)) (k.faults (sink_of old)) after (old.going c.requires.merges) writes).2;
      at_stop = λ is. absurd (omega (arith, is, old.quiet (old.going c.requires.merges)));
      holds_none = λ some. absurd (wants_none accepted.binary (old.notes c.requires.merges) some);
    })
