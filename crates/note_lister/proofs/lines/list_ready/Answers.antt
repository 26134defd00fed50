use Rattle.std.proofs.Common.{List, ◌++◌, ◌∙◌, refl, subst, append_assoc, arith}
use Rattle.note_order.specs.declared.entry.Entry.{Entry}
use Rattle.stack_words.specs.Stacks.{stack_meaning}
use Rattle.annot_merge.specs.Held.{GivesAll, GivesNone, Stands}
use Rattle.note_lister.proofs.Seeing.{listed_more, no_entries, seen_more, shows_on}
use Rattle.note_lister.proofs.lines.list_ready.Goals as goal

pub loop-entries-preserved : goal.loop-entries-preserved
loop-entries-preserved g c =
    let k = g.K.Sink in
    let w = g.W.Watch in
    let i = c.loop-entries.invariant in
    let e = c.in-Ok.ensures in
    let run = c.ready_notes-entries.result.now in
    let accepted = stack_meaning c.args.stack.now in
    let given_all : GivesAll c.loop-entries.merge c.let_go.new.self run = c.let_go.ensures.gives run refl (c.ready_notes-entries.ensures.ready (omega (arith, c.if-count-eq0.false))) in
    record {
      count = c.let_go.ensures.count ∙ i.count;
      lists = λ marks given s.
          let had = i.lists marks given s in
          record {
            more = had.more ++ run;
            stands = subst (λ (l : List Entry). Stands c.let_go.new.self marks l) (append_assoc given had.more run) (given_all.stands marks (given ++ had.more) had.stands).1;
            lines = listed_more accepted (k.written c.args.sink.now) (k.written c.loop-entries.sink) (k.written c.write_lines-written.new.sink) had.more run had.lines e.whole;
            sees = seen_more accepted (w.saw c.args.watch.now) (w.saw c.loop-entries.watch) (w.saw c.write_lines-written.new.watch) had.more run had.sees e.seen;
          };
      faults = e.cause ∙ i.faults;
      goes_on = g.met.K.Sink.goes_on_further _ _ _ i.goes_on e.goes_on;
      origin = e.origin ∙ i.origin;
    }

pub returns-in-Err-clause-lists : goal.returns-in-Err-clause-lists
returns-in-Err-clause-lists g c = λ marks given s.
    let k = g.K.Sink in
    let w = g.W.Watch in
    let had = c.loop-entries.invariant.lists marks given s in
    let run = c.ready_notes-entries.result.now in
    let given_all : GivesAll c.loop-entries.merge c.let_go.new.self run = c.let_go.ensures.gives run refl (c.ready_notes-entries.ensures.ready (omega (arith, c.if-count-eq0.false))) in
    record {
      more = had.more ++ run;
      stands = subst (λ (l : List Entry). Stands c.let_go.new.self marks l) (append_assoc given had.more run) (given_all.stands marks (given ++ had.more) had.stands).1;
      front = shows_on (stack_meaning c.args.stack.now) (w.saw c.args.watch.now) (w.saw c.loop-entries.watch) (w.saw c.write_lines-written.new.watch) (k.written c.args.sink.now) (k.written c.loop-entries.sink) (k.written c.write_lines-written.new.sink)
          had.more run had.lines had.sees c.in-Err.ensures.front;
    }

pub returns-then-count-eq0-clause-lists : goal.returns-then-count-eq0-clause-lists
returns-then-count-eq0-clause-lists g c = λ marks given s.
    let had = c.loop-entries.invariant.lists marks given s in
    let none : GivesNone c.loop-entries.merge c.loop-entries.merge = c.ready_notes-entries.ensures.none (no_entries c.ready_notes-entries.result.now c.if-count-eq0.true) in
    let still = none.stands marks (given ++ had.more) had.stands in
    (record { more = had.more; stands = still; lines = had.lines; sees = had.sees }, none.none marks (given ++ had.more) still)
