use Rattle.std.proofs.Common.{arith}
use Rattle.stack_words.specs.Stacks.{stack_meaning}
use Rattle.note_lister.proofs.Seeing.{stopped_at}
use Rattle.note_lister.proofs.lines.write_lines.Goals as goal

pub returns-in-Err-clause-front : goal.returns-in-Err-clause-front
returns-in-Err-clause-front g c =
    let k = g.K.Sink in
    let w = g.W.Watch in
    stopped_at (stack_meaning c.args.stack.now) (w.saw c.args.watch.now) (w.saw c.loop-entry.watch) (w.saw c.write_shown.new.watch) (k.written c.args.sink.now) (k.written c.loop-entry.sink) (k.written c.write_shown.new.sink)
    c.args.entries.now c.loop-entry.entry-index c.entry-item.result (omega (arith, c.loop-entry-test.true, c.loop-entry.auto.entry-index-end)) c.entry-item.is c.loop-entry.invariant.written c.loop-entry.invariant.sees
    c.in-Err.ensures.front c.in-Err.ensures.unseen
