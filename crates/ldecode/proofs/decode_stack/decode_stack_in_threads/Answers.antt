use Rattle.std.proofs.Common.{◌≡◌, length, sym, subst}
use Rattle.decode_job.specs.Asking.{CanDecode}
use Rattle.words.specs.Settings.{meaning_of}
use Rattle.run_asks.specs.Asking.{NamesNoHead}
use Rattle.ldecode.specs.Watching.{IsSeen, IsSeenFront}
use Rattle.ldecode.proofs.Decoding.{decoded_of}
use Rattle.ldecode.proofs.Working.{sink_cause, source_cause, unread_at_end}
use Rattle.ldecode.proofs.decode_stack.decode_stack_in_threads.Goals as goal

pub returns-in-Err-clause-causes : goal.returns-in-Err-clause-causes
returns-in-Err-clause-causes g c = record {
  unread = c.in-Err.ensures.unread;
  read = c.in-Err.ensures.read;
  write = c.in-Err.ensures.write (g.K.Sink.faults c.args.sink.now);
}

pub returns-clause-decodes : goal.returns-clause-decodes
returns-clause-decodes g c =
    let opened = c.in-Ok.ensures.opened in
    let ran = c.decode_in_threads-end in
    let left = g.S.Source.left in
    let k = g.K.Sink in
    let saw = g.W.Watch.saw ran.result.1 in
    let old = k.written c.args.sink.now in
    let new = k.written ran.new.sink in
    record {
      decodes = decoded_of (meaning_of c.args.settings.now) c.requires.job (left c.args.source.now) (left c.open_stack.new.source) (left ran.new.source) c.in-Ok.opened opened (IsSeen saw old new) (IsSeenFront saw old new) c.deref.result.now c.deref.ensures.value ran.result.0
          (ran.ensures.decodes.lists opened.bytes opened.told opened.at opened.stands opened.consumed);
      refuses = tt;
      untouched = tt;
    }

pub returns-clause-causes : goal.returns-clause-causes
returns-clause-causes g c =
    let ran = c.decode_in_threads-end in
    record {
      unread = unread_at_end (NamesNoHead (meaning_of c.args.settings.now)) (ran.new.source ≡ c.args.source.now) ran.result.0;
      read = source_cause (g.S.Source.faults c.args.source.now) (g.S.Source.faults c.open_stack.new.source) (g.S.Source.faults ran.new.source) ran.result.0 c.in-Ok.ensures.kept ran.ensures.decodes.read;
      write = sink_cause (g.K.Sink.faults c.args.sink.now) (g.K.Sink.faults ran.new.sink) ran.result.0 ran.ensures.decodes.write;
    }

pub decode_in_threads-end-requires-clause-tree : goal.decode_in_threads-end-requires-clause-tree
decode_in_threads-end-requires-clause-tree g c κs within =
    let is = c.in-Ok.ensures.opened in
    subst (CanDecode c.in-Ok.opened.stack (length c.in-Ok.opened.machines.items)) (sym c.deref.ensures.value)
    (record { forest = is.forest; few = is.few; each = is.each; instances = is.instances; wanted = is.wanted })
