use Rattle.std.proofs.Common.{◌≡◌, map}
use Rattle.std.specs.String.{string_bytes}
use Rattle.ldecode.specs.Headline.{stream}
use Rattle.ldecode.proofs.Headlines.{watched}
use Rattle.ldecode.proofs.whole.run_watched.Goals as goal

pub returns-clause-headline : goal.returns-clause-headline
returns-clause-headline g c =
    let ran = c.shelve_words-status in
    watched _ (map string_bytes c.args.words.now) (stream g.S.Source.left g.S.Source.faults c.args.source.now ran.new.source) (stream g.K.Sink.written g.K.Sink.faults c.args.sink.now ran.new.sink)
    (stream g.E.Sink.written g.E.Sink.faults c.args.notices.now c.tell.new.notices) (ran.new.source ≡ c.args.source.now) ran.result _ ran.ensures.runs ran.ensures.causes.read ran.ensures.causes.write ran.ensures.causes.unread ran.ensures.made c.tell.ensures
