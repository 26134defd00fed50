use Rattle.std.proofs.Common.{◌≡◌, map, List, ℕ}
use Rattle.std.specs.String.{string_bytes}
use Rattle.la_io.specs.Capture.{Told}
use Rattle.ldecode.specs.Headline.{IsLine, stream}
use Rattle.ldecode.proofs.Headlines.{line_told, promises}
use Rattle.ldecode.proofs.whole.run.Goals as goal

pub returns : goal.returns
returns g c =
    let ran = c.run_words_in_threads-outcome in
    let words = map string_bytes c.args.words.now in
    let notices = stream g.E.Sink.written g.E.Sink.faults c.args.notices.now c.tell.new.notices in
    promises _ words (stream g.S.Source.left g.S.Source.faults c.args.source.now ran.new.source) (stream g.K.Sink.written g.K.Sink.faults c.args.sink.now ran.new.sink) notices (ran.new.source ≡ c.args.source.now) ran.result.status
    ran.ensures.runs.runs ran.ensures.causes.read ran.ensures.causes.write (λ (bytes : List ℕ) (told : Told) (line : List ℕ). IsLine words bytes told ran.result.status line) ran.ensures.causes.unread ran.ensures.made
    (line_told words ran.ensures.runs.runs.bytes ran.ensures.runs.runs.told ran.result.status ran.result.seen ran.ensures.runs.saw notices c.tell.ensures)
