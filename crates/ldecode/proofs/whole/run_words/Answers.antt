use Rattle.std.proofs.Common.{map}
use Rattle.std.specs.String.{string_bytes}
use Rattle.words.specs.Settings.{meaning_of}
use Rattle.ldecode.proofs.Running.{refused_viewed, viewed}
use Rattle.ldecode.proofs.whole.run_words.Goals as goal

pub returns-in-Ok-clause-runs : goal.returns-in-Ok-clause-runs
returns-in-Ok-clause-runs g c = viewed _ (map string_bytes c.args.words.now) (meaning_of c.in-Ok.settings) c.in-Ok.ensures.gives (g.S.Source.left c.args.source.now) (g.S.Source.left c.work_here.new.source) (g.K.Sink.written c.args.sink.now) (g.K.Sink.written c.work_here.new.sink) c.work_here.result c.work_here.ensures.views

pub returns-in-Err-clause-runs : goal.returns-in-Err-clause-runs
returns-in-Err-clause-runs g c = refused_viewed _ (map string_bytes c.args.words.now) c.in-Err.error c.in-Err.ensures.gives (g.S.Source.left c.args.source.now) (g.K.Sink.written c.args.sink.now) c.refused.result c.refused.ensures
