use Rattle.words.specs.Settings.{meaning_of}
use Rattle.ldecode.proofs.Viewing.{no_shelf}
use Rattle.ldecode.proofs.view_stack.view_shelf.Goals as goal

pub returns-in_default-clause-views : goal.returns-in_default-clause-views
returns-in_default-clause-views g c = no_shelf _ (meaning_of c.args.settings.now) (g.S.Source.left c.args.source.now) (g.K.Sink.written c.args.sink.now)
