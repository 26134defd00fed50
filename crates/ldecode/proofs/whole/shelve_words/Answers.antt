use Rattle.std.proofs.Common.{ap, map, sym, ◌∙◌}
use Rattle.std.specs.String.{string_bytes}
use Rattle.words.specs.Settings.{meaning_of}
use Rattle.view_store.specs.Views.{published}
use Rattle.run_status.specs.declared.outcome.Outcome.{Outcome}
use Rattle.ldecode.proofs.Running.{on_shelf, refused_shelved, unshelved}
use Rattle.ldecode.proofs.whole.shelve_words.Goals as goal

pub returns-in-Err-clause-runs : goal.returns-in-Err-clause-runs
returns-in-Err-clause-runs g c = refused_shelved _ (map string_bytes c.args.words.now) c.in-Err.error c.in-Err.ensures.gives (g.S.Source.left c.args.source.now) (g.K.Sink.written c.args.sink.now) (published c.args.shelf.now) c.requires.published c.refused.result.status (ap (λ (o : Outcome). o.status) c.refused.ensures)

pub returns-then-lists_notes-clause-runs : goal.returns-then-lists_notes-clause-runs
returns-then-lists_notes-clause-runs g c = on_shelf _ (map string_bytes c.args.words.now) (meaning_of c.in-Ok.settings) c.in-Ok.ensures.gives (g.S.Source.left c.args.source.now) (g.S.Source.left c.shelve_as_asked.new.source) (g.K.Sink.written c.args.sink.now) (g.K.Sink.written c.shelve_as_asked.new.sink) (published c.shelve_as_asked.new.shelf) c.shelve_as_asked.result c.shelve_as_asked.ensures.shelved

pub returns-clause-runs : goal.returns-clause-runs
returns-clause-runs g c = unshelved _ (map string_bytes c.args.words.now) (meaning_of c.in-Ok.settings) c.in-Ok.ensures.gives (sym c.lists_notes.ensures.is ∙ c.if-lists_notes.false) (g.S.Source.left c.args.source.now) (g.S.Source.left c.work_as_asked.new.source) (g.K.Sink.written c.args.sink.now) (g.K.Sink.written c.work_as_asked.new.sink) (published c.args.shelf.now) c.work_as_asked.result.status c.work_as_asked.ensures.views.does
