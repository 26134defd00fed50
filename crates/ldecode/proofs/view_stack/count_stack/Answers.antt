use Rattle.std.proofs.Common.{◌≡◌, Some, length, sym, ◌∙◌, ap, subst}
use Rattle.words.specs.Settings.{meaning_of}
use Rattle.run_status.specs.Notices.{is_done}
use Rattle.run_status.specs.declared.status.Status.{Status}
use Rattle.ldecode.specs.Headline.{WorksOn}
use Rattle.ldecode.specs.Watching.{ViewsOn}
use Rattle.ldecode.proofs.Decoding.{works_by}
use Rattle.ldecode.proofs.Viewing.{counted, not_done}
use Rattle.ldecode.proofs.view_stack.count_stack.Goals as goal

pub returns-then-not-is_done-clause-views : goal.returns-then-not-is_done-clause-views
returns-then-not-is_done-clause-views g c =
    let ran = c.decode_stack-ended in
    let values = meaning_of c.args.settings.now in
    let left_old = g.S.Source.left c.args.source.now in
    let left_new = g.S.Source.left ran.new.source in
    let old = g.K.Sink.written c.args.sink.now in
    let new = g.K.Sink.written ran.new.sink in
    not_done _ values left_old left_new old new c.status_by-status.result (sym c.is_done.ensures ∙ c.if-not-is_done.true)
    (subst (WorksOn _ values left_old left_new old new) (sym c.status_by-status.ensures) (works_by _ values (λ entries. ran.result.1.count ≡ length entries) _ g.K.Sink.written left_old left_new c.args.sink.now ran.new.sink ran.result.0 ran.ensures.decodes.decodes ran.ensures.decodes.refuses ran.ensures.decodes.untouched))

pub returns-clause-views : goal.returns-clause-views
returns-clause-views g c =
    let ran = c.decode_stack-ended in
    let values = meaning_of c.args.settings.now in
    let left_old = g.S.Source.left c.args.source.now in
    let left_new = g.S.Source.left ran.new.source in
    let old = g.K.Sink.written c.args.sink.now in
    let new = g.K.Sink.written ran.new.sink in
    subst (λ (s : Status). ViewsOn _ values left_old left_new old new (record { status = s; seen = Some c.count.result })) (sym c.status_by-status.ensures)
    (counted _ values left_old left_new old new c.requires.watched c.count.result (λ entries. ran.result.1.count ≡ length entries) (λ entries seen. c.count.ensures ∙ seen) ran.result.0 (ap is_done (sym c.status_by-status.ensures) ∙ (sym c.is_done.ensures ∙ c.if-not-is_done.false)) ran.ensures.decodes.decodes ran.ensures.decodes.refuses)
