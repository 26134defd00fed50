use Rattle.std.proofs.Common.{sym, subst}
use Rattle.words.specs.Settings.{meaning_of}
use Rattle.ldecode.specs.Headline.{WorksOn}
use Rattle.ldecode.proofs.Decoding.{works_by}
use Rattle.ldecode.proofs.Running.{does_work, unseen_is}
use Rattle.ldecode.proofs.work.decode_here.Goals as goal

pub returns-clause-views : goal.returns-clause-views
returns-clause-views g c =
    let ran = c.decode_stack-ended in
    let values = meaning_of c.args.settings.now in
    let left_old = g.S.Source.left c.args.source.now in
    let left_new = g.S.Source.left ran.new.source in
    let k = g.K.Sink in
    let old = k.written c.args.sink.now in
    let new = k.written ran.new.sink in
    let works = subst (WorksOn _ values left_old left_new old new) (sym c.status_by.ensures) (works_by _ values (λ entries. Unit {0}) _ k.written left_old left_new c.args.sink.now ran.new.sink ran.result.0 ran.ensures.decodes.decodes ran.ensures.decodes.refuses ran.ensures.decodes.untouched) in
    unseen_is _ values (c.is_watched.ensures.no c.if-is_watched.false) left_old left_new old new c.status_by.result (does_work _ values left_old left_new old new c.status_by.result works) c.unseen.result c.unseen.ensures
