use Rattle.std.proofs.Common.{rules, ◌≡◌, sym, ◌∙◌, ap, subst}
use Rattle.words.specs.Settings.{meaning_of}
use Rattle.shelf_watch.specs.Watches.{Saw, lent_ref, shelf_ref}
use Rattle.view_store.specs.Views.{pending, published, shelf_of}
use Rattle.view_store.specs.declared.views.ViewWriter.{ViewWriter}
use Rattle.run_status.specs.Causes.{HasCauses}
use Rattle.run_status.specs.declared.status.Status.{Status}
use Rattle.run_asks.specs.Asking.{NamesNoHead}
use Rattle.ldecode.specs.Watching.{EndsShelf, ShelvesOn}
use Rattle.ldecode.proofs.Shelving.{none_seen, shelf_sink, shelf_source, shelf_unread, shelved, some_seen}
use Rattle.ldecode.proofs.shelve_stack.shelve_here.Goals as goal

pub returns-clause-shelved : goal.returns-clause-shelved
returns-clause-shelved g c =
    let ran = c.decode_stack-ended in
    let values = meaning_of c.args.settings.now in
    let watch = ran.result.1 in
    let left_old = g.S.Source.left c.args.source.now in
    let left_new = g.S.Source.left ran.new.source in
    let k = g.K.Sink in
    let old = k.written c.args.sink.now in
    let new = k.written ran.new.sink in
    let none = none_seen k.written Saw c.args.sink.now ran.new.sink c.new-watch.result watch c.new-watch.ensures.saw ran.result.0 ran.ensures.decodes.untouched in
    let seen = some_seen _ values (Saw watch) left_old left_new old new ran.result.0 ran.ensures.decodes.decodes none in
    let ends = subst (λ (s : Status). EndsShelf s (pending (shelf_ref watch).now) (published (shelf_ref watch).now) c.end_shelf-shelf.result.1 (published c.end_shelf-shelf.result.0.now)) c.status_by.ensures c.end_shelf-shelf.ensures.ends in
    let on = shelved values (lent_ref watch) (shelf_ref watch) left_old left_new old new (published c.end_shelf-shelf.result.0.now) c.end_shelf-shelf.result.1 ran.result.0 ran.ensures.decodes.decodes ran.ensures.decodes.refuses none ends in
    let same = c.end_shelf-shelf.ensures.same_reference ∙ (seen.1.same_reference ∙ (ap (λ o. o.value.ghost_name) ran.ensures.origin ∙ c.new-watch.ensures.same_reference)) in
    let back : c.shelf-1.given.0 ≡ c.end_shelf-shelf.result.0.now = search rules in
    subst (λ (w : ViewWriter). ShelvesOn values left_old left_new old new (published w) c.end_shelf-shelf.result.1) (sym back) on

pub returns-clause-shelf : goal.returns-clause-shelf
returns-clause-shelf g c =
    let ran = c.decode_stack-ended in
    let watch = ran.result.1 in
    let k = g.K.Sink in
    let none = none_seen k.written Saw c.args.sink.now ran.new.sink c.new-watch.result watch c.new-watch.ensures.saw ran.result.0 ran.ensures.decodes.untouched in
    let seen = some_seen _ (meaning_of c.args.settings.now) (Saw watch) (g.S.Source.left c.args.source.now) (g.S.Source.left ran.new.source) (k.written c.args.sink.now) (k.written ran.new.sink) ran.result.0 ran.ensures.decodes.decodes none in
    let same = c.end_shelf-shelf.ensures.same_reference ∙ (seen.1.same_reference ∙ (ap (λ o. o.value.ghost_name) ran.ensures.origin ∙ c.new-watch.ensures.same_reference)) in
    let back : c.shelf-1.given.0 ≡ c.end_shelf-shelf.result.0.now = search rules in
    ap shelf_of back ∙ (c.end_shelf-shelf.ensures.shelf ∙ (seen.1.shelf ∙ (ap (λ o. shelf_of o.value.now) ran.ensures.origin ∙ ap shelf_of c.new-watch.ensures.lent)))

pub returns-clause-causes : goal.returns-clause-causes
returns-clause-causes g c =
    let ran = c.decode_stack-ended in
    let headless = NamesNoHead (meaning_of c.args.settings.now) in
    let same = ran.new.source ≡ c.args.source.now in
    let source_old = g.S.Source.faults c.args.source.now in
    let source_new = g.S.Source.faults ran.new.source in
    let sink_old = g.K.Sink.faults c.args.sink.now in
    let sink_new = g.K.Sink.faults ran.new.sink in
    let causes = subst (HasCauses headless same source_old source_new sink_old sink_new) (sym c.status_by.ensures) ran.ensures.causes in
    let on_shelf = shelf_ref ran.result.1 in
    let shelf = published c.end_shelf-shelf.result.0.now in
    let status = c.end_shelf-shelf.result.1 in
    let ends = c.end_shelf-shelf.ensures.ends in
    record {
      unread = shelf_unread headless same c.status_by.result (pending on_shelf.now) (published on_shelf.now) shelf status ends causes.unread;
      read = shelf_source source_old source_new c.status_by.result (pending on_shelf.now) (published on_shelf.now) shelf status ends causes.read;
      write = shelf_sink sink_old sink_new c.status_by.result (pending on_shelf.now) (published on_shelf.now) shelf status ends causes.write;
    }
