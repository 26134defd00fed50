use Rattle.std.proofs.Common.{◌≡◌, length, sym, ◌∙◌, ap}
use Rattle.words.specs.Settings.{meaning_of}
use Rattle.view_store.specs.Listings.{Listing}
use Rattle.view_store.specs.Views.{known, published, told_listing}
use Rattle.ldecode.proofs.Shelving.{works_shelved}
use Rattle.ldecode.proofs.Viewing.{all_seen, done_ended, not_done, not_seen}
use Rattle.ldecode.proofs.view_stack.view_beside.Goals as goal

pub returns-then-not-is_done-clause-views : goal.returns-then-not-is_done-clause-views
returns-then-not-is_done-clause-views g c =
    let ran = c.shelve_beside-status in
    let left = g.S.Source.left in
    let k = g.K.Sink in
    let values = meaning_of c.args.settings.now in
    not_done _ values (left c.args.source.now) (left ran.new.source) (k.written c.args.sink.now) (k.written ran.new.sink) ran.result (sym c.is_done.ensures ∙ c.if-not-is_done.true)
    (works_shelved _ values (left c.args.source.now) (left ran.new.source) (k.written c.args.sink.now) (k.written ran.new.sink) (published ran.new.writer) ran.result ran.ensures.shelved)

pub returns-in-Ok-clause-views : goal.returns-in-Ok-clause-views
returns-in-Ok-clause-views g c =
    let ran = c.shelve_beside-status in
    let left = g.S.Source.left in
    let k = g.K.Sink in
    let values = meaning_of c.args.settings.now in
    let done = sym c.is_done.ensures ∙ c.if-not-is_done.false in
    let shelf = published ran.new.writer in
    let ended = done_ended values (left c.args.source.now) (left ran.new.source) (k.written c.args.sink.now) (k.written ran.new.sink) shelf ran.result done ran.ensures.shelved in
    let told : told_listing c.tell.result ≡ shelf = c.tell.ensures.told in
    let learnt : known c.learn.new.self ≡ told_listing c.tell.result = c.learn.ensures.told.ended (ap (λ (s : Listing). s.ended) told ∙ ended) in
    let later : known c.ask.new.self ≡ known c.learn.new.self = c.ask.ensures.later.ended (ap (λ (s : Listing). s.ended) (learnt ∙ told) ∙ ended) in
    all_seen _ values (left c.args.source.now) (left ran.new.source) (k.written c.args.sink.now) (k.written ran.new.sink) c.requires.watched c.in-Ok.answer.seen shelf
    (c.in-Ok.ensures.ok.seen ∙ ap (λ (s : Listing). length s.notes) (later ∙ (learnt ∙ told))) ran.result done ran.ensures.shelved

pub returns-in-Err-clause-views : goal.returns-in-Err-clause-views
returns-in-Err-clause-views g c =
    let ran = c.shelve_beside-status in
    let left = g.S.Source.left in
    let k = g.K.Sink in
    not_seen _ (meaning_of c.args.settings.now) (left c.args.source.now) (left ran.new.source) (k.written c.args.sink.now) (k.written ran.new.sink) (published ran.new.writer) ran.result (sym c.is_done.ensures ∙ c.if-not-is_done.false) ran.ensures.shelved
