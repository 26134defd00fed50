use Rattle.std.proofs.Common.{ap, sym, ◌∙◌, ◌≡◌, fold}
use Rattle.view_store.specs.Blocks.{notes_in}
use Rattle.view_store.specs.Stores.{content_of, with_change}
use Rattle.view_store.proofs.Growing.{blank_tied}
use Rattle.view_store.proofs.Naming.{publishes}
use Rattle.view_store.proofs.views.ViewWriter.open.Goals as goal

pub publish_as-requires : goal.publish_as-requires
publish_as-requires g c next is =
    let made = c.in_ok-writer.ensures in
    let blank = c.blank-first.ensures in
    let first = c.blank-first.result in
    let same : content_of next ≡ content_of first = is ∙ (ap (fold with_change (content_of c.in_ok-writer.writer.desk.shown.value)) made.1 ∙ ap content_of made.0) in
    let tied = blank_tied (content_of next) (ap (λ s. s.notes) same ∙ ap notes_in blank.0) (ap (λ s. s.seen.log) same ∙ (ap (λ s. s.log) blank.1 ∙ c.open-front.ensures.empty)) in
    publishes _ _ _ next tied (ap (λ s. s.seen.book) same ∙ ap (λ s. s.front.seen.book) (sym made.0))
