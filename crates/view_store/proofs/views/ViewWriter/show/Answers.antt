use Rattle.std.proofs.Common.{ap, ◌∙◌, sym, ◌++◌, ◌≡◌, []}
use Rattle.view_store.specs.Blocks.{notes_held}
use Rattle.view_store.specs.Stores.{content_of}
use Rattle.view_store.proofs.Growing.{tied_after}
use Rattle.view_store.proofs.Naming.{publishes}
use Rattle.view_store.proofs.views.ViewWriter.show.Goals as goal

pub publish_as-requires : goal.publish_as-requires
publish_as-requires g c next is =
    let self = c.args.self in
    let none : notes_held self.held ++ self.notes.items ≡ [] = λ i. notes_held (c.requires.held i) ++ c.requires.notes i in
    let tied = tied_after _ _ (content_of next) _ _ self.front _ _ none (ap (λ d. content_of d.shown.value) c.append.ensures.desk) c.in-Ok.ensures.pending c.again.ensures self.owed self.front.legal is in
    let book = ap (λ s. s.book) tied.1 ∙ (sym self.same ∙ sym (ap (λ d. d.shown.value.front.seen.book) c.append.ensures.desk)) in
    publishes _ _ _ next tied.0 book
