use Rattle.std.proofs.Common.{ap, sym, ◌∙◌}
use Rattle.view_store.specs.Stores.{name_of}
use Rattle.view_store.proofs.Naming.{looks, one_book}
use Rattle.view_store.proofs.views.ViewReader.asked.Goals as goal

pub enter_as-requires : goal.enter_as-requires
enter_as-requires c x = looks _ _ x

pub look-found-requires-clause-book : goal.look-found-requires-clause-book
look-found-requires-clause-book c =
    let book = c.args.self.front.seen.book in
    one_book book c.get.result.now.front.seen.book (c.in-Ok.ensures.1.one (name_of book) c.args.self.named ∙ ap (λ s. name_of s.front.seen.book) (sym c.get.ensures))
