use Rattle.std.proofs.Common.{◌≡◌, sym, ◌∙◌, arith, rules}
use Rattle.view_store.specs.Listings.{nothing}
use Rattle.view_store.specs.Views.{known, reader_shelf, shelf_of}
use Rattle.view_store.proofs.Asking.{all_last}
use Rattle.view_store.proofs.views.make.shelf.Goals as goal

pub loop-preserved : goal.loop-preserved
loop-preserved g c =
    let i = c.loop.invariant in
    let made = c.reader.ensures in
    record {
      published = made.published ∙ i.published;
      pending = made.pending ∙ i.pending;
      count = search rules;
      room = search rules;
      within = omega (arith, c.loop-test.true);
      own = all_last (λ reader. reader_shelf reader ≡ shelf_of c.reader.new.self) c.loop.made.items c.reader.result c.push_reserved.new.self.items c.push_reserved.ensures.items
          (λ k d less. i.own k d less ∙ sym made.shelf) (made.own ∙ sym made.shelf);
      known = all_last (λ reader. known reader ≡ nothing) c.loop.made.items c.reader.result c.push_reserved.new.self.items c.push_reserved.ensures.items
          i.known (made.known ∙ i.published);
    }
