-- One note more on a shelf.
use Rattle.std.proofs.Common.{◌≡◌, List, [], ◌∷◌, ◌++◌, MutBor, refl, sym, ◌∙◌, ap, subst, append_assoc}
use Rattle.note_order.specs.declared.entry.Entry.{Entry}
use Rattle.view_store.specs.Listings.{Listing}
use Rattle.view_store.specs.Views.{pending, published, shelf_of}
use Rattle.view_store.specs.declared.views.ViewWriter.{ViewWriter}
use Rattle.shelf_watch.specs.Shelves.{HasSeen, IsFrontOf, pair_of, pairs_of}

pairs_more : (entries : List Entry) (e : Entry) → pairs_of (entries ++ e ∷ []) ≡ pairs_of entries ++ pair_of e ∷ []
pairs_more [] e = refl
pairs_more (x ∷ entries) e = ap (λ l. pair_of x ∷ l) (pairs_more entries e)

-- a front of some notes is one of more
front_of_more : (entries : List Entry) (e : Entry) (listing : Listing) → IsFrontOf (pairs_of entries) listing → IsFrontOf (pairs_of (entries ++ e ∷ [])) listing
front_of_more entries e listing front = record {
  first = (front.first.0 ++ pair_of e ∷ [], sym (append_assoc listing.notes front.first.0 (pair_of e ∷ [])) ∙ ap (λ l. l ++ pair_of e ∷ []) front.first.1 ∙ sym (pairs_more entries e));
  going = front.going;
}

pub one_more : (lent now new : MutBor ViewWriter) (entries : List Entry) (e : Entry) → new.ghost_name ≡ now.ghost_name → shelf_of new.now ≡ shelf_of now.now → published new.now ≡ published now.now
    → pending new.now ≡ record (pending now.now) { notes = (pending now.now).notes ++ pair_of e ∷ [] } → HasSeen lent now entries → HasSeen lent new (entries ++ e ∷ [])
one_more lent now new entries e same shelf kept added had = record {
  same_reference = same ∙ had.same_reference;
  shelf = shelf ∙ had.shelf;
  notes = ap (λ (l : Listing). l.notes) added ∙ ap (λ l. l ++ pair_of e ∷ []) had.notes ∙ sym (pairs_more entries e);
  going = ap (λ (l : Listing). l.ended) added ∙ had.going;
  front = subst (IsFrontOf (pairs_of (entries ++ e ∷ []))) (sym kept) (front_of_more entries e (published now.now) had.front);
}
