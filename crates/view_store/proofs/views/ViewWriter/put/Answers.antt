use Rattle.std.proofs.Common.{ℕ, List, [], ◌∷◌, ◌++◌, ◌∙◌, ap}
use Rattle.la_base.specs.declared.wires.Note.{Note}
use Rattle.view_store.specs.Listings.{listing_of}
use Rattle.view_store.proofs.Growing.{note_added, note_listed}
use Rattle.view_store.proofs.views.ViewWriter.put.Goals as goal

pub returns-clause-ok : goal.returns-clause-ok
returns-clause-ok c = ap listing_of c.in-Some.ensures.log ∙ note_listed c.args.self.now.front.seen.log (c.args.instance, c.args.note)

pub invariant_of-self-2-clause-owed : goal.invariant_of-self-2-clause-owed
invariant_of-self-2-clause-owed c =
    let note : ℕ × Note = (c.args.instance, c.args.note) in
    note_added _ _ _ _ _ _ note (c.push_reserved.ensures.items ∙ ap (λ (l : List (ℕ × Note)). l ++ note ∷ []) c.try_reserve.ensures.items) c.in-Some.ensures.log c.args.self.now.owed
