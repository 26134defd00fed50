use Rattle.std.proofs.Common.{◌∙◌, ap}
use Rattle.view_store.specs.Listings.{listing_of}
use Rattle.view_store.proofs.Growing.{end_added, end_listed}
use Rattle.view_store.proofs.views.ViewWriter.finish.Goals as goal

pub returns-clause-ok : goal.returns-clause-ok
returns-clause-ok c = ap listing_of c.in-Some.ensures.log ∙ end_listed c.args.self.now.front.seen.log

pub invariant_of-self-2-clause-owed : goal.invariant_of-self-2-clause-owed
invariant_of-self-2-clause-owed c = end_added _ _ _ c.in-Some.ensures.log c.args.self.now.owed
