use Rattle.std.proofs.Common.{subst, List}
use Rattle.view_store.specs.declared.added.Added.{Added}
use Rattle.view_store.specs.Listings.{GoesOn, listing_of}
use Rattle.view_store.proofs.Asking.{asked_later}
use Rattle.view_store.proofs.views.ViewReader.ask.Goals as goal

pub returns-in-Some-try_ask-clause-later : goal.returns-in-Some-try_ask-clause-later
returns-in-Some-try_ask-clause-later g c =
    subst (λ (l : List Added). GoesOn (listing_of l) (listing_of c.try_ask.new.self.front.seen.log)) c.loop.invariant.2
    (asked_later c.loop.self.front.seen.log c.try_ask.new.self.front.seen.log c.args.start c.args.end c.try_ask.result c.try_ask.new.self.front.legal c.try_ask.ensures.asked)
