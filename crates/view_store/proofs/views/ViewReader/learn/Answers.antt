use Rattle.view_store.proofs.Growing.{front_goes_on}
use Rattle.view_store.proofs.views.ViewReader.learn.Goals as goal

pub returns-then-self-front-clause-later : goal.returns-then-self-front-clause-later
returns-then-self-front-clause-later c = front_goes_on c.args.self.now.front.seen.log c.args.told.front.seen.log c.goes_on_from.ensures c.args.told.front.legal

pub returns-else-self-front-clause-told : goal.returns-else-self-front-clause-told
returns-else-self-front-clause-told c = front_goes_on c.args.told.front.seen.log c.args.self.now.front.seen.log c.goes_on_from-else-self-front.ensures c.args.self.now.front.legal
