use Rattle.std.proofs.Common.{◌∙◌, ◌∷◌, [], map, ap}
use Rattle.la_base.specs.declared.wires.Feed.{Feed}
use Rattle.la_base.specs.declared.wires.Feed.TheVariants.{From as FromFeed}
use Rattle.stage_ring.specs.Link.{sent}
use Rattle.stage_run.specs.Rows.{Kept}
use Rattle.stage_run.proofs.Serving.{served_more}
use Rattle.stage_run.proofs.outbox.Outbox.tell.Goals as goal

pub returns-then-not-is_empty-clause-children : goal.returns-then-not-is_empty-clause-children
returns-then-not-is_empty-clause-children c =
    let s = c.args.self.now in
    let e = c.push-then-not-is_empty.ensures in
    served_more s.place s.fed c.push-then-not-is_empty.new.self (FromFeed c.args.floor ∷ []) (map sent s.children.items) c.requires.fresh.place c.requires.fresh.fed (ap (λ (r : Kept Feed). r.at) e ∙ c.requires.fresh.fed) (ap (λ (r : Kept Feed). r.list) e)
