use Rattle.std.proofs.Common.{◌∙◌, map}
use Rattle.stack_laws.specs.Feeds.{feeds_of}
use Rattle.stage_ring.specs.Link.{sent}
use Rattle.stage_run.proofs.Serving.{served_more}
use Rattle.stage_run.proofs.outbox.Outbox.keep.Goals as goal

pub returns-then-not-is_empty-clause-children : goal.returns-then-not-is_empty-clause-children
returns-then-not-is_empty-clause-children c =
    let s = c.args.self.now in
    let e = c.keep_feeds.ensures in
    served_more s.place s.fed c.keep_feeds.new.feeds (feeds_of c.args.outs.now) (map sent s.children.items) c.requires.fresh.place c.requires.fresh.fed (e.at ∙ c.requires.fresh.fed) e.list
