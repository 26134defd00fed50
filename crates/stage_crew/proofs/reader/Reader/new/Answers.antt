use Rattle.std.proofs.Common.{◌∙◌, ap, length, map, refl}
use Rattle.stage_ring.specs.Link.{sent}
use Rattle.stage_crew.proofs.Reading.{fed_none, pumped_none}
use Rattle.stage_crew.proofs.reader.Reader.new.Goals as goal

pub returns-clause-fed : goal.returns-clause-fed
returns-clause-fed g c =
    let n = c.new-pump.ensures in
    let at = n.at.0 ∙ ap length c.runs.ensures in
    fed_none g.F.RunFeed _ (pumped_none (g.F.RunFeed.held c.args.feed.now) c.new-pump.result (map sent c.args.feeds.items) n.row.0 n.row.1 at n.at.1 n.going.1 c.requires.fresh) at n.going.0 n.going.1 refl c.args.feed.now refl
