use Rattle.std.proofs.Common.{refl}
use Rattle.stage_crew.proofs.Reading.{fed_on, obeys_on}
use Rattle.stage_crew.proofs.reader.Reader.read.Goals as goal

pub returns : goal.returns
returns g c =
    let e = c.go_on.ensures in
    record {
      lent = refl;
      feeds = e.links;
      stop = refl;
      told = refl;
      keeps = fed_on g.F.RunFeed c.args.self.now _ e.pumps refl refl;
      obeys = obeys_on g.F.RunFeed c.args.self.now _ e.pumps refl;
    }
