use Rattle.std.proofs.Common.{refl}
use Rattle.stage_crew.proofs.Pumping.{pumps_ask}
use Rattle.stage_crew.proofs.pump.Pump.ask.Goals as goal

pub returns : goal.returns
returns g c = λ sents place.
    let e = c.next_runs-more.ensures in
    pumps_ask g.F.RunFeed c.args.feed.now c.args.self.now _ sents c.next_runs-more.new.self c.next_runs-more.result c.requires.free c.requires.all c.requires.going e.more e.gives e.origin refl refl refl refl refl refl
