use Rattle.std.proofs.Common.{ap, length, refl, true}
use Rattle.stage_crew.proofs.Pumping.{pumps_ask, pumps_stay}
use Rattle.stage_crew.proofs.pump.Pump.look.Goals as goal

pub returns-then-held_runs-clause-pumps : goal.returns-then-held_runs-clause-pumps
returns-then-held_runs-clause-pumps g c = λ sents place.
    let f = g.F.RunFeed in
    let e = c.if-held_runs.ensures in
    pumps_ask f c.args.feed.now c.args.self.now _ sents c.held_runs.new.self true c.requires.free c.requires.all c.requires.going (e.more refl) e.gives e.origin refl c.requires.going refl refl refl refl

pub returns-clause-pumps : goal.returns-clause-pumps
returns-clause-pumps g c = λ sents place.
    let f = g.F.RunFeed in
    let e = c.if-held_runs.ensures in
    pumps_stay f c.args.feed.now c.args.self.now _ sents c.held_runs.new.self c.requires.free c.requires.all c.requires.going e.gives.0 e.origin (e.none refl) (ap length c.runs.ensures) refl refl refl refl refl
