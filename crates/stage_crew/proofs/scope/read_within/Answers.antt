use Rattle.std.proofs.Common.{◌∙◌, ap, map, sym}
use Rattle.stage_ring.specs.Link.{known, received, tx_link}
use Rattle.stage_crew.proofs.Common.{front_none}
use Rattle.stage_crew.proofs.Driving.{drove, read_all}
use Rattle.stage_crew.proofs.scope.read_within.Goals as goal

pub returns-clause-runs : goal.returns-clause-runs
returns-clause-runs g c =
    let f = g.F.RunFeed in
    let t = g.G.MarkTake in
    let w = c.within_scope-take.ensures.runs in
    let s = c.settle.ensures in
    let rx = c.settle.new.rx in
    let fed = w.reads.goes.keeps c.args.feed.now c.new-reader.ensures.fed in
    let collects = w.drives.collects in
    record {
      drove = drove f t fed w.reads.is_over collects (λ none. sym s.rx.1 ∙ front_none (received rx) (known rx) (s.tied ∙ s.tx.2 ∙ none));
      reads = record {
        at_end = λ is. read_all f t fed w.reads.is_over collects (λ none. sym s.rx.1 ∙ front_none (received rx) (known rx) (s.tied ∙ s.tx.2 ∙ none)) (collects.closes is).0;
        origin = fed.origin;
      };
      takes = collects.takes;
      links = record { feeds = w.reads.goes.feeds ∙ ap (λ v. map tx_link v.items) c.new-reader.ensures.ends.0; marks = w.drives.marks };
      stages = w.stages;
    }
