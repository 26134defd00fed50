use Rattle.std.proofs.Common.{List, sym, subst, map, arith}
use Rattle.std.proofs.lemmas.List.{length-map}
use Rattle.stage_ring.specs.Link.{sent}
use Rattle.stage_run.specs.declared.input.HalfRun.{HalfRun}
use Rattle.stage_crew.specs.Fans.{Fans}
use Rattle.stage_crew.proofs.Handing.{fans_done}
use Rattle.stage_crew.proofs.pump.Pump.hand_on.Goals as goal

pub returns-then-now-len-clause-fans : goal.returns-then-now-len-clause-fans
returns-then-now-len-clause-fans c = λ all f.
    let p = c.args.self.now in
    subst (λ (k : List HalfRun). Fans (map sent c.hand_out-now.new.ends.items) k (record { child = 0; given = 0 }) all) (sym c.clear.ensures)
    (fans_done (c.hand_out-now.ensures.fans all (subst (λ (k : List HalfRun). Fans (map sent c.args.feeds.now.items) k p.cursor all) (sym c.list.ensures) f))
    (omega (arith, length-map c.hand_out-now.new.ends.items sent, c.hand_out-now.new.ends.ok.0, c.if-now-len.true, c.len.ensures)))
