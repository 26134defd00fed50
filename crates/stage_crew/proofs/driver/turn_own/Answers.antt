use Rattle.std.proofs.Common.{set}
use Rattle.stage_crew.proofs.Each.{all_still, each_set, each_then}
use Rattle.stage_crew.proofs.driver.turn_own.Goals as goal

pub loop-place-init : goal.loop-place-init
loop-place-init g c = all_still g.S.Turns.goes_on g.met.S.Turns.still c.args.own.now

pub loop-place-preserved : goal.loop-place-preserved
loop-place-preserved g c =
    let s = g.S.Turns in
    let xs = c.loop-place.own.items in
    record {
      each = each_then s.goes_on g.met.S.Turns.on c.args.own.now.items xs (set xs c.loop-place.place c.turn_one.new.stage) c.loop-place.invariant.each
          (each_set s.goes_on g.met.S.Turns.still xs c.loop-place.place c.index_mut.result.now c.turn_one.new.stage c.index_mut.ensures.value c.turn_one.ensures);
      count = c.loop-place.invariant.count;
    }
