use Rattle.std.proofs.Common.{◌<◌, length, arith}
use Rattle.list_cuts.proofs.Loops.{events_more}
use Rattle.list_cuts.proofs.neighbours.events_of.Goals as goal

pub loop-place-preserved : goal.loop-place-preserved
loop-place-preserved g c =
    let s = c.loop-place in
    let item = c.index-list-place in
    let within : s.place < length c.args.list.now = omega arith in
    events_more c.args.list.now s.place item.result within item.is (g.G.Gives.gives c.args.giver.now) s.events.items c.add.new.events.items s.before s.invariant c.in_ok-add.ensures
