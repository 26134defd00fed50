use Rattle.decoder_set.proofs.Held.{held_floor, held_near}
use Rattle.decoder_set.proofs.member.floor.Goals as goal

pub returns : goal.returns
returns g c = λ whole is.
    let laws = g.met.M.Member.member in
    let held = c.args.machine.now in
    record {
      below = λ kind values rate.
          held_floor laws kind values rate held whole is c.args.above c.floor.result c.floor.ensures.floor;
      near = λ kind values rate.
          held_near laws kind values rate held whole is c.args.above c.floor.result c.floor.ensures.near;
    }
