use Rattle.decoder_set.proofs.Held.{held_steps, held_stops, still_own}
use Rattle.decoder_set.proofs.member.step.Goals as goal

pub returns : goal.returns
returns g c = λ whole is.
    let laws = g.met.M.Member.member in
    let old = c.args.machine.now in
    record {
      own = λ setup. still_own laws setup old c.step.new.self whole is c.step.ensures.setup;
      steps = λ kind values rate. held_steps laws kind values rate old whole is c.step.new.self
          c.step.ensures.setup c.args.feed c.step.result c.step.new.into c.step.ensures.step;
      stops = λ kind values rate. held_stops laws kind values rate old whole is c.args.feed
          c.step.result c.step.ensures.stops;
    }
