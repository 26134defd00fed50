use Rattle.decoder_set.proofs.Held.{held_reaches, held_steps, still_own}
use Rattle.decoder_set.proofs.member.step_run.Goals as goal

pub returns : goal.returns
returns g c = λ whole is.
    let laws = g.met.M.Member.member in
    let old = c.args.machine.now in
    record {
      own = λ setup.
          still_own laws setup old c.step_run.new.self whole is c.step_run.ensures.setup;
      steps = λ kind values rate. held_steps laws kind values rate old whole is
          c.step_run.new.self c.step_run.ensures.setup _ _ c.step_run.new.into
          c.step_run.ensures.step;
      stops = λ kind values rate. held_reaches laws kind values rate old whole is _ _
          c.step_run.ensures.stops;
    }
