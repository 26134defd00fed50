use Rattle.decoder_set.proofs.Held.{held_runs, still_own}
use Rattle.decoder_set.proofs.member.step_runs.Goals as goal

pub returns-clause-stepped : goal.returns-clause-stepped
returns-clause-stepped g c = λ whole is.
    let laws = g.met.M.Member.member in
    let old = c.args.machine.now in
    record {
      own = λ setup.
          still_own laws setup old c.step_runs.new.self whole is c.step_runs.ensures.setup;
      steps = λ kind values rate. held_runs laws kind values rate old whole is
          c.step_runs.new.self c.step_runs.ensures.setup _ c.step_runs.result.rest
          c.step_runs.new.into c.step_runs.ensures.steps;
    }
