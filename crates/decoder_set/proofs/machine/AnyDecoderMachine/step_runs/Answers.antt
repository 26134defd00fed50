use Rattle.decoder_set.proofs.machine.AnyDecoderMachine.step_runs.Goals as goal

pub returns-clause-steps : goal.returns-clause-steps
returns-clause-steps c =
    let s = c.args.self.now.setup in
    c.step_runs_any.ensures.stepped.steps s.kind s.values.given s.rate
