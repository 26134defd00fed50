use Rattle.decoder_set.proofs.machine.AnyDecoderMachine.step.Goals as goal

pub returns-clause-step : goal.returns-clause-step
returns-clause-step c =
    let s = c.args.self.now.setup in
    c.step_any.ensures.steps s.kind s.values.given s.rate

pub returns-clause-stops : goal.returns-clause-stops
returns-clause-stops c =
    let s = c.args.self.now.setup in
    c.step_any.ensures.stops s.kind s.values.given s.rate
