use Rattle.decoder_set.proofs.machine.AnyDecoderMachine.floor.Goals as goal

pub returns-clause-floor : goal.returns-clause-floor
returns-clause-floor c =
    let s = c.args.self.now.setup in
    c.floor_any.ensures.below s.kind s.values.given s.rate

pub returns-clause-near : goal.returns-clause-near
returns-clause-near c =
    let s = c.args.self.now.setup in
    c.floor_any.ensures.near s.kind s.values.given s.rate
