use Rattle.std.proofs.Common.{subst}
use Rattle.decoder_set.specs.Opening.{Consumed}
use Rattle.decoder_set.specs.Owning.{IsOwn}
use Rattle.decoder_set.specs.declared.setup.Setup.{Setup}
use Rattle.decoder_set.proofs.Kept.{same_any}
use Rattle.decoder_set.proofs.keep.AnyDecoderKeep.load.Goals as goal

pub returns-clause-same : goal.returns-clause-same
returns-clause-same c = λ done. same_any c.args.self.now _ _ _ (c.load_any.ensures.same done)

pub returns-clause-none : goal.returns-clause-none
returns-clause-none c = λ done other same saved.
    let d = c.args.self.now in
    c.load_any.ensures.none done d.setup other.machine d.own (subst (λ (s : Setup). IsOwn s other.machine) same other.own) saved

pub returns-clause-stands : goal.returns-clause-stands
returns-clause-stands c = λ done other input same saved has.
    let d = c.args.self.now in
    c.load_any.ensures.stands done d.setup other.machine input d.own saved
    (subst (λ (s : Setup). Consumed s.kind s.values.given s.rate other.machine input) same has)
