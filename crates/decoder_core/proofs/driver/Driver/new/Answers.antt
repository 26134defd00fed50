use Rattle.std.proofs.Common.{◌∙◌, [], sym, ap, subst, List, ℕ, take}
use Rattle.wait_cond.specs.Waiting.{Waits}
use Rattle.decoder_core.specs.Inputs.{counted_samples}
use Rattle.decoder_core.proofs.Counting.{counted_empty}
use Rattle.decoder_core.proofs.driver.Driver.new.Goals as goal

pub returns-clause-stands : goal.returns-clause-stands
returns-clause-stands g c =
    let none = ap (λ (l : List ℕ). take 0 l) counted_empty in
    record {
      waits = subst (λ (l : List ℕ). Waits c.new-waiter.result l) (sym counted_empty) c.new-waiter.ensures.new;
      machine_stands = subst (λ (n : ℕ). g.L.LogicMachine.stands c.args.machine (take n (counted_samples []))) (sym c.new-waiter.ensures.from) c.requires;
      cond = c.new-waiter.ensures.alts ∙ c.cond.ensures;
    }
