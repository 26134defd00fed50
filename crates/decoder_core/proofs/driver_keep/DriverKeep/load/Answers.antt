use Rattle.std.proofs.Common.{rules, ◌∙◌, sym, subst, List, ℕ}
use Rattle.wait_cond.specs.Conds.{cond_alts}
use Rattle.wait_cond.specs.Waiting.{MadeOf}
use Rattle.wait_cond.specs.declared.alt.Alt.{Alt}
use Rattle.decoder_core.specs.laws.KeepLaws.{none_saves, stands_as, unfit_saves}
use Rattle.decoder_core.proofs.driver_keep.DriverKeep.load.Goals as goal

pub returns-then-not-fit-clause-none : goal.returns-then-not-fit-clause-none
returns-then-not-fit-clause-none g c = λ done other same s.
    unfit_saves c.as_slice.result.now c.args.saved.now.items c.as_slice.ensures.value other.machine other.waiter s c.in-Some.consumed c.in-Some.from c.in-Some.last c.in-Some.rest.now c.in-Some.ensures c.if-not-fit.ensures

pub returns-else-not-get-clause-stands : goal.returns-else-not-get-clause-stands
returns-else-not-get-clause-stands g c = λ done other input same s d.
    let l = g.L.LogicMachine in
    stands_as g.L.Configured.setup l.stands l.alts c.as_slice.result.now c.args.saved.now.items c.as_slice.ensures.value c.in-Some.rest.now c.in-Some.consumed c.in-Some.from c.in-Some.last
    c.in-Some.ensures c.get.new.self (c.get.ensures.only (search (rules, c.if-not-get.false))) c.made-self.result (c.made-self.ensures.alts ∙ c.cond.ensures) (c.made-self.ensures.from ∙ c.stop_before.ensures.stop)
    (λ list made. c.made-self.ensures.waits list
    (subst (λ (n : ℕ). MadeOf (cond_alts c.cond.result) c.in-Some.consumed n c.in-Some.last list) (sym c.stop_before.ensures.stop)
    (subst (λ (alts : List Alt). MadeOf alts c.in-Some.consumed c.in-Some.from c.in-Some.last list) (sym c.cond.ensures) made)))
    other.machine other.waiter input same s d

pub returns-in-None-clause-none : goal.returns-in-None-clause-none
returns-in-None-clause-none g c = λ done other same s.
    none_saves c.as_slice.result.now c.args.saved.now.items c.as_slice.ensures.value other.machine other.waiter s c.in-None.ensures
