use Rattle.std.proofs.Common.{◌≡◌, [], List, length, true, sym, ◌∙◌, ap, subst, arith}
use Rattle.std.proofs.lemmas.Bool.Decides.{nat_tests}
use Rattle.std.proofs.lemmas.List.{nil_from_length}
use Rattle.la_base.specs.declared.wires.Out.{Out}
use Rattle.tree_runs.specs.Passing.{Gives}
use Rattle.stack_direct.specs.Trees.{defined_in, parents_of, stand_in}
use Rattle.tree_runs.proofs.Joining.{gives_nothing}
use Rattle.stack_direct.proofs.tree.Tree.give_all.Goals as goal

pub returns-then-is_empty-clause-gives : goal.returns-then-is_empty-clause-gives
returns-then-is_empty-clause-gives g c =
    let m = g.M.Machine in
    let k = g.G.MarkTake in
    let by = defined_in m c.args.self.now in
    let now = stand_in m c.args.self.now in
    let took = k.took c.args.take.now in
    let none : length c.list.result.now ≡ 0 = grind (arith, nat_tests) in
    let empty : c.args.outs.now ≡ [] = nil_from_length c.args.outs.now (sym (ap length c.list.ensures.list) ∙ none) in
    subst (λ (l : List Out). Gives true by now now (parents_of c.args.self.now) took took c.args.instance l) (sym empty) (gives_nothing by now (parents_of c.args.self.now) took c.args.instance)
