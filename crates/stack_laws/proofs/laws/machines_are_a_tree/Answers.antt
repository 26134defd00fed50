use Rattle.stack_laws.proofs.Trees.{is_lawful}
use Rattle.stack_laws.proofs.laws.machines_are_a_tree.Goals as goal

pub returns : goal.returns
returns g c =
    let m = g.M.Machine in
    let laws = g.met.M.Machine in
    is_lawful m.setup m.outputs m.near laws.nothing laws.prefix c.args.machines.now c.args.parents.now c.requires.forest
