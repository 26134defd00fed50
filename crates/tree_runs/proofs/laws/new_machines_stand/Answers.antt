use Rattle.std.proofs.Common.{◌∙◌, map, arith}
use Rattle.std.proofs.lemmas.List.{length-map}
use Rattle.tree_runs.specs.Machines.{Stand}
use Rattle.tree_runs.proofs.Fresh.{fresh, nothing_at}
use Rattle.tree_runs.proofs.laws.new_machines_stand.Goals as goal

pub returns : goal.returns
returns g c =
    let m = g.M.Machine in
    let ms = c.args.machines.now in
    fresh m.outputs (map m.setup ms) c.args.parents.now c.requires.forest (length-map ms m.setup ∙ c.requires.each) (λ j within. nothing_at m.setup m.outputs g.met.M.Machine.nothing ms j (omega (arith, within, c.requires.each))) (Stand m.consumed ms)
