use Rattle.std.proofs.Common.{◌∙◌, length, arith}
use Rattle.std.proofs.lemmas.List.{length-map}
use Rattle.tree_runs.proofs.Ending.{keeps_at}
use Rattle.tree_runs.proofs.Fresh.{nothing_at}
use Rattle.check_laws.proofs.Together.{together}
use Rattle.check_laws.proofs.laws.parts_are_the_whole.Goals as goal

pub returns : goal.returns
returns g c = λ pieces j within.
    let m = g.M.Machine in
    let ms = c.args.machines.now in
    let each = c.requires.each in
    together m.outputs _ c.args.parents.now c.requires.forest (length-map ms m.setup ∙ each)
    (λ k low. nothing_at m.setup m.outputs g.met.M.Machine.nothing ms k (omega (arith, low, each)))
    (λ k low. keeps_at m.setup m.outputs g.met.M.Machine.prefix ms k (omega (arith, low, each))) pieces j within
