use Rattle.std.proofs.Common.{◌∙◌, length, arith}
use Rattle.std.proofs.lemmas.List.{length-map}
use Rattle.tree_runs.proofs.Ending.{keeps_at}
use Rattle.tree_runs.proofs.Fresh.{nothing_at}
use Rattle.decode_job.proofs.Together.{list_the_whole}
use Rattle.decode_job.proofs.laws.parts_list_the_whole.Goals as goal

pub returns : goal.returns
returns g c = λ accepted pieces.
    let m = g.M.Machine in
    let ms = c.args.machines.now in
    let each = c.requires.each in
    list_the_whole m.outputs _ c.args.parents.now c.requires.forest (length-map ms m.setup ∙ each)
    (λ k low. nothing_at m.setup m.outputs g.met.M.Machine.nothing ms k (omega (arith, low, each)))
    (λ k low. keeps_at m.setup m.outputs g.met.M.Machine.prefix ms k (omega (arith, low, each))) accepted pieces
