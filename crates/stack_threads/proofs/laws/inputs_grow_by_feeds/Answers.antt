use Rattle.std.proofs.Common.{◌∙◌, map}
use Rattle.std.proofs.lemmas.List.{length-map}
use Rattle.stack_laws.proofs.Trees.{is_lawful}
use Rattle.stack_threads.proofs.Exact.{inputs_grow}
use Rattle.stack_threads.proofs.laws.inputs_grow_by_feeds.Goals as goal

pub returns : goal.returns
returns g c =
    let m = g.M.Machine in
    let laws = g.met.M.Machine in
    let ms = c.args.machines.now in
    let parents = c.args.parents.now in
    inputs_grow m.outputs m.near (map m.setup ms) parents c.requires.forest (length-map ms m.setup ∙ c.requires.each)
    (is_lawful m.setup m.outputs m.near laws.nothing laws.prefix ms parents c.requires.forest)
