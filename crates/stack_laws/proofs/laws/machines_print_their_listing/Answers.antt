use Rattle.std.proofs.Common.{◌∙◌, map}
use Rattle.std.proofs.lemmas.List.{length-map}
use Rattle.stack_laws.proofs.Trees.{legal_prints, events_print, is_lawful}
use Rattle.stack_laws.proofs.laws.machines_print_their_listing.Goals as goal

pub returns-clause-legal : goal.returns-clause-legal
returns-clause-legal g c =
    let m = g.M.Machine in
    let laws = g.met.M.Machine in
    let ms = c.args.machines.now in
    let parents = c.args.parents.now in
    legal_prints m.outputs m.near (map m.setup ms) parents c.requires.forest (length-map ms m.setup ∙ c.requires.each)
    (is_lawful m.setup m.outputs m.near laws.nothing laws.prefix ms parents c.requires.forest)

pub returns-clause-events : goal.returns-clause-events
returns-clause-events g c =
    let m = g.M.Machine in
    let laws = g.met.M.Machine in
    let ms = c.args.machines.now in
    let parents = c.args.parents.now in
    events_print m.outputs m.near (map m.setup ms) parents c.requires.forest (length-map ms m.setup ∙ c.requires.each)
    (is_lawful m.setup m.outputs m.near laws.nothing laws.prefix ms parents c.requires.forest)
