use Rattle.decoder_core.proofs.AllCounted.{all_counted}
use Rattle.decoder_core.proofs.laws.packets_of_a_parent_count.Goals as goal

pub returns : goal.returns
returns g c =
    let m = g.M.Machine in
    let laws = g.met.M.Machine in
    let parent = c.args.parent.now in
    λ input. all_counted (m.gives (m.setup parent)) (m.outputs (m.setup parent) input) (laws.on_wire parent input) (laws.order parent input)
