use Rattle.std.proofs.Common.{◌≤◌, ◌∙◌, Some, Option, ap, sym, subst}
use Rattle.decoder_core.specs.Packets.{IsFloorOver}
use Rattle.tree_runs.specs.Machines.{near_at, outputs_at}
use Rattle.stack_direct.proofs.Places.{setup_at}
use Rattle.stack_direct.proofs.tree.Tree.floor_over.Goals as goal

pub returns-clause-floor : goal.returns-clause-floor
returns-clause-floor g c =
    let m = g.M.Machine in
    let ms = c.args.self.now.machines.now in
    let d = c.index-machines-instance.result in
    let here = sym c.index-machines-instance.is in
    λ input stand.
    let at = setup_at m.setup ms c.args.instance d stand.0 ∙ ap (λ (x : g.row.M.Denot). Some (m.setup x)) here in
    subst (λ (o : Option g.row.M-Setup.Denot). IsFloorOver c.args.above (outputs_at m.outputs o) input c.floor.result) (sym at)
    (c.floor.ensures.floor input (subst (λ (x : g.row.M.Denot). m.consumed x input) here (stand.1 d)))

pub returns-clause-near : goal.returns-clause-near
returns-clause-near g c =
    let m = g.M.Machine in
    let ms = c.args.self.now.machines.now in
    let d = c.index-machines-instance.result in
    let here = sym c.index-machines-instance.is in
    λ input stand.
    let at = setup_at m.setup ms c.args.instance d stand.0 ∙ ap (λ (x : g.row.M.Denot). Some (m.setup x)) here in
    subst (λ (o : Option g.row.M-Setup.Denot). near_at m.near o input c.args.above ≤ c.floor.result) (sym at)
    (c.floor.ensures.near input (subst (λ (x : g.row.M.Denot). m.consumed x input) here (stand.1 d)))
