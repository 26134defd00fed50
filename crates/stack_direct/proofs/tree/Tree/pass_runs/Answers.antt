use Rattle.std.proofs.Common.{◌≤◌, List, subst, arith}
use Rattle.std.specs.Result.{is_ok}
use Rattle.decoder_core.specs.Promises.{IsFloor}
use Rattle.tree_runs.specs.Machines.{near_of, whole_of}
use Rattle.tree_runs.proofs.Ending.{keeps_at}
use Rattle.tree_runs.proofs.Joining.{cut_off, floored}
use Rattle.stack_direct.proofs.tree.Tree.pass_runs.Goals as goal

pub returns-in-Ok-clause-feeds : goal.returns-in-Ok-clause-feeds
returns-in-Ok-clause-feeds g c =
    let m = g.M.Machine in
    let k = g.G.MarkTake in
    let all = c.in-Ok.ensures in
    let floor = c.floor_of-floor.result in
    floored (is_ok c.mark.result) (k.took c.mark.new.take) floor all.consumes c.mark.ensures.took
    (λ input b. subst (λ (l : List g.row.M-Setup.Denot). IsFloor (whole_of m.outputs l c.args.instance) input floor) all.same.setups (c.floor_of-floor.ensures.floor input b))
    (λ input b. subst (λ (l : List g.row.M-Setup.Denot). near_of m.near l c.args.instance input ≤ floor) all.same.setups (c.floor_of-floor.ensures.near input b))

pub returns-in-Err-clause-feeds : goal.returns-in-Err-clause-feeds
returns-in-Err-clause-feeds g c =
    let m = g.M.Machine in
    let ms = c.args.self.now.machines.now in
    cut_off (keeps_at m.setup m.outputs g.met.M.Machine.prefix ms c.args.instance (omega (arith, c.requires.within, c.args.self.now.each))) c.in-Err.ensures.consumes
