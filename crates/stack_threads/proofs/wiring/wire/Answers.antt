use Rattle.std.proofs.Common.{◌+◌, List, Option, ℕ, None, get_or, take, sym, subst}
use Rattle.std.proofs.lemmas.List.{take_more}
use Rattle.tree_runs.specs.Passing.{IsForest}
use Rattle.stack_threads.specs.Wires.{AreWired}
use Rattle.stack_threads.proofs.Joining.{forest_front, wired_next}
use Rattle.stack_threads.proofs.wiring.wire.Goals as goal

pub loop-parent-preserved : goal.loop-parent-preserved
loop-parent-preserved c =
    let ps = c.args.parents.now in
    let i = c.loop-parent.parent-index in
    let parent = get_or ps i None in
    let more = take_more ps i None c.loop-parent-test.true in
    subst (λ (l : List (Option ℕ)). AreWired c.args.rooms l c.add.new.wires) (sym more)
    (wired_next c.args.rooms (take i ps) parent c.loop-parent.wires c.add.new.wires (subst IsForest more (forest_front ps (i + 1) c.requires.forest)) c.loop-parent.invariant c.in_ok-add.ensures)
