use Rattle.std.proofs.Common.{◌≤◌, ◌∙◌, Option, ℕ, Some, ap, subst, sym, arith, map, slice_get}
use Rattle.std.proofs.lemmas.List.{length-map}
use Rattle.tree_runs.specs.Lows.{floor_in}
use Rattle.tree_runs.specs.Machines.{near_at}
use Rattle.tree_runs.specs.Runs.{above_by, input_on}
use Rattle.tree_runs.proofs.Ending.{keeps_at}
use Rattle.tree_runs.proofs.Lowing.{child_low, root_low}
use Rattle.stack_direct.specs.Trees.{parents_of}
use Rattle.stack_direct.proofs.tree.Tree.floor_by.Goals as goal

pub returns-in-Some : goal.returns-in-Some
returns-in-Some g c =
    let m = g.M.Machine in
    let tree = c.args.self.now in
    let ms = tree.machines.now in
    let at = c.requires.at ∙ ap (λ (o : Option ℕ). Some o) c.in-Some.is in
    record {
      low = λ samples stood.
          child_low m.outputs (map m.setup ms) tree.parents.now tree.forest (length-map ms m.setup ∙ tree.each) (λ j within. keeps_at m.setup m.outputs g.met.M.Machine.prefix ms j (omega (arith, within, tree.each)))
          samples c.args.instance c.in-Some.parent _ c.floor_over.result at c.requires.within
          (c.requires.known samples stood c.in-Some.parent (tree.forest c.args.instance c.in-Some.parent at)).0
          (c.floor_over.ensures.floor _ (stood c.args.instance c.requires.within));
      least = λ samples stood.
          subst (λ (o : Option (Option ℕ)). near_at m.near (slice_get (map m.setup ms) c.args.instance) (input_on m.outputs (map m.setup ms) (parents_of tree) samples c.args.instance) (above_by (floor_in c.args.floors.now) o) ≤ c.floor_over.result) (sym at)
          (c.floor_over.ensures.near _ (stood c.args.instance c.requires.within));
    }

pub returns-in-None : goal.returns-in-None
returns-in-None g c =
    let m = g.M.Machine in
    let tree = c.args.self.now in
    let ms = tree.machines.now in
    let at = c.requires.at ∙ ap (λ (o : Option ℕ). Some o) c.in-None.is in
    record {
      low = λ samples stood.
          root_low m.outputs (map m.setup ms) tree.parents.now tree.forest (length-map ms m.setup ∙ tree.each) (λ j within. keeps_at m.setup m.outputs g.met.M.Machine.prefix ms j (omega (arith, within, tree.each)))
          samples c.args.instance c.floor_over-in-None.result at
          (c.floor_over-in-None.ensures.floor _ (stood c.args.instance c.requires.within));
      least = λ samples stood.
          subst (λ (o : Option (Option ℕ)). near_at m.near (slice_get (map m.setup ms) c.args.instance) (input_on m.outputs (map m.setup ms) (parents_of tree) samples c.args.instance) (above_by (floor_in c.args.floors.now) o) ≤ c.floor_over-in-None.result) (sym at)
          (c.floor_over-in-None.ensures.near _ (stood c.args.instance c.requires.within));
    }
