use Rattle.std.proofs.Common.{◌∙◌, ◌≡◌, ◌+◌, ◌<◌, ◌≤◌, ℕ, arith, length, map, refl, subst, true, false}
use Rattle.std.proofs.lemmas.List.{length-map, length-set}
use Rattle.std.proofs.lemmas.Option.{slice_get-get_or}
use Rattle.tree_runs.proofs.Ending.{keeps_at}
use Rattle.tree_runs.proofs.Lowing.{knows_next, tells_next, tells_nothing}
use Rattle.stack_direct.specs.Trees.{TreeKnows, parents_of, stand_in}
use Rattle.stack_direct.proofs.Trees.{still, still_then}
use Rattle.stack_direct.proofs.tree.Tree.tell_floors.Goals as goal

pub loop-place-init : goal.loop-place-init
loop-place-init g c =
    let m = g.M.Machine in
    let k = g.G.MarkTake in
    let tree = c.args.self.now in
    let ms = tree.machines.now in
    let count = length-map ms m.setup ∙ tree.each in
    record {
      all = c.requires.all;
      len = refl;
      known = λ samples stood n below. absurd (omega (arith, below));
      tells = tells_nothing m.outputs (map m.setup ms) tree.parents.now tree.forest count (λ j within. keeps_at m.setup m.outputs g.met.M.Machine.prefix ms j (omega (arith, within, tree.each))) m.near (stand_in m tree) (k.took c.args.take.now) c.args.floors.now;
      takes = still k c.args.take.now;
    }

pub floor_by-floor-requires-clause-at : goal.floor_by-floor-requires-clause-at
floor_by-floor-requires-clause-at g c = slice_get-get_or (parents_of c.args.self.now) c.loop-place.place _ c.loop-place-test.true

pub returns-in-Err-clause-tells : goal.returns-in-Err-clause-tells
returns-in-Err-clause-tells g c =
    let m = g.M.Machine in
    let k = g.G.MarkTake in
    let tree = c.args.self.now in
    let ms = tree.machines.now in
    let count = length-map ms m.setup ∙ tree.each in
    (c.loop-place.place + 1, λ e. absurd cc, tells_next m.outputs (map m.setup ms) tree.parents.now tree.forest count (λ j within. keeps_at m.setup m.outputs g.met.M.Machine.prefix ms j (omega (arith, within, tree.each))) m.near (stand_in m tree) false c.loop-place.floors c.loop-place.place c.floor_by-floor.result (let test = c.loop-place-test.true in let room = c.requires.room in let len = c.loop-place.invariant.len in omega (arith, test, room, len)) c.loop-place.invariant.tells c.in-Err.ensures.took c.floor_by-floor.ensures.low)

pub loop-place-preserved : goal.loop-place-preserved
loop-place-preserved g c =
    let m = g.M.Machine in
    let k = g.G.MarkTake in
    let tree = c.args.self.now in
    let ms = tree.machines.now in
    let count = length-map ms m.setup ∙ tree.each in
    let i = c.loop-place.invariant in
    let e = c.in-Ok.ensures in
    record {
      all = e.takes.instances ∙ i.all;
      len = length-set c.loop-place.floors c.loop-place.place c.floor_by-floor.result ∙ i.len;
      known = knows_next m.outputs (map m.setup ms) tree.parents.now tree.forest count (λ j within. keeps_at m.setup m.outputs g.met.M.Machine.prefix ms j (omega (arith, within, tree.each))) m.near (stand_in m tree) c.loop-place.floors c.loop-place.place c.floor_by-floor.result (let test = c.loop-place-test.true in let room = c.requires.room in let len = c.loop-place.invariant.len in omega (arith, test, room, len)) i.known (λ samples stood. (c.floor_by-floor.ensures.low samples stood, c.floor_by-floor.ensures.least samples stood));
      tells = tells_next m.outputs (map m.setup ms) tree.parents.now tree.forest count (λ j within. keeps_at m.setup m.outputs g.met.M.Machine.prefix ms j (omega (arith, within, tree.each))) m.near (stand_in m tree) true c.loop-place.floors c.loop-place.place c.floor_by-floor.result (let test = c.loop-place-test.true in let room = c.requires.room in let len = c.loop-place.invariant.len in omega (arith, test, room, len)) i.tells e.took c.floor_by-floor.ensures.low;
      takes = still_then k i.takes e.takes;
    }

pub returns-clause-known : goal.returns-clause-known
returns-clause-known g c =
    let end : c.loop-place.place ≡ length (parents_of c.args.self.now) = omega arith in
    subst (λ (n : ℕ). TreeKnows g.M.Machine c.args.self.now c.loop-place.floors n) end c.loop-place.invariant.known
