use Rattle.std.proofs.Common.{◌≡◌, ◌+◌, ◌-◌, ◌*◌, ◌∷◌, [], true, length, take}
use Rattle.decoder_core.specs.Inputs.{Pack}
use Rattle.tree_runs.specs.Passing.{Hands, Gives, first_on, up_to}
use Rattle.stack_direct.specs.Trees.{GoesStill, SameTree, TakesAll, defined_in, handed_of, parents_of, stand_in}
use Rattle.stack_direct.proofs.tree.Tree.+tree.Given as goal

abbrev pub decreases-hand : goal.decreases-hand
decreases-hand g l = 10 * (length (parents_of l.self.now) + 1 - first_on l.above)

-- more where room is made first
abbrev pub decreases-pass : goal.decreases-pass
decreases-pass g l = 10 * (length (parents_of l.self.now) - l.instance) + 5 + 2 * (1 - length l.rooms.now)

abbrev pub decreases-pass_anew : goal.decreases-pass_anew
decreases-pass_anew g l = 10 * (length (parents_of l.self.now) - l.instance) + 6

abbrev pub decreases-pass_in : goal.decreases-pass_in
decreases-pass_in g l = 10 * (length (parents_of l.self.now) - l.instance) + 4

abbrev pub decreases-give : goal.decreases-give
decreases-give g l = 10 * (length (parents_of l.self.now) - l.instance) + 3

abbrev pub decreases-hand_each : goal.decreases-hand_each
decreases-hand_each g l = 10 * (length (parents_of l.self.now) - l.instance) + 2

abbrev pub decreases-hand_one : goal.decreases-hand_one
decreases-hand_one g l = 10 * (length (parents_of l.self.now) - l.instance) + 1

abbrev pub invariant-hand_each-loop-out : goal.invariant-hand_each-loop-out
invariant-hand_each-loop-out g l =
    let m = g.M.Machine in
    let k = g.G.MarkTake in
    record {
      all : TakesAll k l.self l.take;
      count : length (parents_of l.self) ≡ length (parents_of l.fn.self);
      same : SameTree m l.fn.self l.self;
      gives : Gives true (defined_in m l.fn.self) (stand_in m l.fn.self) (stand_in m l.self) (parents_of l.fn.self) (k.took l.fn.take) (k.took l.take) l.instance (handed_of (take l.out-index l.outs));
      takes : GoesStill k l.fn.take l.take;
    }

abbrev pub invariant-hand-loop-place : goal.invariant-hand-loop-place
invariant-hand-loop-place g l =
    let m = g.M.Machine in
    let k = g.G.MarkTake in
    record {
      all : TakesAll k l.self l.take;
      count : length (parents_of l.self) ≡ length (parents_of l.fn.self);
      same : SameTree m l.fn.self l.self;
      hands : Hands true (defined_in m l.fn.self) (stand_in m l.fn.self) (stand_in m l.self) (parents_of l.fn.self) (k.took l.fn.take) (k.took l.take) l.above (up_to l.place (Pack l.packet ∷ [])) (up_to l.place ((Pack l.packet ∷ []) ∷ []));
      takes : GoesStill k l.fn.take l.take;
    }
