use Rattle.std.proofs.Common.{◌≡◌, ◌≤◌, take}
use Rattle.stack_threads.specs.Trees.{on_place}
use Rattle.stack_threads.proofs.settle.place_among.Given as goal

abbrev pub invariant-loop-before : goal.invariant-loop-before
invariant-loop-before l =
    (l.place ≡ on_place l.parent (take l.before l.parents)) × (l.place ≤ l.before)
