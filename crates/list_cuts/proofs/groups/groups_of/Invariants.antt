use Rattle.std.proofs.Common.{◌≡◌, ◌<◌, ◌++◌, map, length}
use Rattle.list_cuts.specs.Groups.{groups}
use Rattle.list_cuts.proofs.groups.groups_of.Given as goal

abbrev pub invariant-loop-rest : goal.invariant-loop-rest
invariant-loop-rest g l = (0 < l.size) × (map (λ group. group.items) l.lists.items ++ groups l.size l.rest ≡ groups l.size l.list)

abbrev pub decreases-loop-rest : goal.decreases-loop-rest
decreases-loop-rest g l = length l.rest
