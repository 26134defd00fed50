use Rattle.std.proofs.Common.{◌≡◌, ◌<◌, length}
use Rattle.list_cuts.specs.Groups.{after_groups}
use Rattle.list_cuts.proofs.groups.after_groups_of.Given as goal

abbrev pub invariant-loop-left : goal.invariant-loop-left
invariant-loop-left g l = (0 < l.size) × (after_groups l.size l.left ≡ after_groups l.size l.list)

abbrev pub decreases-loop-left : goal.decreases-loop-left
decreases-loop-left g l = length l.left
