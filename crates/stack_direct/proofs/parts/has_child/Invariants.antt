use Rattle.std.proofs.Common.{◌≡◌, ◌<◌, ℕ, Some, slice_get}
use Rattle.stack_direct.proofs.parts.has_child.Given as goal

abbrev pub invariant-loop-parent : goal.invariant-loop-parent
invariant-loop-parent l = (j : ℕ) → j < l.parent-index → slice_get l.parents j ≡ Some (Some l.instance) → ⊥
