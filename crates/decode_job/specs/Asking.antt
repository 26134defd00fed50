-- What is asked before a tree of decoders is run.
use Rattle.std.specs.Prelude.{ℕ, ◌≡◌, ◌≤◌, ◌<◌, List, [], Option, IfSome, length}
use Rattle.stack_words.specs.Stacks.{instances_in, stack_meaning}
use Rattle.stack_words.specs.declared.stack.Stack.{Stack}
use Rattle.tree_runs.specs.Passing.{IsForest}
use Rattle.tree_runs.specs.Taking.{IsTree}
use Rattle.annot_merge.specs.Held.{Stands, count_of, held_in}
use Rattle.annot_merge.specs.declared.merge.Merge.{Merge}

-- the binary data that a stack wants, if any, is that of one of so many instances
abbrev pub WantsOf : Stack → ℕ → Type 0
WantsOf stack count = IfSome (stack_meaning stack).binary (λ wanted. wanted.0 < count)

-- nothing was pushed to a merge
pub record IsNew (merge : Merge) : Type 0 where
  pub stands : Stands merge (λ _. []) []
  pub none : held_in merge ≡ []

-- so many machines on these places can decode under a stack: as many as it has instances, at most
-- 24 of them, each behind the one on whose packets it stands
pub record CanDecode (stack : Stack) (machines : ℕ) (parents : List (Option ℕ)) : Type 0 where
  pub forest : IsForest parents
  pub few : length parents ≤ 24
  pub each : machines ≡ length parents
  pub instances : length (instances_in stack) ≡ length parents
  pub wanted : WantsOf stack (length parents)

-- and what they give can be put into order by this merge
pub record CanList (stack : Stack) (machines : ℕ) (parents : List (Option ℕ)) (merge : Merge)
    : Type 0 where
  pub tree : IsTree parents machines (count_of merge)
  pub new : IsNew merge
  pub wanted : WantsOf stack (length parents)
