use Rattle.std.proofs.Common.{ℕ, ◌≤◌, ◌<◌, ◌-◌, length, Some}
use Rattle.std.specs.List.{HoldsAt}
use Rattle.annot_merge.specs.Bounds.{Allows}
use Rattle.annot_merge.specs.Places.{GoesOn}
use Rattle.annot_merge.proofs.queue.front_of.Given as goal

abbrev pub invariant-loop-count : goal.invariant-loop-count
invariant-loop-count l = record {
  most : l.count ≤ length l.held;
  within : (k : ℕ) → k < l.count → HoldsAt (λ entry. Allows (Some l.limit.start) l.limit.instance entry) l.held k;
  before : (k : ℕ) → 0 < k → k < l.count → HoldsAt (λ entry. GoesOn l.others entry) l.held k;
}

abbrev pub decreases-loop-count : goal.decreases-loop-count
decreases-loop-count l = length l.held - l.count
