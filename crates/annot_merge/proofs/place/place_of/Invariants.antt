use Rattle.std.proofs.Common.{ℕ, ◌≡◌, ◌≤◌, ◌<◌, ◌-◌, List, length, true, false}
use Rattle.std.specs.List.{HoldsAt}
use Rattle.note_order.specs.Order.{is_before}
use Rattle.note_order.specs.declared.entry.Entry.{Entry}
use Rattle.annot_merge.proofs.place.place_of.Given as goal

-- the place is from `low` to `high`
pub record Between (entries : List Entry) (first : ℕ) (entry : Entry) (low high : ℕ) : Type 0 where
  pub from : first ≤ low
  pub order : low ≤ high
  pub most : high ≤ length entries
  pub behind : high < length entries → HoldsAt (λ other. is_before entry other ≡ true) entries high
  pub before : first < low → HoldsAt (λ other. is_before entry other ≡ false) entries (low - 1)

abbrev pub invariant-loop-back : goal.invariant-loop-back
invariant-loop-back l = record {
  between : Between l.entries l.first l.entry l.low l.high;
  some : 1 ≤ l.back;
}

abbrev pub decreases-loop-back : goal.decreases-loop-back
decreases-loop-back l = l.high - l.low

abbrev pub invariant-loop-low : goal.invariant-loop-low
invariant-loop-low l = Between l.entries l.first l.entry l.low l.high

abbrev pub decreases-loop-low : goal.decreases-loop-low
decreases-loop-low l = l.high - l.low
