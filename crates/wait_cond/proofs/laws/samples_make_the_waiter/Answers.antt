use Rattle.std.proofs.Common.{◌≡◌, ◌-◌, ◌≤◌, ◌^◌, ℕ, ap, sym, ◌∙◌}
use Rattle.std.specs.Coded.{le_prop}
use Rattle.std.proofs.Math.Nat.{ℕ_set}
use Rattle.std.specs.Prelude.{slice_index}
use mathlib.Core.HLevel.{Π_prop, is_prop→PathP}
use Rattle.wait_cond.specs.declared.scan.Waiter.{Waiter}
use Rattle.wait_cond.specs.Waiting.{alts_of}
use Rattle.wait_cond.proofs.laws.samples_make_the_waiter.Goals as goal

-- waiters with equal parts are equal
same_waiter : (one other : Waiter) → alts_of one ≡ alts_of other → one.consumed ≡ other.consumed → one.from ≡ other.from → one.last ≡ other.last → one ≡ other
same_waiter one other alts consumed from last = λ i. record {
  cond = alts i;
  consumed = consumed i;
  from = from i;
  last = last i;
  stop = is_prop→PathP (λ j. from j ≤ consumed j) (λ j. le_prop) one.stop other.stop i;
  few = is_prop→PathP (λ j. consumed j ≤ 2 ^ 60) (λ j. le_prop) one.few other.few i;
  unseen = is_prop→PathP (λ j. consumed j ≡ 0 → last j ≡ 0) (λ j. Π_prop (λ none. ℕ_set (last j) 0)) one.unseen other.unseen i;
}

pub returns-clause-one : goal.returns-clause-one
returns-clause-one c = λ one other list alts from a b.
    let consumed : one.consumed ≡ other.consumed = sym a.count ∙ b.count in
    same_waiter one other alts consumed from (a.last_is ∙ ap (λ (n : ℕ). slice_index list (n - 1)) consumed ∙ sym b.last_is)

pub returns-clause-every : goal.returns-clause-every
returns-clause-every c = λ waiter list count last none. record { count = count; stop = waiter.stop; last_is = last; none = none }
