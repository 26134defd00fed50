-- Outputs with the same numbers are equal.
use Rattle.std.proofs.Common.{◌≡◌, ℕ, ◌≤◌, subst}
use Rattle.std.proofs.Math.Bridge.{le_prop}
use Rattle.la_base.specs.declared.wires.Out.{Out}

-- where the order of the two places doesn't matter, the first may be given in two ways
pub same_span : (end : ℕ) (f : (start : ℕ) → start ≤ end → Out) (start other : ℕ) → start ≡ other → (order : start ≤ end) (also : other ≤ end) → f start order ≡ f other also
same_span end f start other same order = subst (λ (o : ℕ). (also : o ≤ end) → f start order ≡ f o also) same (λ also i. f start (le_prop order also i))
