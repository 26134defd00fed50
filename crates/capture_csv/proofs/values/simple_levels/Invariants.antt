use Rattle.std.proofs.Common.{◌≡◌, ◌≤◌, ℕ, List, length}
use Rattle.capture_csv.specs.Simple.{IsSimpleLine}
use Rattle.capture_csv.proofs.FieldLevels.{ReadTo}
use Rattle.capture_csv.proofs.values.simple_levels.Given as goal

abbrev pub invariant-loop-k : goal.invariant-loop-k
invariant-loop-k l = record {
  within : l.from ≤ length l.text;
  same : length l.levels ≡ length l.fn.levels;
  read : (fields : List (List ℕ)) → IsSimpleLine l.text fields → length fields ≡ length l.fn.levels → ReadTo l.text l.from l.column fields l.levels l.k;
}
