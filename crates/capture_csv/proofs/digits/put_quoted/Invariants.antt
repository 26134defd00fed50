use Rattle.std.proofs.Common.{◌≡◌, ◌*◌, ◌-◌, length, take, true}
use Rattle.capture_csv.specs.Digits.{digits_of}
use Rattle.capture_csv.proofs.digits.put_quoted.Given as goal

abbrev pub invariant-loop-k : goal.invariant-loop-k
invariant-loop-k l = record {
  same : length l.levels ≡ length l.fn.levels;
  so_far : take (4 * l.k - 1) l.text ≡ digits_of true (take l.k l.levels);
}
