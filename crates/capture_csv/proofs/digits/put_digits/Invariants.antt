use Rattle.std.proofs.Common.{◌≡◌, ◌*◌, ◌-◌, length, take, false}
use Rattle.capture_csv.specs.Digits.{digits_of}
use Rattle.capture_csv.proofs.digits.put_digits.Given as goal

abbrev pub invariant-loop-k : goal.invariant-loop-k
invariant-loop-k l = record {
  same : length l.levels ≡ length l.fn.levels;
  so_far : take (2 * l.k - 1) l.text ≡ digits_of false (take l.k l.levels);
}
