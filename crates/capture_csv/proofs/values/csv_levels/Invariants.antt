use Rattle.std.proofs.Common.{◌≡◌, ◌+◌, length, drop}
use Rattle.csv.specs.Records.{fields_of}
use Rattle.capture_csv.proofs.FieldLevels.{Half}
use Rattle.capture_csv.proofs.values.csv_levels.Given as goal

abbrev pub invariant-loop-k : goal.invariant-loop-k
invariant-loop-k l = record {
  same : length l.levels ≡ length l.fn.levels;
  half : Half l.column (drop l.first (fields_of l.row)) l.levels l.k (drop (l.first + l.k) (fields_of l.row));
}
