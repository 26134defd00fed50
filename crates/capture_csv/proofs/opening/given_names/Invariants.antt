use Rattle.std.proofs.Common.{◌≡◌, map, take, drop}
use Rattle.csv.specs.Records.{fields_of}
use Rattle.capture_csv.specs.Records.{trimmed}
use Rattle.capture_csv.proofs.opening.given_names.Given as goal

abbrev pub invariant-loop-k : goal.invariant-loop-k
invariant-loop-k l = l.names ≡ map trimmed (take l.k (drop l.first (fields_of l.row)))
