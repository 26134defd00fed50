use Rattle.std.proofs.Common.{ap, arith, length, take, drop, length-take}
use Rattle.std.proofs.lemmas.List.{length-map}
use Rattle.csv.specs.Records.{fields_of}
use Rattle.capture_csv.specs.Records.{trimmed}
use Rattle.capture_csv.proofs.opening.given_names.Goals as goal

pub push_name-requires-clause-room : goal.push_name-requires-clause-room
push_name-requires-clause-room c =
    let rest = take c.loop-k.k (drop c.args.first (fields_of c.args.row.now)) in
    omega (arith, ap length c.loop-k.invariant, length-map rest trimmed, length-take c.loop-k.k (drop c.args.first (fields_of c.args.row.now)), c.loop-k-test.true, c.saturating_sub-k-end.ensures, c.len.ensures, c.requires.few)
