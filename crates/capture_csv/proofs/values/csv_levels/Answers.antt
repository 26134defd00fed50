use Rattle.std.proofs.Common.{◌∙◌, arith, length-set, length-drop}
use Rattle.csv.specs.Records.{fields_of}
use Rattle.capture_csv.proofs.FieldLevels.{csv_next, csv_fault}
use Rattle.capture_csv.proofs.values.csv_levels.Goals as goal

pub loop-k-preserved : goal.loop-k-preserved
loop-k-preserved c =
    let inv = c.loop-k.invariant in
    record {
      same = length-set c.loop-k.levels c.loop-k.k c.in-Some.level ∙ inv.same;
      half = csv_next (fields_of c.args.row.now) c.args.first c.args.column c.loop-k.k c.loop-k.levels inv.half (omega (arith, c.requires.count, c.loop-k-test.true, length-drop c.args.first (fields_of c.args.row.now))) c.in-Some.level c.in-Some.ensures;
    }

pub returns-in-None-clause-levels : goal.returns-in-None-clause-levels
returns-in-None-clause-levels c =
    let inv = c.loop-k.invariant in
    csv_fault (fields_of c.args.row.now) c.args.first c.args.column c.loop-k.k c.loop-k.levels inv.half (omega (arith, c.requires.count, c.loop-k-test.true, length-drop c.args.first (fields_of c.args.row.now))) c.in-None.ensures
