use Rattle.std.proofs.Common.{refl}
use Rattle.capture_csv.proofs.Repeating.{rows_go}
use Rattle.capture_csv.proofs.reader.CsvReader.again.Goals as goal

pub returns-clause-given : goal.returns-clause-given
returns-clause-given c =
    let again = c.again.ensures in
    rows_go c.args.self.now _ c.again.result c.if-not-self.false c.requires.held refl refl refl again.gave again.spent again.taken
