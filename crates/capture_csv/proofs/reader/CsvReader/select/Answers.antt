use Rattle.std.proofs.Common.{refl}
use Rattle.capture_csv.proofs.Selecting.{selected}
use Rattle.capture_csv.proofs.reader.CsvReader.select.Goals as goal

pub returns-clause-stands : goal.returns-clause-stands
returns-clause-stands c = λ bytes told stands.
    let s = c.args.self.now in
    let e = c.select.ensures in
    selected s _ bytes told refl e.mode refl e.rate e.want refl e.stands s.phase stands
