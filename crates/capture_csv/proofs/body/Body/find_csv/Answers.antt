use Rattle.std.proofs.Common.{◌∙◌, ap, sym, subst, length, map, drop, List, Bool}
use Rattle.csv.specs.Records.{fields_of}
use Rattle.capture_csv.specs.Records.{trimmed}
use Rattle.capture_csv.specs.Values.{LevelsRead}
use Rattle.capture_csv.proofs.Finding.{csv_found, written}
use Rattle.capture_csv.proofs.body.Body.find_csv.Goals as goal

pub returns-in-Times-clause-found : goal.returns-in-Times-clause-found
returns-in-Times-clause-found c =
    let s = c.args.self.now in
    let fields = fields_of c.args.row.now in
    let len = c.deref_mut-in-Times.ensures.len in
    let same = ap length c.deref_mut-in-Times.ensures.value in
    let new = written s.levels.len c.csv_levels-in-Times.new.levels s.levels.items (c.csv_levels-in-Times.ensures.len ∙ same) (sym same ∙ len) in
    csv_found s.mode fields _ _ c.in-Times.is c.csv_time.ensures.time
    (subst (λ (l : List Bool). LevelsRead 2 (map trimmed (drop 1 fields)) l c.csv_levels-in-Times.result) (sym new) c.csv_levels-in-Times.ensures.levels)
