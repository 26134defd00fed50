use Rattle.std.proofs.Common.{◌∙◌}
use Rattle.capture_csv.proofs.Taking.{body_faulty, row_said, said}
use Rattle.capture_csv.proofs.body.Body.take_row.Goals as goal

pub returns-in-Some-clause-says : goal.returns-in-Some-clause-says
returns-in-Some-clause-says c = λ levels fields records given same found st held.
    let s = c.args.self.now in
    body_faulty s levels records given c.args.line fields _ st held
    (said s.mode s.rate.num s.rate.den s.want records st.taken c.args.line fields st.read same ∙ (row_said s.mode s.rate.num s.rate.den c.args.line st.taken fields s.levels.items c.args.found c.requires found).0 c.in-Some.column c.in-Some.is)

pub returns-in-None-clause-says : goal.returns-in-None-clause-says
returns-in-None-clause-says c = c.put_row.ensures.says c.args.line c.args.found c.in-None.is
