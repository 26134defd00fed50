use Rattle.std.proofs.Common.{◌∙◌, subst, get_or, List, [], ℕ}
use Rattle.csv.specs.Records.{fields_of}
use Rattle.capture_csv.specs.Records.{trimmed}
use Rattle.capture_csv.specs.Values.{LevelIs}
use Rattle.capture_csv.proofs.FieldLevels.{field_is, no_field, same_field}
use Rattle.capture_csv.proofs.values.csv_level.Goals as goal

pub returns-in-Some : goal.returns-in-Some
returns-in-Some c =
    let is = same_field c.in-Some.field.now (get_or (fields_of c.args.row.now) c.args.place []) (c.in-Some.ensures.value ∙ field_is (fields_of c.args.row.now) c.args.place c.requires) in
    subst (λ (l : List ℕ). LevelIs (trimmed l) c.level_in.result) is c.level_in.ensures

pub returns-in-None : goal.returns-in-None
returns-in-None c = absurd (no_field (get_or (fields_of c.args.row.now) c.args.place []) (c.in-None.ensures.value ∙ field_is (fields_of c.args.row.now) c.args.place c.requires))
