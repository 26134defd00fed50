use Rattle.std.proofs.Common.{◌≡◌, ◌∙◌, ◌++◌, ◌∷◌, [], ap, subst, get_or, List, ℕ, OnOk}
use Rattle.csv.specs.Records.{fields_of}
use Rattle.capture_csv.specs.Records.{trimmed}
use Rattle.capture_csv.proofs.FieldLevels.{field_is, no_field, same_field}
use Rattle.capture_csv.proofs.opening.push_name.Goals as goal

pub returns : goal.returns
returns c =
    let is = same_field c.in-Some.field.now (get_or (fields_of c.args.row.now) c.args.place []) (c.in-Some.ensures.value ∙ field_is (fields_of c.args.row.now) c.args.place c.requires.within) in
    subst (λ (l : List ℕ). OnOk c.push.result (c.push.new.self ≡ c.args.names.now ++ l ∷ [])) (c.trimmed.ensures ∙ ap trimmed is) c.push.ensures.ok

pub unreachable-requires : goal.unreachable-requires
unreachable-requires c = no_field (get_or (fields_of c.args.row.now) c.args.place []) (c.in-None.ensures.value ∙ field_is (fields_of c.args.row.now) c.args.place c.requires.within)
