use Rattle.std.proofs.Common.{◌∙◌, ◌<◌, ap, sym, arith, get_or, length, List, [], ℕ}
use Rattle.std.proofs.lemmas.Bool.{eqb-false, eqb-true}
use Rattle.csv.specs.Records.{fields_of}
use Rattle.capture_csv.specs.Records.{trimmed}
use Rattle.capture_csv.specs.Times.{time_in}
use Rattle.capture_csv.proofs.FieldLevels.{field_is, no_field, same_field}
use Rattle.capture_csv.proofs.Finding.{time_first, time_none}
use Rattle.capture_csv.proofs.steps.csv_time.Goals as goal

pub returns-then-is_empty-clause-time : goal.returns-then-is_empty-clause-time
returns-then-is_empty-clause-time c = time_none (fields_of c.args.row.now) (eqb-true (length (fields_of c.args.row.now)) 0 (sym c.is_empty.ensures ∙ c.if-is_empty.true))

pub returns-in-Some-clause-time : goal.returns-in-Some-clause-time
returns-in-Some-clause-time c =
    let fields = fields_of c.args.row.now in
    let other = eqb-false (length fields) 0 (sym c.is_empty.ensures ∙ c.if-is_empty.false) in
    let some : 0 < length fields = omega (arith, other) in
    let is = same_field c.in-Some.field.now (get_or fields 0 []) (c.in-Some.ensures.value ∙ field_is fields 0 some) in
    c.time_of.ensures.time ∙ ap time_in c.trimmed.ensures ∙ ap (λ (l : List ℕ). time_in (trimmed l)) is ∙ time_first fields some

pub returns-in-None-clause-time : goal.returns-in-None-clause-time
returns-in-None-clause-time c =
    let fields = fields_of c.args.row.now in
    let other = eqb-false (length fields) 0 (sym c.is_empty.ensures ∙ c.if-is_empty.false) in
    let some : 0 < length fields = omega (arith, other) in
    absurd (no_field (get_or fields 0 []) (c.in-None.ensures.value ∙ field_is fields 0 some))
