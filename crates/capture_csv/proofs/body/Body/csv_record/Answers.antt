use Rattle.std.proofs.Common.{◌∙◌, ap, sym, arith, length, map}
use Rattle.std.proofs.lemmas.List.{length-map}
use Rattle.capture_csv.specs.Fields.{fields_in}
use Rattle.capture_csv.specs.Records.{trimmed}
use Rattle.capture_csv.proofs.Lines.{columns_fault, fields_few, found_of, still_stands}
use Rattle.capture_csv.proofs.body.Body.csv_record.Goals as goal

pub columns-requires-clause-have : goal.columns-requires-clause-have
columns-requires-clause-have c = omega (arith, c.len-then-len-self.ensures, ap length c.in-Ok.ensures, fields_few c.args.text.now, c.requires.few)

pub returns-then-len-self-clause-says : goal.returns-then-len-self-clause-says
returns-then-len-self-clause-says c = λ records given st held.
    let text = c.args.text.now in
    columns_fault c.args.self.now records given c.args.line _ text _ (λ e. c.if-len-self.true (c.len.ensures ∙ sym c.len-then-len-self.ensures ∙ e)) (c.len-then-len-self.ensures ∙ ap length c.in-Ok.ensures ∙ sym (length-map (fields_in text) trimmed)) c.columns.ensures st held

pub take-requires : goal.take-requires
take-requires c = record { early = c.find_csv-found.ensures.early }

pub returns-clause-says : goal.returns-clause-says
returns-clause-says c = λ records given st held.
    let s = c.args.self.now in
    let form = c.find_csv-found.ensures.form in
    let fields = fields_in c.args.text.now in
    c.take.ensures.says s.levels.items (map trimmed fields) records given
    (length-map fields trimmed ∙ ap length (sym c.in-Ok.ensures) ∙ sym c.len.ensures ∙ c.if-len-self.false ∙ sym form.want)
    (found_of s.mode _ _ _ _ _ form.mode c.in-Ok.ensures c.find_csv-found.ensures.found)
    (still_stands s c.find_csv-found.new.self records given form st) (form.held ∙ held)
