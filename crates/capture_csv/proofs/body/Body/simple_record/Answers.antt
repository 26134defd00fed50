use Rattle.std.proofs.Common.{◌∙◌, ap, sym, arith, length, map}
use Rattle.std.proofs.lemmas.List.{length-map}
use Rattle.capture_csv.specs.Fields.{fields_in}
use Rattle.capture_csv.specs.Records.{trimmed}
use Rattle.capture_csv.proofs.Lines.{columns_fault, fields_few, found_of, still_stands}
use Rattle.capture_csv.proofs.Plain.{line_read}
use Rattle.capture_csv.proofs.body.Body.simple_record.Goals as goal

pub columns-requires-clause-have : goal.columns-requires-clause-have
columns-requires-clause-have c =
    let text = c.args.text.now in
    let fields = c.requires.fields in
    omega (arith, fields.2, ap length (line_read text fields.0 c.requires.some fields.1), fields_few text, c.requires.few)

pub returns-then-have-self-clause-says : goal.returns-then-have-self-clause-says
returns-then-have-self-clause-says c = λ records given st held.
    let text = c.args.text.now in
    let fields = c.requires.fields in
    columns_fault c.args.self.now records given c.args.line _ text _ c.if-have-self.true (sym fields.2 ∙ sym (ap length (line_read text fields.0 c.requires.some fields.1)) ∙ sym (length-map (fields_in text) trimmed)) c.columns.ensures st held

pub find_simple-found-requires-clause-fields : goal.find_simple-found-requires-clause-fields
find_simple-found-requires-clause-fields c = let fields = c.requires.fields in (fields.0, fields.1, fields.2 ∙ c.if-have-self.false)

pub take-requires : goal.take-requires
take-requires c = record { early = c.find_simple-found.ensures.early }

pub returns-clause-says : goal.returns-clause-says
returns-clause-says c = λ records given st held.
    let s = c.args.self.now in
    let form = c.find_simple-found.ensures.form in
    let text = c.args.text.now in
    let fields = c.requires.fields in
    let read = line_read text fields.0 c.requires.some fields.1 in
    let count = fields.2 ∙ c.if-have-self.false in
    c.take.ensures.says s.levels.items (map trimmed (fields_in text)) records given
    (length-map (fields_in text) trimmed ∙ ap length read ∙ count ∙ sym form.want)
    (found_of s.mode _ _ _ _ _ form.mode (sym read) (c.find_simple-found.ensures.found fields.0 fields.1 count))
    (still_stands s c.find_simple-found.new.self records given form st) (form.held ∙ held)
