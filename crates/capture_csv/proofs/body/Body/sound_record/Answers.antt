use Rattle.std.proofs.Common.{◌∙◌, ap, sym, map, length}
use Rattle.std.proofs.lemmas.List.{length-map}
use Rattle.capture_csv.specs.Fields.{fields_in}
use Rattle.capture_csv.specs.Records.{trimmed}
use Rattle.capture_csv.specs.Running.{SameButLevels}
use Rattle.capture_csv.proofs.Lines.{found_of, still_stands}
use Rattle.capture_csv.proofs.Plain.{line_read}
use Rattle.capture_csv.proofs.body.Body.sound_record.Goals as goal

pub returns-in-Ok-clause-says : goal.returns-in-Ok-clause-says
returns-in-Ok-clause-says c = λ records given st held.
    let s = c.args.self.now in
    let e = c.exchange.ensures.form in
    let f = c.find_simple-found.ensures.form in
    let form : SameButLevels s c.find_simple-found.new.self = record { mode = f.mode ∙ e.mode; rate = f.rate ∙ e.rate; want = f.want ∙ e.want; pins = f.pins ∙ e.pins; word = f.word ∙ e.word; span = f.span ∙ e.span; held = f.held ∙ e.held } in
    let text = c.args.text.now in
    let fields = c.in-Some.ensures in
    let read = line_read text fields.0 c.requires.some fields.1 in
    let count = fields.2 ∙ c.if-have-self.false in
    c.in-Ok.ensures.says s.levels.items (map trimmed (fields_in text)) records given
    (length-map (fields_in text) trimmed ∙ ap length read ∙ count ∙ sym form.want)
    (found_of c.exchange.new.self.mode _ _ _ _ _ f.mode (sym read) (c.find_simple-found.ensures.found fields.0 fields.1 (count ∙ sym e.want)))
    (still_stands s c.find_simple-found.new.self records given form st) (form.held ∙ held)
