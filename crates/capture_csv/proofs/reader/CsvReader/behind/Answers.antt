use Rattle.std.proofs.Common.{◌∙◌, ap, sym, subst, arith, refl, length, map, List, ℕ}
use Rattle.std.proofs.lemmas.List.{length-map}
use Rattle.csv.specs.Reading.{strip_bom}
use Rattle.byte_feed.specs.LineReader.{text_of}
use Rattle.capture_csv.specs.Csv.{names_by}
use Rattle.capture_csv.specs.Fields.{fields_in}
use Rattle.capture_csv.specs.Opening.{StartsAs}
use Rattle.capture_csv.specs.Records.{trimmed, without_marks}
use Rattle.capture_csv.specs.Running.{row_of}
use Rattle.capture_csv.proofs.Making.{channels_len}
use Rattle.capture_csv.proofs.Trimming.{bare_line, marks_len}
use Rattle.capture_csv.proofs.reader.CsvReader.behind.Goals as goal

pub fields_of_line-requires : goal.fields_of_line-requires
fields_of_line-requires c = ap (λ (l : List ℕ). strip_bom l) c.without_marks-text.ensures ∙ bare_line c.text.result.now ∙ sym c.without_marks-text.ensures

pub begin-requires-clause-few : goal.begin-requires-clause-few
begin-requires-clause-few c = omega (arith, ap length c.without_marks-text.ensures, marks_len c.text.result.now, c.text.ensures.room)

pub begin-requires-clause-bare : goal.begin-requires-clause-bare
begin-requires-clause-bare c = ap (λ (l : List ℕ). strip_bom l) c.without_marks-text.ensures ∙ bare_line c.text.result.now ∙ sym c.without_marks-text.ensures

pub returns-in-Ok-begin : goal.returns-in-Ok-begin
returns-in-Ok-begin c =
    let text = c.without_marks-text.ensures ∙ ap without_marks c.text.ensures.text in
    let fields = c.in-Ok.ensures ∙ ap fields_in text in
    let those = fields_in (without_marks (text_of c.args.lines)) in
    let form = c.in-Ok-begin.ensures.form in
    let made = c.in-Ok-new.ensures in (
      refl,
      omega (arith, channels_len c.args.mode (map trimmed those), length-map those trimmed, ap length fields, c.len.ensures, c.skipped.ensures.skips, c.saturating_sub.ensures, c.if-saturating_sub-gt-MOST_CHANNELS.false),
      form.want ∙ made.want_is ∙ c.len-2.ensures ∙ ap length fields ∙ sym (length-map those trimmed),
      c.in-Ok-names_of.ensures ∙ ap (λ (l : List (List ℕ)). names_by c.args.mode c.args.header (map trimmed l)) fields,
      record { mode_is = form.mode ∙ made.mode_is; header_is = refl; rate_is = form.rate ∙ made.rate_is; no_pins = form.pins ∙ made.no_pins; is_open = refl },
      subst (λ (l : List ℕ). StartsAs c.in-Ok-begin.phase c.args.header c.begin.new.body (row_of c.args.number l)) text (c.in-Ok-begin.ensures.says made.stands),
    )
