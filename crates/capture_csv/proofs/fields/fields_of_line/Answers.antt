use Rattle.std.proofs.Common.{inr, ap, ◌∙◌, List, ℕ, Some}
use Rattle.csv.specs.Reading.{Ready, builder_config, builder_names_headers, builder_trim}
use Rattle.csv.specs.declared.reader.ReaderBuilder.{ReaderBuilder}
use Rattle.capture_csv.proofs.FieldReading.{line_found, line_empty}
use Rattle.capture_csv.proofs.fields.fields_of_line.Goals as goal

pub returns-in-Ok-true : goal.returns-in-Ok-true
returns-in-Ok-true c =
    let s = c.from_reader-reader.ensures in
    let h = c.has_headers.ensures in
    let n = c.new.ensures in
    let ready : Ready c.from_reader-reader.result = inr (inr (s.has_headers ∙ ap (λ (b : ReaderBuilder). builder_names_headers b) h, s.headers)) in
    let r = c.in-Ok-true.ensures.reads (s.trim ∙ ap (λ (b : ReaderBuilder). builder_trim b) h ∙ n.trim) ready in
    line_found _ _ _ _ _ _ _ c.args.line.now r.0 (s.config ∙ ap (λ (b : ReaderBuilder). builder_config b) h ∙ n.config) s.state (s.source ∙ ap (λ (l : List ℕ). Some l) c.requires) c.in-Ok-true.field-0-test

pub returns-in-Ok-false : goal.returns-in-Ok-false
returns-in-Ok-false c =
    let s = c.from_reader-reader.ensures in
    let h = c.has_headers.ensures in
    let n = c.new.ensures in
    let ready : Ready c.from_reader-reader.result = inr (inr (s.has_headers ∙ ap (λ (b : ReaderBuilder). builder_names_headers b) h, s.headers)) in
    let r = c.in-Ok-false.ensures.reads (s.trim ∙ ap (λ (b : ReaderBuilder). builder_trim b) h ∙ n.trim) ready in
    c.new-in-Ok-false.ensures.fields ∙ line_empty _ _ _ _ _ _ _ c.args.line.now r.0 (s.config ∙ ap (λ (b : ReaderBuilder). builder_config b) h ∙ n.config) s.state (s.source ∙ ap (λ (l : List ℕ). Some l) c.requires) c.in-Ok-false.field-0-test
