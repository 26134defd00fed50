use Rattle.std.proofs.Common.{◌+◌, ◌∙◌, ap, sym, ℕ}
use Rattle.std.proofs.lemmas.List.Splits.{length-slice_split}
use Rattle.std.specs.List.{slice_split}
use Rattle.capture_csv.specs.Values.{is_comma}
use Rattle.capture_csv.proofs.Plain.{plain_simple}
use Rattle.capture_csv.proofs.simple.field_count.Goals as goal

pub returns-then-is_plain : goal.returns-then-is_plain
returns-then-is_plain c =
    let text = c.args.text.now in
    (slice_split is_comma text, plain_simple text (c.is_plain.ensures.plain c.if-is_plain.true), length-slice_split is_comma text ∙ ap (λ (n : ℕ). n + 1) (sym c.commas_in.ensures.commas))
