use Rattle.std.proofs.Common.{◌≡◌, ℕ, List, ◌++◌, ◌∙◌, ap, append_assoc}
use Rattle.std.specs.Prelude.{codes}
use Rattle.std.specs.Fmt.{decimal}
use Rattle.kind_table.specs.Kinds.{kind_row}
use Rattle.listing_out.proofs.summaries.push_tally.Goals as goal

-- six parts behind a line, one after another
parts : (line a b c d e f : List ℕ) → (((((line ++ a) ++ b) ++ c) ++ d) ++ e) ++ f ≡ line ++ (((((a ++ b) ++ c) ++ d) ++ e) ++ f)
parts line a b c d e f =
    ap (λ (l : List ℕ). (((l ++ c) ++ d) ++ e) ++ f) (append_assoc line a b)
    ∙ ap (λ (l : List ℕ). ((l ++ d) ++ e) ++ f) (append_assoc line (a ++ b) c)
    ∙ ap (λ (l : List ℕ). (l ++ e) ++ f) (append_assoc line ((a ++ b) ++ c) d)
    ∙ ap (λ (l : List ℕ). l ++ f) (append_assoc line (((a ++ b) ++ c) ++ d) e)
    ∙ append_assoc line ((((a ++ b) ++ c) ++ d) ++ e) f

pub returns-clause-line : goal.returns-clause-line
returns-clause-line c =
    let one = c.push_text.ensures.line in
    let two = c.push_text-2.ensures.line in
    let three = c.push_number.ensures.text in
    let four = c.push_text-3.ensures.line in
    let five = c.push_number-2.ensures.text in
    let six = c.push_text-4.ensures.line in
    six
    ∙ ap (λ (l : List ℕ). l ++ codes "\n") (five
    ∙ ap (λ (l : List ℕ). l ++ decimal c.args.tally.sum) (four
    ∙ ap (λ (l : List ℕ). l ++ codes " notes, sum ") (three
    ∙ ap (λ (l : List ℕ). l ++ decimal c.args.tally.count) (two
    ∙ ap (λ (l : List ℕ). l ++ codes "-1: ") (one
    ∙ ap (λ (l : List ℕ). c.args.line.now ++ l) c.kind_name.ensures.name)))))
    ∙ parts c.args.line.now (kind_row c.args.kind).name (codes "-1: ") (decimal c.args.tally.count) (codes " notes, sum ") (decimal c.args.tally.sum) (codes "\n")
