use Rattle.std.proofs.Common.{◌∷◌, [], ◌++◌, ◌∙◌, List, ℕ, ap, sym, arith}
use Rattle.line_text.proofs.TwoDigits.{two_digits}
use Rattle.line_text.proofs.line.LineBuf.push_byte_hex.Goals as goal

pub returns-clause-text : goal.returns-clause-text
returns-clause-text c =
    c.push_bytes.ensures.text
    ∙ ap (λ (l : List ℕ). c.args.self.now ++ l) ((λ i. c.digit.ensures i ∷ c.digit-2.ensures i ∷ []) ∙ sym (two_digits c.args.n (omega arith)))
