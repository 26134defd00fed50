use Rattle.std.proofs.Common.{◌∙◌, ◌++◌, ◌∷◌, [], List, ℕ, ap, refl}
use Rattle.std.specs.Fmt.{digits}
use Rattle.line_text.proofs.decimal.Decimal.new.Goals as goal

pub invariant_of-result : goal.invariant_of-result
unfolding digits
invariant_of-result c = record { digits = c.push_byte.ensures.text ∙ ap (λ (l : List ℕ). l ++ 48 ∷ []) c.new-digits.ensures; hundreds = refl; myriads = refl }
