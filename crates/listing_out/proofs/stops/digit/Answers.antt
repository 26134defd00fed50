use Rattle.std.proofs.Common.{◌++◌, ◌∙◌, List, ℕ, ap, sym, arith}
use Rattle.std.proofs.lemmas.Fmt.{decimal_digit}
use Rattle.listing_out.proofs.stops.digit.Goals as goal

pub returns-clause-line : goal.returns-clause-line
returns-clause-line c = c.push_byte.ensures.text ∙ ap (λ (l : List ℕ). c.args.line.now ++ l) (sym (decimal_digit c.args.place (omega arith)))
