use Rattle.std.proofs.Common.{None, arith, sym}
use Rattle.std.proofs.lemmas.Str.Pattern.{split_parts}
use Rattle.words.proofs.Cuts.{cut_at-without}
use Rattle.words.proofs.lexer.cut_at_equals.Goals as goal

pub returns-in-None : goal.returns-in-None
returns-in-None c = sym (cut_at-without 61 c.args.text.now (split_parts 61 c.args.text.now None c.in-None.ensures.cases (omega arith)))
