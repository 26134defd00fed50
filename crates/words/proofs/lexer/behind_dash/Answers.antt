use Rattle.std.proofs.Common.{arith}
use Rattle.std.proofs.lemmas.Str.Pattern.{strip_prefix_char}
use Rattle.words.proofs.Dashes.{behind_dash-from}
use Rattle.words.proofs.lexer.behind_dash.Goals as goal

pub returns : goal.returns
returns c = behind_dash-from c.args.word.now c.strip_prefix.result (strip_prefix_char 45 c.args.word.now c.strip_prefix.result c.strip_prefix.ensures.cases (omega arith))
