use Rattle.std.proofs.Common.{◌∙◌, ap₂}
use Rattle.std.proofs.lemmas.Result.{IfOk-weaker}
use Rattle.clap.specs.Words.{with_rule}
use Rattle.words.proofs.command.command.Goals as goal

pub returns : goal.returns
returns c = IfOk-weaker c.arg.result _ _ (λ r h. h.shape c.chains.ensures.local ∙ ap₂ with_rule c.in_ok-options_command.ensures c.chains.ensures.rule) c.arg.ensures
