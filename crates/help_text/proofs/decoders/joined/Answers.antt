use Rattle.std.proofs.Common.{◌∙◌}
use Rattle.help_text.proofs.Telling.{if_ok, join_words}
use Rattle.help_text.proofs.decoders.joined.Goals as goal

pub returns : goal.returns
returns c = if_ok c.join.result _ _ (λ text is. is ∙ join_words c.args.between.now c.args.words.now) c.join.ensures.ok
