use Rattle.std.proofs.Common.{◌∙◌, sym, ap₂}
use Rattle.std.proofs.lemmas.List.Sums.{fold_more}
use Rattle.clap.specs.Words.{with_rule}
use Rattle.words.specs.App.{empty_app, with_option}
use Rattle.words.specs.Options.{names}
use Rattle.words.specs.declared.options.Name.TheVariants.{Job}
use Rattle.words.proofs.command.options_command.Goals as goal

pub loop-name-preserved : goal.loop-name-preserved
loop-name-preserved c = c.in_ok-command.ensures.shape c.option.ensures.local ∙ ap₂ with_rule c.loop-name.invariant c.option.ensures.rule
    ∙ sym (fold_more with_option empty_app names c.loop-name.name-index Job c.loop-name-test.true)
