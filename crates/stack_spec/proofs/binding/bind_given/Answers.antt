use Rattle.std.proofs.Common.{ℕ, List, Some, sym, subst}
use Rattle.la_base.specs.Naming.{find_channel}
use Rattle.la_base.specs.declared.samples.TheConstants.{MOST_PINS}
use Rattle.stack_spec.specs.Binding.{bind_value, on_channel}
use Rattle.stack_spec.specs.BindSteps.{RowStep}
use Rattle.stack_words.specs.Meaning.{meaning_of}
use Rattle.stack_words.specs.declared.instance.GivenValue.{GivenValue}
use Rattle.stack_spec.proofs.binding.bind_given.Goals as goal

pub returns-in-Channel-clause-step : goal.returns-in-Channel-clause-step
returns-in-Channel-clause-step c =
    let names = c.args.names.now in
    let old = c.args.pins.now.items in
    let new = c.bind_channel.new.pins.items in
    let step = subst (λ (t : List ℕ). RowStep (on_channel MOST_PINS old (find_channel names t)) old new c.bind_channel.result) c.as_str.ensures.value c.bind_channel.ensures.step in
    subst (λ (v : GivenValue). RowStep (bind_value MOST_PINS names old (Some (meaning_of v))) old new c.bind_channel.result) (sym c.in-Channel.is) step
