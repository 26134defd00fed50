use Rattle.la_base.specs.declared.samples.TheConstants.{MOST_PINS}
use Rattle.stack_words.specs.Meaning.{instance_of}
use Rattle.stack_spec.proofs.BoundLemmas.{bound_ok, bound_slow}
use Rattle.stack_spec.proofs.binding.bind_instance.Goals as goal

pub returns-in-Ok-open-clause-step : goal.returns-in-Ok-open-clause-step
returns-in-Ok-open-clause-step c = bound_ok MOST_PINS c.args.names.now c.args.rate c.args.pins.now.items c.args.entry (instance_of c.args.instance.now) c.bind_rows.new.pins.items c.in-Ok.values c.in-Ok.ensures.step c.requires.fit c.in-Ok-open.decoder c.in-Ok-open.ensures

pub returns-in-Err-open-clause-step : goal.returns-in-Err-open-clause-step
returns-in-Err-open-clause-step c = bound_slow MOST_PINS c.args.names.now c.args.rate c.args.pins.now.items c.args.entry (instance_of c.args.instance.now) c.bind_rows.new.pins.items c.in-Ok.values c.in-Ok.ensures.step c.requires.fit c.in-Err-open.field-0 c.in-Err-open.ensures
