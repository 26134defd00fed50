use Rattle.std.proofs.Common.{◌-◌}
use Rattle.la_base.specs.Samples.{samples}
use Rattle.decoder_core.proofs.Counting.{map_equal, run_has_items}
use Rattle.decoder_core.proofs.driver.behind.Goals as goal

pub returns-then-count-run-clause-rest : goal.returns-then-count-run-clause-rest
unfolding samples
returns-then-count-run-clause-rest c = map_equal (c.args.run.len - c.args.count) c.args.run.value

pub returns-then-count-run-clause-more : goal.returns-then-count-run-clause-more
returns-then-count-run-clause-more c = run_has_items _
