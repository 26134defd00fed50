use Rattle.std.proofs.Common.{refl}
use Rattle.dev_ds1307.specs.Clock.{clock_outs}
use Rattle.dev_ds1307.proofs.rows.rows_hold.Goals as goal

pub returns-clause-read : goal.returns-clause-read
unfolding clock_outs
returns-clause-read c = refl

pub returns-clause-write : goal.returns-clause-write
unfolding clock_outs
returns-clause-write c = refl

pub returns-clause-rolled : goal.returns-clause-rolled
unfolding clock_outs
returns-clause-rolled c = refl

pub returns-clause-middle : goal.returns-clause-middle
unfolding clock_outs
returns-clause-middle c = refl

pub returns-clause-reset : goal.returns-clause-reset
unfolding clock_outs
returns-clause-reset c = refl

pub returns-clause-kept : goal.returns-clause-kept
unfolding clock_outs
returns-clause-kept c = refl

pub returns-clause-others : goal.returns-clause-others
unfolding clock_outs
returns-clause-others c = refl
