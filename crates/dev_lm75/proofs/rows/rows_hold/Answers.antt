use Rattle.std.proofs.Common.{refl}
use Rattle.dev_lm75.specs.Thermometer.{lm75_outs}
use Rattle.dev_lm75.proofs.rows.rows_hold.Goals as goal

pub returns-clause-read : goal.returns-clause-read
unfolding lm75_outs
returns-clause-read c = refl

pub returns-clause-write : goal.returns-clause-write
unfolding lm75_outs
returns-clause-write c = refl

pub returns-clause-kept : goal.returns-clause-kept
unfolding lm75_outs
returns-clause-kept c = refl

pub returns-clause-pairs : goal.returns-clause-pairs
unfolding lm75_outs
returns-clause-pairs c = refl

pub returns-clause-others : goal.returns-clause-others
unfolding lm75_outs
returns-clause-others c = refl
