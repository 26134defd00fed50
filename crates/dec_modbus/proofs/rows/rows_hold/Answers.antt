use Rattle.std.proofs.Common.{refl}
use Rattle.dec_modbus.specs.Modbus.{modbus_outs, modbus_near}
use Rattle.dec_modbus.proofs.rows.rows_hold.Goals as goal

pub returns-clause-good : goal.returns-clause-good
unfolding modbus_outs
returns-clause-good c = refl

pub returns-clause-bad : goal.returns-clause-bad
unfolding modbus_outs
returns-clause-bad c = refl

pub returns-clause-below : goal.returns-clause-below
unfolding modbus_outs
returns-clause-below c = refl

pub returns-clause-at : goal.returns-clause-at
unfolding modbus_outs
returns-clause-at c = refl

pub returns-clause-before : goal.returns-clause-before
unfolding modbus_outs
returns-clause-before c = refl

pub returns-clause-broken : goal.returns-clause-broken
unfolding modbus_outs
returns-clause-broken c = refl

pub returns-clause-exception : goal.returns-clause-exception
unfolding modbus_outs
returns-clause-exception c = refl

pub returns-clause-error : goal.returns-clause-error
unfolding modbus_outs
returns-clause-error c = refl

pub returns-clause-nine : goal.returns-clause-nine
unfolding modbus_outs
returns-clause-nine c = refl

pub returns-clause-shortest : goal.returns-clause-shortest
unfolding modbus_outs
returns-clause-shortest c = refl

pub returns-clause-longest : goal.returns-clause-longest
unfolding modbus_outs
returns-clause-longest c = refl

pub returns-clause-too_long : goal.returns-clause-too_long
unfolding modbus_outs
returns-clause-too_long c = refl

pub returns-clause-open : goal.returns-clause-open
unfolding modbus_near
returns-clause-open c = refl

pub returns-clause-ended : goal.returns-clause-ended
unfolding modbus_near
returns-clause-ended c = refl
