use Rattle.std.proofs.Common.{refl}
use Rattle.packet_walks.specs.Transactions.{transaction_outs}
use Rattle.dev_ds18b20.specs.Probe.{crc_of}
use Rattle.dev_ds18b20.proofs.rows.rows_hold.Goals as goal

pub returns-clause-fine : goal.returns-clause-fine
unfolding transaction_outs crc_of
returns-clause-fine c = refl

pub returns-clause-coarse : goal.returns-clause-coarse
unfolding transaction_outs crc_of
returns-clause-coarse c = refl

pub returns-clause-written : goal.returns-clause-written
unfolding transaction_outs crc_of
returns-clause-written c = refl

pub returns-clause-foreign : goal.returns-clause-foreign
unfolding transaction_outs crc_of
returns-clause-foreign c = refl

pub returns-clause-few : goal.returns-clause-few
unfolding transaction_outs crc_of
returns-clause-few c = refl
