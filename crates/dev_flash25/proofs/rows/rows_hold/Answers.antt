use Rattle.std.proofs.Common.{refl}
use Rattle.packet_walks.specs.Transactions.{transaction_outs}
use Rattle.dev_flash25.proofs.rows.rows_hold.Goals as goal

pub returns-clause-read : goal.returns-clause-read
unfolding transaction_outs
returns-clause-read c = refl

pub returns-clause-fast : goal.returns-clause-fast
unfolding transaction_outs
returns-clause-fast c = refl

pub returns-clause-program : goal.returns-clause-program
unfolding transaction_outs
returns-clause-program c = refl

pub returns-clause-end : goal.returns-clause-end
unfolding transaction_outs
returns-clause-end c = refl

pub returns-clause-erase : goal.returns-clause-erase
unfolding transaction_outs
returns-clause-erase c = refl

pub returns-clause-id : goal.returns-clause-id
unfolding transaction_outs
returns-clause-id c = refl

pub returns-clause-status : goal.returns-clause-status
unfolding transaction_outs
returns-clause-status c = refl

pub returns-clause-select : goal.returns-clause-select
unfolding transaction_outs
returns-clause-select c = refl
