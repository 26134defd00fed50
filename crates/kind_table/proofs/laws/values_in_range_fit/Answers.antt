use Rattle.kind_table.specs.laws.RangeLaws.{channel_within, maybe_channel_within, number_within}
use Rattle.kind_table.proofs.laws.values_in_range_fit.Goals as goal

pub returns-clause-number : goal.returns-clause-number
returns-clause-number c = number_within

pub returns-clause-channel : goal.returns-clause-channel
returns-clause-channel c = channel_within

pub returns-clause-maybe_channel : goal.returns-clause-maybe_channel
returns-clause-maybe_channel c = maybe_channel_within
