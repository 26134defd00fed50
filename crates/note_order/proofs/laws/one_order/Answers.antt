use Rattle.note_order.specs.Order.{is_before}
use Rattle.note_order.proofs.Entries.{entries_rank}
use Rattle.note_order.proofs.SortLemmas.{sorted_is_one}
use Rattle.note_order.proofs.laws.one_order.Goals as goal

pub returns : goal.returns
returns c = λ entries others. sorted_is_one is_before entries_rank entries others
