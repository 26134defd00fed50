use Rattle.note_order.specs.Order.{is_before}
use Rattle.note_order.proofs.Entries.{entries_rank}
use Rattle.note_order.proofs.SortLemmas.{sorted_is_sorted, sorted_is_stable}
use Rattle.note_order.proofs.laws.order_keeps_each_instance.Goals as goal

pub returns : goal.returns
returns c = λ entries. (sorted_is_sorted is_before entries_rank entries, sorted_is_stable is_before entries_rank entries)
