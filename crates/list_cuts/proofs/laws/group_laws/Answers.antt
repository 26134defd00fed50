use Rattle.list_cuts.proofs.GroupLaws.{groups_short, groups_first, groups_longer, groups_push_short, groups_push_full, after_groups_short, after_groups_few, after_groups_first, after_push_short, after_push_full, groups_whole, groups_count, group_at}
use Rattle.list_cuts.proofs.laws.group_laws.Goals as goal

pub returns : goal.returns
returns g c = λ n some. record {
  few = λ list short. (groups_short n some list short, after_groups_few n some list short);
  first = λ front rest is. (groups_first n some front rest is, after_groups_first n some front rest is);
  whole = groups_whole n;
  count = groups_count n;
  each = group_at n;
  left = after_groups_short n some;
  longer = groups_longer n some;
  no_group = λ list x short. (groups_push_short n some list x short, after_push_short n some list x short);
  a_group = λ list x full. (groups_push_full n some list x full, after_push_full n some list x full);
}
