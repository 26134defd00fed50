use Rattle.std.proofs.Common.{◌∙◌, sym}
use Rattle.list_cuts.proofs.LastLaws.{last_where_passes, last_where_fails, last_that_passes, last_that_fails, none_passes, none_that, stands_last, found_last, within_list, last_where_stays, last_that_stays, last_where_moves, last_that_moves}
use Rattle.list_cuts.proofs.laws.last_laws.Goals as goal

pub returns : goal.returns
returns g c = λ test. record {
  passes = λ list x is. (last_where_passes test list x is, last_that_passes test list x is);
  fails = λ list x is. (last_where_fails test list x is, last_that_fails test list x is);
  stays = λ list more none. (last_where_stays test list more none, last_that_stays test list more (none_that test more none));
  moves = λ list more place at.
      let there = stands_last test more place at in
      (last_where_moves test list more place at, last_that_moves test list more there.0 there.2 ∙ sym there.2);
  within = within_list test;
  none = λ list is. (none_that test list is, none_passes test list is);
  stands = stands_last test;
  found = found_last test;
}
