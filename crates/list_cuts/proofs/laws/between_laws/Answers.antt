use Rattle.list_cuts.proofs.BetweenLaws.{between_begins, between_ends, between_joins, ended_before, grow_open_at, end_open_at}
use Rattle.list_cuts.proofs.laws.between_laws.Goals as goal

pub returns : goal.returns
returns g c = λ begins ends. record {
  new_part = λ list x is. between_begins begins ends x list is;
  ends_part = λ list x no_begin is. between_ends begins ends x list no_begin is;
  joins = λ list x no_begin no_end. between_joins begins ends x no_begin no_end list;
  longer_last = grow_open_at;
  ended_last = end_open_at;
  one_open = ended_before begins ends;
}
