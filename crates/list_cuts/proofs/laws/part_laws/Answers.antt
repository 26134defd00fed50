use Rattle.list_cuts.proofs.PartLaws.{parts_mark, parts_join, parts_append, parts_whole, part_at, grow_last_at}
use Rattle.list_cuts.proofs.BetweenLaws.{parts_are}
use Rattle.list_cuts.proofs.laws.part_laws.Goals as goal

pub returns : goal.returns
returns g c = λ mark. record {
  new_part = parts_mark mark;
  joins = parts_join mark;
  last = grow_last_at;
  more = parts_append mark;
  whole = parts_whole mark;
  each = part_at mark;
  no_ends = parts_are mark;
}
