use Rattle.std.proofs.Common.{refl}
use Rattle.csv.specs.Machine.{next_record}
use Rattle.capture_csv.specs.Fields.{fields_in}
use Rattle.capture_csv.proofs.laws.worked_lines_hold.Goals as goal

pub returns : goal.returns
unfolding fields_in next_record
returns c = record {
  plain = refl;
  behind_quote = refl;
  two_quotes = refl;
  never_closed = refl;
  not_first = refl;
  empty = refl;
}
