use Rattle.std.proofs.Common.{refl, arith, [], ◌∷◌, ◌++◌, codes}
use Rattle.std.proofs.lemmas.Fmt.{decimal_digit}
use Rattle.la_io.specs.Capture.{Good, Clean}
use Rattle.byte_feed.specs.Parts.{parts_from}
use Rattle.csv.specs.Machine.{next_record}
use Rattle.capture_csv.specs.Csv.{csv_capture, plain_names}
use Rattle.capture_csv.specs.Fields.{fields_in}
use Rattle.capture_csv.proofs.laws.worked_rows_hold.Goals as goal

pub returns : goal.returns
unfolding csv_capture parts_from fields_in next_record plain_names
returns c = record {
  exported = refl;
  field = refl;
  columns = refl;
  cut = refl;
  no_header = λ i. record { head = Good ((codes "D" ++ decimal_digit 0 (omega arith) i) ∷ (codes "D" ++ decimal_digit 1 (omega arith) i) ∷ []) 1 1; settled = 1 ∷ 3 ∷ []; ending = Clean };
  none = refl;
  unread = refl;
  quotes = refl;
  comma = refl;
  marks = refl;
}
