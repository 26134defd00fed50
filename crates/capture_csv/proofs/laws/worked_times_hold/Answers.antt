use Rattle.std.proofs.Common.{refl, arith, [], ◌∷◌, ◌++◌, codes}
use Rattle.std.proofs.lemmas.Fmt.{decimal_digit}
use Rattle.la_io.specs.Capture.{Good, Clean}
use Rattle.byte_feed.specs.Parts.{parts_from}
use Rattle.csv.specs.Machine.{next_record}
use Rattle.capture_csv.specs.Csv.{csv_capture, plain_names, words_from}
use Rattle.capture_csv.specs.Fields.{fields_in}
use Rattle.capture_csv.proofs.laws.worked_times_hold.Goals as goal

pub returns : goal.returns
unfolding csv_capture parts_from fields_in next_record words_from plain_names
returns c = record {
  edges = refl;
  edges_cut = refl;
  back = refl;
  equal = refl;
  decimals = λ i. record { head = Good ((codes "D" ++ decimal_digit 0 (omega arith) i) ∷ []) 1 1; settled = 1 ∷ []; ending = Clean };
  zero = refl;
  time = refl;
  digits = refl;
  large = refl;
  not_large = refl;
  columns = refl;
  sparse = refl;
}
