use Rattle.std.proofs.Common.{refl, arith, [], ◌∷◌, ◌++◌, ◌^◌, codes}
use Rattle.std.proofs.lemmas.Fmt.{decimal_digit}
use Rattle.la_io.specs.Capture.{Good, Clean}
use Rattle.byte_feed.specs.Parts.{parts_from}
use Rattle.capture_vcd.specs.Header.{bit_names}
use Rattle.capture_vcd.specs.Body.{words_from}
use Rattle.capture_vcd.specs.Vcd.{vcd_capture}
use Rattle.capture_vcd.proofs.laws.worked_files_hold.Goals as goal

pub returns : goal.returns
unfolding vcd_capture parts_from bit_names words_from
returns c =
    let zero_is = decimal_digit 0 (omega arith) in
    let one_is = decimal_digit 1 (omega arith) in
    let two_is = decimal_digit 2 (omega arith) in
    let three_is = decimal_digit 3 (omega arith) in
    record {
      vector = λ i. record { head = Good ((codes "q." ++ zero_is i) ∷ (codes "q." ++ one_is i) ∷ (codes "q." ++ two_is i) ∷ (codes "q." ++ three_is i) ∷ []) (10 ^ 9) 10; settled = 1 ∷ 10 ∷ 1 ∷ 1 ∷ []; ending = Clean };
      falls = refl;
      before_it_falls = refl;
      between = refl;
      no_end = refl;
      passed = refl;
    }
