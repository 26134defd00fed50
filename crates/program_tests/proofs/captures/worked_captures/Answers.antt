use Rattle.std.proofs.Common.{[], ◌∷◌, ◌++◌, codes, arith, refl}
use Rattle.std.proofs.lemmas.Fmt.{decimal_digit}
use Rattle.list_cuts.specs.Groups.{groups}
use Rattle.capture_raw.specs.Raw.{raw_capture, raw_names, raw_samples}
use Rattle.program_tests.proofs.captures.worked_captures.Goals as goal

pub returns-clause-names : goal.returns-clause-names
unfolding raw_names
returns-clause-names c =
    let zero_is = decimal_digit 0 (omega arith) in
    let one_is = decimal_digit 1 (omega arith) in
    let two_is = decimal_digit 2 (omega arith) in
    λ i. (codes "D" ++ zero_is i) ∷ (codes "D" ++ one_is i) ∷ (codes "D" ++ two_is i) ∷ []

pub returns-clause-unit : goal.returns-clause-unit
unfolding raw_capture raw_samples groups
returns-clause-unit c = λ rate. record { settled = refl; ending = refl }
