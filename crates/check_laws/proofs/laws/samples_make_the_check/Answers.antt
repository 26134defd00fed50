use Rattle.check_laws.proofs.Resumes.{one_check}
use Rattle.check_laws.proofs.laws.samples_make_the_check.Goals as goal

pub returns : goal.returns
returns g c = λ setups kinds parents word another earlier each one other.
    let m = g.M.Machine in
    one_check m.setup m.outputs m.consumed g.M.Keep.saves g.met.M.Keep.one_saved kinds parents setups each word another earlier one other
