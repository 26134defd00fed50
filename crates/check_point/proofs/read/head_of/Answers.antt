use Rattle.std.proofs.Common.{arith, ◌<◌, ◌^◌}
use Rattle.check_point.proofs.read.head_of.Goals as goal

pub returns-in-None : goal.returns-in-None
returns-in-None c = λ samples tail few is.
    let number : samples < 2 ^ 64 = omega (arith, few) in
    let machines : c.args.count < 2 ^ 8 = omega (arith, c.requires) in
    c.in-None.ensures (1, (samples, c.args.count)) tail (record { value_fits = (omega arith, (number, machines)); parts = is })
