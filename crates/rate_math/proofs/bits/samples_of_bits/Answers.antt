use Rattle.std.proofs.Common.{◌*◌}
use Rattle.std.proofs.Math.Nat.{div-div-eq-div-mul}
use Rattle.rate_math.proofs.bits.samples_of_bits.Goals as goal

pub returns : goal.returns
returns c = div-div-eq-div-mul (c.args.count * c.args.rate.num) c.args.baud c.args.rate.den
