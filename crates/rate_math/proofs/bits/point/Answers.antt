use Rattle.std.proofs.Common.{◌*◌, ◌+◌}
use Rattle.std.proofs.Math.Nat.{div-div-eq-div-mul}
use Rattle.rate_math.proofs.bits.point.Goals as goal

pub returns : goal.returns
returns c = div-div-eq-div-mul ((100 * c.args.i + c.args.sp) * c.args.rate.num) (100 * c.args.baud) c.args.rate.den
