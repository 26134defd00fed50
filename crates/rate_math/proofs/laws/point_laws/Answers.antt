use Rattle.rate_math.proofs.PointLaws.{first_point, fast_enough, points_rise}
use Rattle.rate_math.proofs.laws.point_laws.Goals as goal

pub returns : goal.returns
returns c = record {
  first = λ num den baud sp some bits. (fast_enough num den baud sp some bits, first_point num den baud sp some bits);
  rise = λ num den baud sp some bits early fast i. points_rise num den baud sp some bits early fast i;
}
