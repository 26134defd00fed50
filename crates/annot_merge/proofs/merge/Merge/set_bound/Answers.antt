use Rattle.std.proofs.Common.{arith}
use Rattle.annot_merge.proofs.merge.Merge.set_bound.Goals as goal

pub limit_behind-self-requires-clause-few : goal.limit_behind-self-requires-clause-few
limit_behind-self-requires-clause-few c = omega (arith, c.deref.ensures.len)
