use Rattle.std.proofs.Common.{[], refl, arith}
use Rattle.decode_job.proofs.up_to.UpTo.new.Goals as goal

pub returns-clause-gave : goal.returns-clause-gave
returns-clause-gave g c = record {
  few = c.requires.few;
  within = omega arith;
  all = [];
  gave = c.requires.gave;
  count = refl;
  samples = refl;
  at_end = λ ended past. absurd cc;
}
