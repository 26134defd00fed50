use Rattle.wait_cond.specs.Meets.{NoneIn}
use Rattle.wait_cond.proofs.Masks.{by_test, none_in_yes, none_in_no}
use Rattle.std.proofs.Common.{bit_and}
use Rattle.wait_cond.proofs.lines.none_in.Goals as goal

pub returns : goal.returns
returns c = by_test (bit_and c.args.mask c.args.lines) 0 (NoneIn c.args.mask c.args.lines) (none_in_yes _ _) (none_in_no _ _)
