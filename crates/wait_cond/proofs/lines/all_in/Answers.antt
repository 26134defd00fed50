use Rattle.std.proofs.Common.{◌-◌, ◌^◌, ◌<◌, arith, bit_and}
use Rattle.la_base.specs.declared.samples.TheConstants.{MOST_PINS}
use Rattle.wait_cond.specs.Meets.{AllIn}
use Rattle.wait_cond.proofs.Masks.{by_test, all_in_none, none_all_in}
use Rattle.wait_cond.proofs.lines.all_in.Goals as goal

pub returns : goal.returns
returns c =
    let mask = c.args.mask in
    let lines = c.args.lines in
    let few : mask < 2 ^ MOST_PINS = omega arith in
    let small : lines < 2 ^ MOST_PINS = omega arith in
    by_test (bit_and mask (2 ^ MOST_PINS - 1 - lines)) 0 (AllIn mask lines) (all_in_none MOST_PINS mask lines few small) (none_all_in MOST_PINS mask lines few small)
