use Rattle.std.proofs.Common.{◌≡◌, ◌∙◌, ap, sym, arith}
use Rattle.std.proofs.lemmas.List.{take_all}
use Rattle.capture_make.proofs.Blocks.{first_of, block_is}
use Rattle.capture_make.proofs.levels.put_block.Goals as goal

pub returns : goal.returns
returns c =
    let all : c.loop-k.k ≡ 120 = omega (arith, c.loop-k-test.false, c.loop-k.auto.k-end) in
    sym (take_all c.loop-k.k c.loop-k.into (omega (arith, all, c.loop-k.invariant.1)))
    ∙ c.loop-k.invariant.0
    ∙ ap (first_of c.args.sent) all
    ∙ block_is c.args.sent
