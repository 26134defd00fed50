use Rattle.std.proofs.Common.{sym, arith}
use Rattle.std.proofs.lemmas.Bool.Decides.{nat_tests}
use Rattle.capture_raw.proofs.Captures.{equal_samples}
use Rattle.capture_raw.proofs.Fronts.{equal_first}
use Rattle.capture_raw.proofs.Fours.{firsts_are, first_four, first_some, first_front}
use Rattle.capture_raw.proofs.pairs.alike_pairs.Goals as goal

pub more_units-requires-clause-same : goal.more_units-requires-clause-same
more_units-requires-clause-same c =
    let bytes = c.args.bytes.now in λ pins covers. sym (equal_samples 2 pins _ _ 1 (equal_first 2 (omega arith) bytes c.requires))

pub returns-then-different-ne0-clause-some : goal.returns-then-different-ne0-clause-some
returns-then-different-ne0-clause-some c =
    first_some c.args.bytes.now (λ k. omega (arith, c.type_inv.bytes k)) (omega arith) c.args.mask c.word_at-word.result c.four_of-masks.result c.four_of-firsts.result c.word_at-word.ensures c.four_of-masks.ensures c.four_of-firsts.ensures
    (grind (arith, nat_tests, c.if-different-ne0.true)) (omega (arith, c.four_of-masks.type_inv))

pub returns-then-different-ne0-clause-same : goal.returns-then-different-ne0-clause-same
returns-then-different-ne0-clause-same c =
    first_front c.args.bytes.now (λ k. omega (arith, c.type_inv.bytes k)) (omega arith) c.args.mask c.word_at-word.result c.four_of-masks.result c.four_of-firsts.result c.word_at-word.ensures c.four_of-masks.ensures c.four_of-firsts.ensures
    (grind (arith, nat_tests, c.if-different-ne0.true)) (omega (arith, c.four_of-masks.type_inv))

pub more_words-requires-clause-same : goal.more_words-requires-clause-same
more_words-requires-clause-same c =
    first_four c.args.bytes.now (λ k. omega (arith, c.type_inv.bytes k)) (omega arith) c.args.mask c.word_at-word.result c.four_of-masks.result c.four_of-firsts.result c.word_at-word.ensures c.four_of-masks.ensures c.four_of-firsts.ensures
    c.if-different-ne0.false

pub more_words-requires-clause-firsts : goal.more_words-requires-clause-firsts
more_words-requires-clause-firsts c =
    firsts_are c.args.bytes.now (λ k. omega (arith, c.type_inv.bytes k)) (omega arith) c.args.mask c.word_at-word.result c.four_of-masks.result c.four_of-firsts.result c.word_at-word.ensures c.four_of-masks.ensures c.four_of-firsts.ensures
