use Rattle.std.proofs.Common.{arith, bit_xor}
use Rattle.std.proofs.lemmas.Nat.{xor_lt}
use Rattle.std.proofs.lemmas.Bool.Decides.{nat_tests}
use Rattle.byte_feed.proofs.Words.{same_front, same_word}
use Rattle.byte_feed.proofs.repeats.common.Goals as goal

pub returns-then-differing-ne0-clause-same : goal.returns-then-differing-ne0-clause-same
returns-then-differing-ne0-clause-same c =
    let s = c.loop-same in
    (same_front c.args.one.now c.args.other.now s.same (omega (arith, c.loop-same-test.true, s.invariant.within)) c.requires (λ k. omega (arith, c.type_inv.one k)) (λ k. omega (arith, c.type_inv.other k)) s.invariant.same
    _ (λ i. bit_xor (c.word_at.ensures i) (c.word_at-in-loop-same.ensures i)) (grind (arith, nat_tests, c.if-differing-ne0.true)) (xor_lt 64 c.word_at.result c.word_at-in-loop-same.result (omega (arith, c.word_at.type_inv)) (omega (arith, c.word_at-in-loop-same.type_inv)))).1

pub loop-same-preserved : goal.loop-same-preserved
loop-same-preserved c =
    let s = c.loop-same in
    record {
      within = omega (arith, c.loop-same-test.true, s.invariant.within);
      same = same_word c.args.one.now c.args.other.now s.same (omega (arith, c.loop-same-test.true, s.invariant.within)) c.requires (λ k. omega (arith, c.type_inv.one k)) (λ k. omega (arith, c.type_inv.other k)) s.invariant.same
          _ (λ i. bit_xor (c.word_at.ensures i) (c.word_at-in-loop-same.ensures i)) (grind (arith, nat_tests, c.if-differing-ne0.false));
    }
