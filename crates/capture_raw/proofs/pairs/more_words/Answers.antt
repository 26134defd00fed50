use Rattle.std.proofs.Common.{ℕ, arith, ap, ◌∙◌, take, drop, bit_and, bit_xor}
use Rattle.std.proofs.lemmas.Bool.Decides.{nat_tests}
use Rattle.capture_raw.specs.Raw.{number}
use Rattle.capture_raw.proofs.Fours.{four_more, front_more}
use Rattle.capture_raw.proofs.pairs.more_words.Goals as goal

pub loop-done-preserved : goal.loop-done-preserved
loop-done-preserved c =
    let a = c.args in
    let s = c.loop-done in
    let bytes = a.bytes.now in
    let word = c.word_at.ensures ∙ ap (λ (n : ℕ). number (take 8 (drop n bytes))) s.invariant.done_is in
    record {
      some = omega arith;
      done_is = omega (arith, s.invariant.done_is);
      within = omega arith;
      same = four_more bytes (λ k. omega (arith, c.type_inv.bytes k)) a.mask a.masks a.firsts c.requires.masks c.requires.firsts s.count (bit_and (bit_xor c.word_at.result a.firsts) a.masks)
          (omega (arith, s.invariant.done_is)) (λ i. bit_and (bit_xor (word i) a.firsts) a.masks) c.if-different-ne0.false s.invariant.same;
    }

pub returns-then-different-ne0-clause-same : goal.returns-then-different-ne0-clause-same
returns-then-different-ne0-clause-same c =
    let a = c.args in
    let s = c.loop-done in
    let bytes = a.bytes.now in
    let word = c.word_at.ensures ∙ ap (λ (n : ℕ). number (take 8 (drop n bytes))) s.invariant.done_is in
    (front_more bytes (λ k. omega (arith, c.type_inv.bytes k)) a.mask a.masks a.firsts c.requires.masks c.requires.firsts s.count (bit_and (bit_xor c.word_at.result a.firsts) a.masks)
    (omega (arith, s.invariant.done_is)) (λ i. bit_and (bit_xor (word i) a.firsts) a.masks) (grind (arith, nat_tests, c.if-different-ne0.true)) (omega (arith, c.ranges.masks)) s.invariant.same).1
