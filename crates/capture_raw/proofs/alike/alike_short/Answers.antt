use Rattle.std.proofs.Common.{arith}
use Rattle.std.proofs.lemmas.Bool.Decides.{nat_tests}
use Rattle.capture_raw.proofs.Words.{front_agrees, whole_agrees}
use Rattle.capture_raw.proofs.alike.alike_short.Goals as goal

pub returns-then-different-ne0-clause-alike : goal.returns-then-different-ne0-clause-alike
returns-then-different-ne0-clause-alike c =
    let a = c.args in
    (front_agrees a.mask a.first a.bytes.now 3 c.differing_at-different.result c.eight_of-firsts.result c.eight_of-masks.result c.eight_of-firsts.ensures c.eight_of-masks.ensures c.differing_at-different.ensures
    (omega arith) (omega arith) (omega arith) (λ k. omega (arith, c.type_inv.bytes k)) c.requires.agree (grind (arith, nat_tests, c.if-different-ne0.true)) (omega (arith, c.eight_of-masks.type_inv))).1

pub returns-then-behind-ne0-clause-alike : goal.returns-then-behind-ne0-clause-alike
returns-then-behind-ne0-clause-alike c =
    let a = c.args in
    let front = whole_agrees a.mask a.first a.bytes.now 3 c.differing_at-different.result c.eight_of-firsts.result c.eight_of-masks.result c.eight_of-firsts.ensures c.eight_of-masks.ensures c.differing_at-different.ensures
    (omega arith) (omega arith) (omega arith) (λ k. omega (arith, c.type_inv.bytes k)) c.requires.agree (grind (arith, nat_tests, c.if-different-ne0.false)) in
    (front_agrees a.mask a.first a.bytes.now 11 c.differing_at-behind.result c.eight_of-firsts.result c.eight_of-masks.result c.eight_of-firsts.ensures c.eight_of-masks.ensures c.differing_at-behind.ensures
    (omega arith) (omega arith) (omega arith) (λ k. omega (arith, c.type_inv.bytes k)) front (grind (arith, nat_tests, c.if-behind-ne0.true)) (omega (arith, c.eight_of-masks.type_inv))).1
