use Rattle.std.proofs.Common.{◌≡◌, ◌+◌, arith, subst, ℕ}
use Rattle.std.proofs.lemmas.Bool.Decides.{nat_tests}
use Rattle.capture_raw.specs.Masks.{AllAgree}
use Rattle.capture_raw.proofs.Words.{front_agrees, whole_agrees}
use Rattle.capture_raw.proofs.alike.agreeing_words.Goals as goal

pub returns-then-different-ne0-clause-agree : goal.returns-then-different-ne0-clause-agree
returns-then-different-ne0-clause-agree c =
    let a = c.args in
    let s = c.loop-done in
    (front_agrees a.mask a.first a.bytes.now s.done c.differing_at-different.result c.eight_of-firsts.result c.eight_of-masks.result c.eight_of-firsts.ensures c.eight_of-masks.ensures c.differing_at-different.ensures
    (omega arith) (omega arith) (omega (arith, c.requires.within)) (λ k. omega (arith, c.type_inv.bytes k)) s.invariant.agree (grind (arith, nat_tests, c.if-different-ne0.true)) (omega (arith, c.eight_of-masks.type_inv))).1

pub returns-then-behind-ne0-clause-agree : goal.returns-then-behind-ne0-clause-agree
returns-then-behind-ne0-clause-agree c =
    let a = c.args in
    let s = c.loop-done in
    let front = whole_agrees a.mask a.first a.bytes.now s.done c.differing_at-different.result c.eight_of-firsts.result c.eight_of-masks.result c.eight_of-firsts.ensures c.eight_of-masks.ensures c.differing_at-different.ensures
    (omega arith) (omega arith) (omega (arith, c.requires.within)) (λ k. omega (arith, c.type_inv.bytes k)) s.invariant.agree (grind (arith, nat_tests, c.if-different-ne0.false)) in
    (front_agrees a.mask a.first a.bytes.now (s.done + 8) c.differing_at-behind.result c.eight_of-firsts.result c.eight_of-masks.result c.eight_of-firsts.ensures c.eight_of-masks.ensures c.differing_at-behind.ensures
    (omega arith) (omega arith) (omega (arith, c.requires.within)) (λ k. omega (arith, c.type_inv.bytes k)) front (grind (arith, nat_tests, c.if-behind-ne0.true)) (omega (arith, c.eight_of-masks.type_inv))).1

pub loop-done-preserved : goal.loop-done-preserved
loop-done-preserved c =
    let a = c.args in
    let s = c.loop-done in
    let front = whole_agrees a.mask a.first a.bytes.now s.done c.differing_at-different.result c.eight_of-firsts.result c.eight_of-masks.result c.eight_of-firsts.ensures c.eight_of-masks.ensures c.differing_at-different.ensures
    (omega arith) (omega arith) (omega (arith, c.requires.within)) (λ k. omega (arith, c.type_inv.bytes k)) s.invariant.agree (grind (arith, nat_tests, c.if-different-ne0.false)) in
    let both = whole_agrees a.mask a.first a.bytes.now (s.done + 8) c.differing_at-behind.result c.eight_of-firsts.result c.eight_of-masks.result c.eight_of-firsts.ensures c.eight_of-masks.ensures c.differing_at-behind.ensures
    (omega arith) (omega arith) (omega (arith, c.requires.within)) (λ k. omega (arith, c.type_inv.bytes k)) front (grind (arith, nat_tests, c.if-behind-ne0.false)) in
    let at : s.done + 8 + 8 ≡ s.done + 16 = omega arith in
    record {
      order = omega (arith, s.invariant.order);
      within = omega arith;
      agree = subst (λ (n : ℕ). AllAgree a.mask a.first a.bytes.now n) at both;
    }

pub returns-then-last-ne0-clause-agree : goal.returns-then-last-ne0-clause-agree
returns-then-last-ne0-clause-agree c =
    let a = c.args in
    let s = c.loop-done in
    (front_agrees a.mask a.first a.bytes.now s.done c.differing_at-last.result c.eight_of-firsts.result c.eight_of-masks.result c.eight_of-firsts.ensures c.eight_of-masks.ensures c.differing_at-last.ensures
    (omega arith) (omega arith) (omega (arith, c.requires.within)) (λ k. omega (arith, c.type_inv.bytes k)) s.invariant.agree (grind (arith, nat_tests, c.if-last-ne0.true)) (omega (arith, c.eight_of-masks.type_inv))).1

pub returns-clause-agree : goal.returns-clause-agree
returns-clause-agree c =
    let a = c.args in
    let s = c.loop-done in
    whole_agrees a.mask a.first a.bytes.now s.done c.differing_at-last.result c.eight_of-firsts.result c.eight_of-masks.result c.eight_of-firsts.ensures c.eight_of-masks.ensures c.differing_at-last.ensures
    (omega arith) (omega arith) (omega (arith, c.requires.within)) (λ k. omega (arith, c.type_inv.bytes k)) s.invariant.agree (grind (arith, nat_tests, c.if-last-ne0.false))
