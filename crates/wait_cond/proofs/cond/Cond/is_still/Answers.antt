use Rattle.std.proofs.Common.{List, ap, Some, ◌≡◌, ◌≢◌, ◌==◌, true, ℕ, Option, sym, subst, arith, bit_and, bit_xor}
use Rattle.std.proofs.lemmas.Bool.Decides.{nat_tests}
use Rattle.std.specs.Int.Bits.{xor_self}
use Rattle.wait_cond.specs.Watching.{NeverMet}
use Rattle.wait_cond.specs.declared.alt.Alt.{Alt}
use Rattle.wait_cond.proofs.WatchLemmas.{never_met, never_low}
use Rattle.wait_cond.proofs.cond.Cond.is_still.Goals as goal

is_zero : (n : ℕ) → (n == 0) ≡ true → n ≡ 0
is_zero n is = grind (arith, nat_tests)

pub returns-then-self-now-clause-now : goal.returns-then-self-now-clause-now
returns-then-self-now-clause-now c = λ is.
    let s = c.self.inside in
    let low : bit_and s.high c.args.now ≢ s.high = grind (c.if-self-now.true, arith, nat_tests) in
    subst (λ (l : List Alt). NeverMet l c.args.before c.args.now) c.self.view_is (never_low s.high c.args.now c.args.before s.alts.items low c.self.invariant.0.asks)

pub returns-then-self-now-clause-stands : goal.returns-then-self-now-clause-stands
returns-then-self-now-clause-stands c = λ is.
    let s = c.self.inside in
    let low : bit_and s.high c.args.now ≢ s.high = grind (c.if-self-now.true, arith, nat_tests) in
    subst (λ (l : List Alt). NeverMet l (Some c.args.now) c.args.now) c.self.view_is (never_low s.high c.args.now (Some c.args.now) s.alts.items low c.self.invariant.0.asks)

pub returns-then-self-ne0-clause-now : goal.returns-then-self-ne0-clause-now
returns-then-self-ne0-clause-now c = λ is.
    let s = c.self.inside in
    let same = is_zero (bit_and (bit_xor c.in-Some.before c.args.now) s.watched) is in
    subst (λ (l : List Alt). NeverMet l c.args.before c.args.now) c.self.view_is
    (subst (λ (b : Option ℕ). NeverMet s.alts.items b c.args.now) (sym c.in-Some.is)
    (never_met s.watched c.in-Some.before c.args.now same s.alts.items (c.self.invariant.0.watches c.if-self-ne0.true)))

pub returns-then-self-ne0-clause-stands : goal.returns-then-self-ne0-clause-stands
returns-then-self-ne0-clause-stands c = λ is.
    let s = c.self.inside in
    subst (λ (l : List Alt). NeverMet l (Some c.args.now) c.args.now) c.self.view_is
    (never_met s.watched c.args.now c.args.now (ap (λ (n : ℕ). bit_and n s.watched) (xor_self c.args.now)) s.alts.items (c.self.invariant.0.watches c.if-self-ne0.true))
