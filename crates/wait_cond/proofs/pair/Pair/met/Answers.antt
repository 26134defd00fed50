use Rattle.std.proofs.Common.{◌≡◌, true, false, inl, inr, ℕ, ◌%◌, ◌^◌, Some, sym, ◌∙◌, ap, bit_and, bit_xor}
use Rattle.wait_cond.specs.Pairs.{missing_in}
use Rattle.wait_cond.specs.declared.pair.Masks.{Masks}
use Rattle.wait_cond.proofs.WatchLemmas.{never_low}
use Rattle.wait_cond.proofs.PairLemmas.{half_has, halves_miss, not_both}
use Rattle.wait_cond.proofs.PairSets.{one_yes, one_no, both_yes, first_yes, second_yes, neither}
use Rattle.wait_cond.proofs.pair.Pair.met.Goals as goal

pub returns-then-level-self : goal.returns-then-level-self
returns-then-level-self c = λ alts from q says.
    never_low c.args.self.now.high c.args.now (Some c.args.before) alts
    (λ same. absurd (c.if-level-self.true (ap (λ (n : ℕ). bit_and n c.args.self.now.high) c.low_half-level.ensures ∙ half_has c.args.self.now.high c.args.now says.lower same))) says.high from q

pub returns-then-self : goal.returns-then-self
returns-then-self c = λ alts from q says.
    let same = halves_miss c.low_half.result c.low_half-level.result c.args.before c.args.now c.low_half.ensures c.low_half-level.ensures in
    let none = sym (c.misses.ensures ∙ same c.args.self.now.one) ∙ c.if-misses-eq0.true in
    elim says.each [
      | inl o ↦ one_yes c.args.before c.args.now from q c.args.self.now alts o none
      | inr o ↦ first_yes c.args.before c.args.now from q c.args.self.now alts o none
          (λ also. absurd (o.alone c.if-self.true (not_both c.args.self.now.one c.args.self.now.two (bit_xor (c.args.before % 2 ^ 64) (c.args.now % 2 ^ 64)) (c.args.now % 2 ^ 64) none also)))
    ]

pub returns-then-misses-eq0-2 : goal.returns-then-misses-eq0-2
returns-then-misses-eq0-2 c = λ alts from q says.
    let same = halves_miss c.low_half.result c.low_half-level.result c.args.before c.args.now c.low_half.ensures c.low_half-level.ensures in
    let none = sym (c.misses.ensures ∙ same c.args.self.now.one) ∙ c.if-misses-eq0.true in
    let also = sym (c.misses-then-misses-eq0.ensures ∙ same c.args.self.now.two) ∙ c.if-misses-eq0-2.true in
    elim says.each [
      | inl o ↦ (let no : true ≡ false = sym o.alone ∙ c.if-self.false in absurd cc)
      | inr o ↦ both_yes c.args.before c.args.now from q c.args.self.now alts o none also
    ]

pub returns-then-misses-eq0 : goal.returns-then-misses-eq0
returns-then-misses-eq0 c = λ alts from q says.
    let same = halves_miss c.low_half.result c.low_half-level.result c.args.before c.args.now c.low_half.ensures c.low_half-level.ensures in
    let none = sym (c.misses.ensures ∙ same c.args.self.now.one) ∙ c.if-misses-eq0.true in
    elim says.each [
      | inl o ↦ (let no : true ≡ false = sym o.alone ∙ c.if-self.false in absurd cc)
      | inr o ↦ first_yes c.args.before c.args.now from q c.args.self.now alts o none (λ is. absurd (c.if-misses-eq0-2.false ((c.misses-then-misses-eq0.ensures ∙ same c.args.self.now.two) ∙ is)))
    ]

pub returns-then-misses-eq0-3 : goal.returns-then-misses-eq0-3
returns-then-misses-eq0-3 c = λ alts from q says.
    let same = halves_miss c.low_half.result c.low_half-level.result c.args.before c.args.now c.low_half.ensures c.low_half-level.ensures in
    let also = sym (c.misses-2.ensures ∙ same c.args.self.now.two) ∙ c.if-misses-eq0-3.true in
    elim says.each [
      | inl o ↦ absurd (c.if-misses-eq0.false ((c.misses.ensures ∙ same c.args.self.now.one) ∙ ap (λ (m : Masks). missing_in m c.args.before c.args.now) (sym o.again) ∙ also))
      | inr o ↦ second_yes c.args.before c.args.now from q c.args.self.now alts o (λ is. absurd (c.if-misses-eq0.false ((c.misses.ensures ∙ same c.args.self.now.one) ∙ is))) also
    ]

pub returns : goal.returns
returns c = λ alts from q says.
    let same = halves_miss c.low_half.result c.low_half-level.result c.args.before c.args.now c.low_half.ensures c.low_half-level.ensures in
    elim says.each [
      | inl o ↦ one_no c.args.before c.args.now from q c.args.self.now alts o (λ is. absurd (c.if-misses-eq0.false ((c.misses.ensures ∙ same c.args.self.now.one) ∙ is)))
      | inr o ↦ neither c.args.before c.args.now from q c.args.self.now alts o (λ is. absurd (c.if-misses-eq0.false ((c.misses.ensures ∙ same c.args.self.now.one) ∙ is))) (λ is. absurd (c.if-misses-eq0-3.false ((c.misses-2.ensures ∙ same c.args.self.now.two) ∙ is)))
    ]
