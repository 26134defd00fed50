-- The first sample at which a standing value meets one of the alternatives, one alternative after another.
use Rattle.std.proofs.Common.{◌≡◌, ◌≢◌, inl, inr, ⊎_elim, ℕ, zero, suc, ◌+◌, ◌-◌, ◌≤◌, ◌<◌, min, max, List, [], ◌∷◌, ◌++◌, length, Some, sym, subst, arith}
use Rattle.std.specs.Int.{bit_at}
use Rattle.std.proofs.lemmas.Bool.{cases_lt}
use Rattle.std.proofs.lemmas.Nat.Bits.{bit_at-zero}
use Rattle.wait_cond.specs.Meets.{LinesHold, MeetsAt}
use Rattle.wait_cond.specs.Standing.{MetStanding, FirstStanding}
use Rattle.wait_cond.specs.Stops.{MetSet}
use Rattle.wait_cond.specs.declared.alt.Alt.{Alt}
use Rattle.wait_cond.proofs.Sets.{get_push, get_front, get_last}

module _ (value from begin end : ℕ) where
  module _ (alts : List Alt) (alt : Alt) (first : ℕ) (so_far : FirstStanding alts value from begin end first) where
    -- one more, whose terms on lines don't hold
    pub standing_pass : ¬ LinesHold alt (Some value) value → FirstStanding (alts ++ alt ∷ []) value from begin end first
    standing_pass not = record {
      after = so_far.after;
      within = so_far.within;
      none = λ q after below m. ⊎_elim (λ in_front. so_far.none q after below (m.0, m.1, in_front, m.3))
          (λ last. not (subst (λ (a : Alt). LinesHold a (Some value) value) (sym last.1) m.3.lines)) (get_push alts alt m.0 m.1 m.2);
      some = λ less. let s = so_far.some less in (s.0, s.1, get_front alts (alt ∷ []) s.0 s.1 s.2, s.3);
    }

    -- one more, whose terms on lines hold
    pub standing_more : from ≤ begin → LinesHold alt (Some value) value → (new : ℕ) → new ≡ min first (max begin (from + alt.skip - 1)) → FirstStanding (alts ++ alt ∷ []) value from begin end new
    standing_more early holds new is = record {
      after = omega (arith, so_far.after);
      within = omega (arith, so_far.within);
      none = λ q after below m. ⊎_elim (λ in_front. so_far.none q after (omega (arith, below, is)) (m.0, m.1, in_front, m.3))
          (λ last. too_early q after below (subst (λ (a : Alt). MeetsAt a (Some value) value from q) (sym last.1) m.3)) (get_push alts alt m.0 m.1 m.2);
      some = λ less. elim (cases_lt new first) [
        | inl sooner ↦ (length alts, alt, get_last alts alt, record { lines = holds; skipped = λ some. omega (arith, is, sooner) })
        | inr least ↦
            let same : first ≡ new = omega (arith, is, least) in
            let s = so_far.some (omega (arith, same, less)) in
            (s.0, s.1, get_front alts (alt ∷ []) s.0 s.1 s.2, subst (λ (n : ℕ). MeetsAt s.1 (Some value) value from n) same s.3)
      ];
    }
      where
        too_early : (q : ℕ) → begin ≤ q → q < new → ¬ MeetsAt alt (Some value) value from q
        too_early q after below m = by alt.skip m.skipped is
          where
            by : (skip : ℕ) → (skip ≢ 0 → from + skip ≤ q + 1) → new ≡ min first (max begin (from + skip - 1)) → ⊥
            by zero far is = absurd (omega (arith, early, after, below, is))
            by (suc n) far is = absurd (omega (arith, after, below, is, far (λ none. absurd (omega (arith, none)))))

  -- no alternative, none met before the end
  pub none_standing_yet : begin ≤ end → FirstStanding [] value from begin end end
  none_standing_yet order = record { after = order; within = omega arith; none = λ q after below m. absurd cc; some = λ less. absurd (omega (arith, less)) }

-- where one is met, the set isn't empty
pub some_standing : (alts : List Alt) (value from q met : ℕ) → MetStanding alts value from q → MetSet alts (Some value) value from q met → met ≢ 0
some_standing alts value from q met m set none = absurd (omega (arith, set.all m.0 m.1 m.2 m.3, bit_at_none))
  where
    bit_at_none : bit_at met m.0 ≡ 0
    bit_at_none = subst (λ (n : ℕ). bit_at n m.0 ≡ 0) (sym none) (bit_at-zero m.0)
