-- What alternatives say of lines.
use Rattle.std.proofs.Common.{◌≡◌, ◌≢◌, inl, inr, ℕ, zero, suc, ◌<◌, ◌^◌, Bool, true, false, List}
use Rattle.std.proofs.Common.{[], ◌∷◌, slice_get, Option, Some, refl, sym, ◌∙◌, ap, subst, arith}
use Rattle.std.specs.Prelude.{unwrap_or}
use Rattle.std.specs.Int.{bit_at}
use Rattle.std.proofs.lemmas.Bool.{cases_eq, true≢false}
use Rattle.std.proofs.lemmas.Bool.Decides.{nat_tests}
use Rattle.std.proofs.lemmas.Option.{slice_get_within}
use Rattle.std.proofs.lemmas.Nat.Bits.{bit_at-zero, bit_at-lt, bit_at-pow_same, bit_at-pow_other}
use Rattle.la_base.specs.Samples.{is_high}
use Rattle.wait_cond.specs.declared.alt.Alt.{Alt}
use Rattle.wait_cond.specs.Meets.{MeetsAt}
use Rattle.wait_cond.specs.Stops.{MetSet}
use Rattle.list_cuts.specs.Bits.{bit_of}
use Rattle.wait_cond.proofs.ChainLemmas.{one_set}

-- no line stands in the mask 0, and one in the mask of one line
pub no_line : {P : Type 0} (line : ℕ) → bit_at 0 line ≡ 1 → P
no_line line one = absurd (omega (arith, one, bit_at-zero line))

pub only_line : (own line : ℕ) → bit_at (2 ^ own) line ≡ 1 → line ≡ own
only_line own line one = elim (cases_eq line own) [
  | inl same ↦ same
  | inr other ↦ absurd (omega (arith, one, bit_at-pow_other own line other))
]

pub at_line : (own : ℕ) (P : ℕ → Type 0) → P own → (line : ℕ) → bit_at (2 ^ own) line ≡ 1 → P line
at_line own P has line one = subst P (sym (only_line own line one)) has

-- a line is high where its bit is 1, and else its bit is 0
pub high_is : (value line : ℕ) → bit_at value line ≡ 1 → is_high value line ≡ true
high_is value line one = grind (arith, nat_tests)

pub high_bit : (value line : ℕ) → is_high value line ≡ true → bit_at value line ≡ 1
high_bit value line high = grind (arith, nat_tests)

pub low_is : (value line : ℕ) → bit_at value line ≡ 0 → is_high value line ≡ false
low_is value line none = grind (arith, nat_tests)

pub low_bit : (value line : ℕ) → is_high value line ≡ false → bit_at value line ≡ 0
low_bit value line low = elim (cases_eq (bit_at value line) 1) [
  | inl one ↦ absurd (true≢false (sym (high_is value line one) ∙ low))
  | inr other ↦ omega (arith, other, bit_at-lt value line)
]

pub level_bit : (value line : ℕ) → bit_at value line ≡ bit_of (is_high value line)
level_bit value line = by (is_high value line) refl
  where
    by : (b : Bool) → is_high value line ≡ b → bit_at value line ≡ bit_of b
    by true high = high_bit value line high
    by false low = low_bit value line low

-- one alternative is met and no other, and none is
module _ (alts : List Alt) (before : Option ℕ) (now from q : ℕ) where
  pub one_met : (j : ℕ) (alt : Alt) → slice_get alts j ≡ Some alt → MeetsAt alt before now from q
      → ((i : ℕ) (other : Alt) → slice_get alts i ≡ Some other → MeetsAt other before now from q
      → i ≡ j) → MetSet alts before now from q (2 ^ j)
  one_met j alt at meets only = record {
    each = λ i one. (
      alt,
      subst (λ (n : ℕ). slice_get alts n ≡ Some alt)
          (sym (only_line j i one)) at,
      meets,
    );
    all = λ i other there meet. subst (λ (n : ℕ). bit_at (2 ^ j) n ≡ 1)
        (sym (only i other there meet)) (bit_at-pow_same j);
  }

  pub none_met : ((i : ℕ) (alt : Alt) → slice_get alts i ≡ Some alt → MeetsAt alt before now from q
      → ⊥) → MetSet alts before now from q 0
  none_met none = record {
    each = λ i one. no_line i one;
    all = λ i alt at meets. absurd (none i alt at meets);
  }

  -- the alternative at a place is the one that stands there
  pub same_alt : (alt other : Alt) → Some alt ≡ Some other → MeetsAt other before now from q
      → MeetsAt alt before now from q
  same_alt alt other is meets =
      subst (λ (a : Alt). MeetsAt a before now from q)
      (sym (ap (λ (o : Option Alt). unwrap_or o alt) is)) meets

-- a wait for one alternative meets it exactly where a test says so
module _ (alt : Alt) (before : Option ℕ) (now from q met : ℕ) (b : Bool)
    (yes : b ≡ true → MeetsAt alt before now from q)
    (then_ : MeetsAt alt before now from q → b ≡ true) where
  pub alone_none : MetSet (alt ∷ []) before now from q 0 → b ≡ false
  alone_none set = by b refl
    where
      by : (t : Bool) → b ≡ t → t ≡ false
      by false is = refl
      by true is = no_line 0 (set.all 0 alt refl (yes is))

  nothing : b ≡ false → MetSet (alt ∷ []) before now from q 0
  nothing not = none_met (alt ∷ []) before now from q (λ i other at meets. none_at i other at meets)
    where
      none_at : (i : ℕ) (other : Alt) → slice_get (alt ∷ []) i ≡ Some other
          → MeetsAt other before now from q → ⊥
      none_at zero other at meets =
          true≢false (sym (then_ (same_alt (alt ∷ []) before now from q alt other at meets)) ∙ not)
      none_at (suc i) other at meets =
          let within : suc i < 1 = slice_get_within (alt ∷ []) (suc i) other at in
          absurd (omega (arith, within))

  pub alone_some : MetSet (alt ∷ []) before now from q met → met ≢ 0 → b ≡ true
  alone_some set some = by b refl
    where
      by : (t : Bool) → b ≡ t → t ≡ true
      by true is = refl
      by false is = absurd (some (one_set (alt ∷ []) before now from q met 0 set (nothing is)))

-- where nothing is met, no alternative is
pub met_none : (alts : List Alt) (before : Option ℕ) (now from q i : ℕ) (alt : Alt)
    → MetSet alts before now from q 0 → slice_get alts i ≡ Some alt → MeetsAt alt before now from q
    → ⊥
met_none alts before now from q i alt set at meets = no_line i (set.all i alt at meets)

-- where something is met, not every alternative fails
pub met_some : (alts : List Alt) (before : Option ℕ) (now from q met : ℕ)
    → MetSet alts before now from q met → met ≢ 0
    → ((i : ℕ) (alt : Alt) → slice_get alts i ≡ Some alt → MeetsAt alt before now from q → ⊥) → ⊥
met_some alts before now from q met set some none =
    some (one_set alts before now from q met 0 set (none_met alts before now from q none))
