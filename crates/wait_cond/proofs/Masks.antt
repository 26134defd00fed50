-- Masks of lines, by their bits.
use Rattle.std.proofs.Common.{◌≡◌, ◌⊎◌, inl, inr, ⊎_elim, ℕ, zero, suc, ◌+◌, ◌-◌, ◌*◌, ◌^◌, ◌<◌, ◌%◌, min, sym, subst, bit_and, bit_or, bit_xor, Bool, true, false, ◌==◌, Some, refl, ◌∙◌, ap, arith}
use Rattle.std.specs.Int.{Width, bit_at}
use mir.Val.{bits}
use Rattle.std.specs.Bool.{MatchBool}
use Rattle.std.proofs.lemmas.Nat.{and-not, and_comm}
use Rattle.std.proofs.lemmas.Nat.Bits.{bit_at_and, bit_at_or, bit_at_xor, bit_at-lt, bit_at-zero, bit_at_set_same, bit_at_set_other, same_from_bits}
use Rattle.std.proofs.lemmas.Bool.{cases_eq, false≢true}
use Rattle.std.proofs.lemmas.Bool.Decides.{Decides-eqb}
use Rattle.wait_cond.specs.Meets.{Rises, Falls, AllIn, NoneIn, Which}

-- a bit is 0 or 1
bit_cases : (n i : ℕ) → (bit_at n i ≡ 0) ⊎ (bit_at n i ≡ 1)
bit_cases n i = elim (cases_eq (bit_at n i) 0) [ inl is ↦ inl is | inr not ↦ inr (omega (arith, bit_at-lt n i)) ]

pub all_in_yes : (mask lines : ℕ) → bit_and mask lines ≡ mask → AllIn mask lines
all_in_yes mask lines is line one =
    let both = bit_at_and mask lines line in
    let same : bit_at (bit_and mask lines) line ≡ bit_at mask line = ap (λ (n : ℕ). bit_at n line) is in
    omega (arith, both, same, one, bit_at-lt lines line)

pub all_in_no : (mask lines : ℕ) → AllIn mask lines → bit_and mask lines ≡ mask
all_in_no mask lines each = same_from_bits (bit_and mask lines) mask at
  where
    at : (i : ℕ) → bit_at (bit_and mask lines) i ≡ bit_at mask i
    at i = elim (bit_cases mask i) [
      | inl is ↦ omega (arith, bit_at_and mask lines i, is)
      | inr is ↦ omega (arith, bit_at_and mask lines i, is, each i is)
    ]

-- the same by the lines that it isn't one of
others_split : (width mask lines : ℕ) → mask < 2 ^ width → lines < 2 ^ width → bit_and mask (2 ^ width - 1 - lines) + bit_and mask lines ≡ mask
others_split width mask lines few small = (λ i. and_comm mask (2 ^ width - 1 - lines) i + and_comm mask lines i) ∙ and-not width lines mask small few

pub all_in_none : (width mask lines : ℕ) → mask < 2 ^ width → lines < 2 ^ width → bit_and mask (2 ^ width - 1 - lines) ≡ 0 → AllIn mask lines
all_in_none width mask lines few small none = all_in_yes mask lines (omega (arith, others_split width mask lines few small, none))

pub none_all_in : (width mask lines : ℕ) → mask < 2 ^ width → lines < 2 ^ width → AllIn mask lines → bit_and mask (2 ^ width - 1 - lines) ≡ 0
none_all_in width mask lines few small each = omega (arith, others_split width mask lines few small, all_in_no mask lines each)

pub none_in_yes : (mask lines : ℕ) → bit_and mask lines ≡ 0 → NoneIn mask lines
none_in_yes mask lines is line one =
    let both = bit_at_and mask lines line in
    let same : bit_at (bit_and mask lines) line ≡ 0 = ap (λ (n : ℕ). bit_at n line) is ∙ bit_at-zero line in
    omega (arith, both, same, one)

pub none_in_no : (mask lines : ℕ) → NoneIn mask lines → bit_and mask lines ≡ 0
none_in_no mask lines each = same_from_bits (bit_and mask lines) 0 at
  where
    at : (i : ℕ) → bit_at (bit_and mask lines) i ≡ bit_at 0 i
    at i = elim (bit_cases mask i) [
      | inl is ↦ omega (arith, bit_at_and mask lines i, is, bit_at-zero i)
      | inr is ↦ omega (arith, bit_at_and mask lines i, is, each i is, bit_at-zero i)
    ]

-- a test of two numbers that decides P
pub by_test : (a b : ℕ) (P : Type 0) → (a ≡ b → P) → (P → a ≡ b) → MatchBool (a == b) P (¬ P)
by_test a b P holds back = by (a == b) (Decides-eqb a b)
  where
    by : (t : Bool) → ((t ≡ true → a ≡ b) × (a ≡ b → t ≡ true)) → MatchBool t P (¬ P)
    by true d = holds (d.0 refl)
    by false d = λ p. absurd (false≢true (d.1 (back p)))

-- a change to y, by the bits before and now
change : (a b x y : ℕ) → a < 2 → b < 2 → x ≡ (a + b) % 2 → y ≡ min x b → (y ≡ 1 → (a ≡ 0) × (b ≡ 1)) × (a ≡ 0 → b ≡ 1 → y ≡ 1)
change zero zero x y p q e f = (λ one. absurd (omega (arith, one, e, f)), λ was is. absurd (omega (arith, is)))
change zero (suc zero) x y p q e f = (λ one. (refl, refl), λ was is. omega (arith, e, f))
change (suc zero) zero x y p q e f = (λ one. absurd (omega (arith, one, e, f)), λ was is. absurd (omega (arith, is)))
change (suc zero) (suc zero) x y p q e f = (λ one. absurd (omega (arith, one, e, f)), λ was is. absurd (omega (arith, was)))
change (suc (suc a)) b x y p q e f = absurd (omega (arith, p))
change zero (suc (suc b)) x y p q e f = absurd (omega (arith, q))
change (suc zero) (suc (suc b)) x y p q e f = absurd (omega (arith, q))

-- the lines that changed and are high now rise
pub rises_are : (before now : ℕ) → Which (bit_and (bit_xor before now) now) (Rises (Some before) now)
rises_are before now = record { each = λ line one. (at line).0 one; all = λ line h. (at line).1 h.0 h.1 }
  where
    at : (line : ℕ) → (bit_at (bit_and (bit_xor before now) now) line ≡ 1 → (bit_at before line ≡ 0) × (bit_at now line ≡ 1)) × (bit_at before line ≡ 0 → bit_at now line ≡ 1 → bit_at (bit_and (bit_xor before now) now) line ≡ 1)
    at line = change (bit_at before line) (bit_at now line) _ _ (bit_at-lt before line) (bit_at-lt now line) (bit_at_xor before now line) (bit_at_and (bit_xor before now) now line)

-- those that changed and were high before fall
pub falls_are : (before now : ℕ) → Which (bit_and (bit_xor before now) before) (Falls (Some before) now)
falls_are before now = record { each = λ line one. let r = (at line).0 one in (r.1, r.0); all = λ line h. (at line).1 h.1 h.0 }
  where
    at : (line : ℕ) → (bit_at (bit_and (bit_xor before now) before) line ≡ 1 → (bit_at now line ≡ 0) × (bit_at before line ≡ 1)) × (bit_at now line ≡ 0 → bit_at before line ≡ 1 → bit_at (bit_and (bit_xor before now) before) line ≡ 1)
    at line =
        let sums : bit_at before line + bit_at now line ≡ bit_at now line + bit_at before line = omega arith in
        let turned : bit_at (bit_xor before now) line ≡ (bit_at now line + bit_at before line) % 2 = bit_at_xor before now line ∙ ap (λ (n : ℕ). n % 2) sums in
        change (bit_at now line) (bit_at before line) _ _ (bit_at-lt now line) (bit_at-lt before line) turned (bit_at_and (bit_xor before now) before line)

-- of either
pub either : (a b : ℕ) (P Q : ℕ → Type 0) → Which a P → Which b Q → Which (bit_or a b) (λ line. P line ⊎ Q line)
either a b P Q wa wb = record {
  each = λ line one. elim (bit_cases a line) [
    | inl none ↦ inr (wb.each line (omega (arith, one, none, bit_at_or a b line)))
    | inr some ↦ inl (wa.each line some)
  ];
  all = λ line h. ⊎_elim
      (λ p. let s = wa.all line p in omega (arith, s, bit_at_or a b line, bit_at-lt b line, bit_at-lt a line))
      (λ q. let s = wb.all line q in omega (arith, s, bit_at_or a b line, bit_at-lt a line, bit_at-lt b line)) h;
}

-- a line outside is one of which P doesn't hold
pub outside : (a : ℕ) (P : ℕ → Type 0) → Which a P → (line : ℕ) → bit_at a line ≡ 0 → ¬ (P line)
outside a P w line none p = absurd (omega (arith, none, w.all line p))

pub inside : (a : ℕ) (P : ℕ → Type 0) → Which a P → (line : ℕ) → ¬ (P line) → bit_at a line ≡ 0
inside a P w line not = elim (bit_cases a line) [ inl none ↦ none | inr some ↦ absurd (not (w.each line some)) ]

-- a test whose fact is another one's
pub like : (t : Bool) (P Q : Type 0) → (P → Q) → (Q → P) → MatchBool t P (¬ P) → MatchBool t Q (¬ Q)
like true P Q there back h = there h
like false P Q there back h = λ q. h (back q)

-- one line more in a mask
pub one_more : (w : Width) (mask line : ℕ) → line < bits w → Which (bit_or mask (1 * 2 ^ line % 2 ^ bits w)) (λ other. (bit_at mask other ≡ 1) ⊎ (other ≡ line))
one_more w mask line within = record {
  each = λ other one. elim (cases_eq other line) [
    | inl same ↦ inr same
    | inr not ↦ inl (sym (bit_at_set_other w mask line within other not) ∙ one)
  ];
  all = λ other h. elim (cases_eq other line) [
    | inl same ↦ subst (λ (n : ℕ). bit_at (bit_or mask (1 * 2 ^ line % 2 ^ bits w)) n ≡ 1) (sym same) (bit_at_set_same w mask line within)
    | inr not ↦ bit_at_set_other w mask line within other not ∙ ⊎_elim (λ old. old) (λ same. absurd (not same)) h
  ];
}
