-- Digits in base 16, one after another from the last one on.
use Rattle.std.proofs.Common.{◌≡◌, ℕ, zero, suc, ◌+◌, ◌-◌, ◌/◌, ◌%◌, ◌^◌, ◌<◌, ◌≤◌, Bool, true, false, cond, eqb, List, [], ◌∷◌, length, refl, sym, ap, ◌∙◌, arith, eqb-true, eq-eqb, pow-suc, drop, set}
use Rattle.std.proofs.lemmas.List.{drop-set}
use Rattle.std.specs.Fmt.{digits, digits_onto, digit_glyph}

-- at most k digits of a number, from the last one on, in front of those behind them
unfoldable pub hex_onto : ℕ → ℕ → List ℕ → List ℕ
hex_onto k n behind = digits_onto k 16 true n behind

pub hex_onto_all : (n : ℕ) → hex_onto 64 n [] ≡ digits 16 true n
unfolding hex_onto digits
hex_onto_all n = refl

by_test : (b : Bool) (k n : ℕ) (behind : List ℕ) → eqb (n / 16) 0 ≡ b → hex_onto (suc k) n behind ≡ cond b (digit_glyph true (n % 16) ∷ behind) (hex_onto k (n / 16) (digit_glyph true (n % 16) ∷ behind))
unfolding hex_onto
by_test b k n behind e =
    ap (λ (t : Bool). cond t (digit_glyph true (n % 16) ∷ behind) (digits_onto k 16 true (n / 16) (digit_glyph true (n % 16) ∷ behind))) e

some_left : (n : ℕ) (b : Bool) → 16 ≤ n → eqb (n / 16) 0 ≡ b → b ≡ false
some_left n true more e = let none = eqb-true (n / 16) 0 e in absurd (omega arith)
some_left n false more e = refl

pub hex_onto_last : (k n : ℕ) (behind : List ℕ) → n < 16 → hex_onto (suc k) n behind ≡ digit_glyph true n ∷ behind
hex_onto_last k n behind small =
    let none : n / 16 ≡ 0 = omega arith in
    let same : n % 16 ≡ n = omega arith in
    by_test true k n behind (eq-eqb (n / 16) 0 none) ∙ ap (λ (d : ℕ). digit_glyph true d ∷ behind) same

pub hex_onto_step : (k n : ℕ) (behind : List ℕ) → 16 ≤ n → hex_onto (suc k) n behind ≡ hex_onto k (n / 16) (digit_glyph true (n % 16) ∷ behind)
hex_onto_step k n behind more = by_test false k n behind (some_left n (eqb (n / 16) 0) more refl)

pub hex_nothing : (n : ℕ) (behind : List ℕ) → hex_onto 0 n behind ≡ behind
unfolding hex_onto
hex_nothing n behind = refl

pub fewer : (n k : ℕ) → n < 16 ^ (k + 1) → n / 16 < 16 ^ k
fewer n k small = let next = pow-suc 16 k in let same : 16 ^ (k + 1) ≡ 16 ^ suc k = ap (λ (j : ℕ). 16 ^ j) (omega arith) in omega arith

pub some_places : (start rest : ℕ) → 16 ≤ rest → rest < 16 ^ (start + 1) → 1 ≤ start
some_places zero rest some small = let one : 16 ^ (0 + 1) ≡ 16 = refl in absurd (omega arith)
some_places (suc start) rest some small = omega arith

-- places below which one more digit is written
module _ (places : List ℕ) (start rest : ℕ) (within : start < length places) where
  more_places : (some : 16 ≤ rest) → hex_onto (start + 49) rest (drop (start + 1) places) ≡ hex_onto (start + 48) (rest / 16) (drop start (set places start (digit_glyph true (rest % 16))))
  more_places some =
      let count : start + 49 ≡ suc (start + 48) = omega arith in
      ap (λ (k : ℕ). hex_onto k rest (drop (start + 1) places)) count
      ∙ hex_onto_step (start + 48) rest (drop (start + 1) places) some
      ∙ ap (λ (l : List ℕ). hex_onto (start + 48) (rest / 16) l) (sym (drop-set places start (digit_glyph true (rest % 16)) within))

  pub next_places : (some : 16 ≤ rest) (above : 1 ≤ start) → hex_onto (start - 1 + 49) (rest / 16) (drop (start - 1 + 1) (set places start (digit_glyph true (rest % 16)))) ≡ hex_onto (start + 49) rest (drop (start + 1) places)
  next_places some above =
      let count : start - 1 + 49 ≡ start + 48 = omega arith in
      let same : start - 1 + 1 ≡ start = omega arith in
      ap (λ (k : ℕ). hex_onto k (rest / 16) (drop (start - 1 + 1) (set places start (digit_glyph true (rest % 16))))) count
      ∙ ap (λ (i : ℕ). hex_onto (start + 48) (rest / 16) (drop i (set places start (digit_glyph true (rest % 16))))) same
      ∙ sym (more_places some)

  pub last_place : (small : rest < 16) → hex_onto (start + 49) rest (drop (start + 1) places) ≡ drop start (set places start (digit_glyph true rest))
  last_place small =
      let count : start + 49 ≡ suc (start + 48) = omega arith in
      ap (λ (k : ℕ). hex_onto k rest (drop (start + 1) places)) count
      ∙ hex_onto_last (start + 48) rest (drop (start + 1) places) small
      ∙ sym (drop-set places start (digit_glyph true rest) within)
