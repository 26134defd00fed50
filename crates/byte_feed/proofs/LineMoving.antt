-- One taking of bytes after another, of which no carriage return is kept.
use Rattle.std.proofs.Common.{◌≡◌, ℕ, ◌≤◌, ◌==◌, not, List, [], ◌∷◌, ◌++◌, length, sym, ◌∙◌, ap, arith, append_assoc, slice_index, Bool, true, false, cond}
use Rattle.std.proofs.lemmas.List.{get_or_append_left}
use Rattle.std.proofs.lemmas.List.Elements.{filter-append}
use Rattle.byte_feed.specs.Lines.{is_feed, kept}
use Rattle.byte_feed.specs.LineMoves.{AllIn}

pub kept_append : (a b : List ℕ) → kept (a ++ b) ≡ kept a ++ kept b
kept_append a b = filter-append (λ byte. not (byte == 13)) a b

pub kept_on : (old a b mid new : List ℕ) → mid ≡ old ++ kept a → new ≡ mid ++ kept b → new ≡ old ++ kept (a ++ b)
kept_on old a b mid new first second =
    second ∙ ap (λ (l : List ℕ). l ++ kept b) first ∙ append_assoc old (kept a) (kept b) ∙ ap (λ (l : List ℕ). old ++ l) (sym (kept_append a b))

pub kept_len : (bytes : List ℕ) → length (kept bytes) ≤ length bytes
kept_len [] = omega arith
kept_len (byte ∷ bytes) = by_test (byte == 13) (kept_len bytes) where
  by_test : (t : Bool) → length (kept bytes) ≤ length bytes → length (cond (not t) (byte ∷ kept bytes) (kept bytes)) ≤ length (byte ∷ bytes)
  by_test true rest = omega (arith, rest)
  by_test false rest = omega (arith, rest)

-- what was of one line is so with more bytes behind
pub in_more : (old new y : List ℕ) (n : ℕ) → n ≤ length old → new ≡ old ++ y → AllIn old n → AllIn new n
in_more old new y n within is one k below = ap (λ (l : List ℕ). is_feed (slice_index l k)) is ∙ ap is_feed (get_or_append_left old y 0 k (omega arith)) ∙ one k below
