-- A word without its first hyphen.
use Rattle.std.proofs.Common.{◌≡◌, ◌≢◌, ℕ, Bool, true, false, List, [], ◌∷◌, Option, Some, None, option_map, MatchOption, Bor, refl, sym, ap, arith}
use Rattle.std.specs.Prelude.{◌==◌}
use Rattle.std.proofs.lemmas.Bool.Decides.{nat_tests}
use Rattle.words.specs.Lexer.{behind_dash}

-- what `strip_prefix` answers for a hyphen
pub behind_dash-from : (word : List ℕ) (r : Option (Bor (List ℕ)))
    → MatchOption r ((rest : List ℕ) → word ≢ 45 ∷ rest) (λ x. word ≡ 45 ∷ x.now) → option_map (λ s. s.now) r ≡ behind_dash word
behind_dash-from [] None h = refl
behind_dash-from [] (Some x) h = cc
behind_dash-from (b ∷ bs) None h = by (b == 45) refl
  where
    by : (t : Bool) → (b == 45) ≡ t → None ≡ behind_dash (b ∷ bs)
    by true e = absurd (h bs (ap (λ n. n ∷ bs) (grind (arith, nat_tests))))
    by false e = rw e refl
behind_dash-from (b ∷ bs) (Some x) h = sym (ap behind_dash h)
