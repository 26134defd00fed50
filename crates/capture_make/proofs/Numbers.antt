-- Numbers of a seed, and the transactions that they draw.
use Rattle.std.proofs.Common.{◌≡◌, ℕ, zero, suc, ◌+◌, ◌*◌, ◌/◌, ◌%◌, List, ◌∷◌, refl, sym, ◌∙◌, ap, arith}
use Rattle.capture_make.specs.declared.drawing.Sent.{Sent}
use Rattle.capture_make.specs.Made.{next_number, number_at, sent, sent_from}
use Rattle.capture_make.specs.Behind.{number_behind, sent_behind, all_behind}

pub number_zero : (seed : ℕ) → number_at seed 0 ≡ seed
unfolding number_at
number_zero seed = refl

pub number_more : (seed n : ℕ) → number_at seed (n + 1) ≡ next_number (number_at seed n)
unfolding number_at
number_more seed n =
    let next : n + 1 ≡ suc n = omega arith in
    ap (number_at seed) next

module _ (seed j : ℕ) where
  abbrev at : ℕ → ℕ
  at n = number_at seed n

  next : (k : ℕ) → 4 * j + (k + 1) ≡ 4 * j + k + 1
  next k = omega arith

  one : at (4 * j + 1) ≡ next_number (at (4 * j))
  one = number_more seed (4 * j)

  two : at (4 * j + 2) ≡ next_number (next_number (at (4 * j)))
  two = ap at (next 1) ∙ number_more seed (4 * j + 1) ∙ ap next_number one

  three : at (4 * j + 3) ≡ next_number (next_number (next_number (at (4 * j))))
  three = ap at (next 2) ∙ number_more seed (4 * j + 2) ∙ ap next_number two

  four : at (4 * j + 4) ≡ number_behind (at (4 * j))
  four = ap at (next 3) ∙ number_more seed (4 * j + 3) ∙ ap next_number three

  -- what the transaction behind a number sends is what it sends by the numbers of the seed
  sent_is : sent_behind (at (4 * j)) ≡ sent seed j
  sent_is = (λ i. sent_by (sym one i) (sym two i) (sym three i) (sym four i))
    where
      sent_by : ℕ → ℕ → ℕ → ℕ → Sent
      sent_by a b c d = record { address = 8 + a / 65536 % 256 % 112; first = b / 65536 % 256; second = c / 65536 % 256; serial = d / 65536 % 256 }

  behind_is : number_behind (at (4 * j)) ≡ at (4 * suc j)
  behind_is =
      let next_one : 4 * j + 4 ≡ 4 * suc j = omega arith in
      sym four ∙ ap at next_one

pub all_is : (seed j count : ℕ) → all_behind (number_at seed (4 * j)) count ≡ sent_from seed j count
all_is seed j zero = refl
all_is seed j (suc count) =
    (λ i. sent_is seed j i ∷ all_behind (behind_is seed j i) count)
    ∙ ap (λ (l : List Sent). sent seed j ∷ l) (all_is seed (suc j) count)
