-- Lines of which the last two digits of the sample, or what stands behind them, are made anew.
use Rattle.std.proofs.Common.{◌≡◌, ℕ, ◌+◌, ◌*◌, ◌/◌, ◌%◌, ◌^◌, ◌<◌, ◌≤◌, List, [], ◌∷◌, ◌++◌, length, take, drop, sym, ap, ◌∙◌, arith, append_assoc, length-append, take_at, drop_at, length-take-le}
use Rattle.std.specs.Fmt.{decimal}
use Rattle.std.proofs.lemmas.Fmt.{decimal_step}
use Rattle.line_text.proofs.Widths.{decimal_room}
use Rattle.listing_out.specs.StopLines.{Mends, behind_sample, line_of}

-- the two digits of a number below 100
abbrev pub two : ℕ → List ℕ
two last = (48 + last / 10) ∷ (48 + last % 10) ∷ []

-- a number from 100 on is written as its hundreds and two digits more
pub hundreds_two : (at : ℕ) → 100 ≤ at → at < 2 ^ 64 → decimal at ≡ decimal (at / 100) ++ two (at % 100)
hundreds_two at some fits =
    let hundreds : at / 10 / 10 ≡ at / 100 = omega arith in
    let ten : at / 10 % 10 ≡ at % 100 / 10 = omega arith in
    let one : at % 10 ≡ at % 100 % 10 = omega arith in
    decimal_step at (omega arith) fits
    ∙ ap (λ (l : List ℕ). l ++ (48 + at % 10) ∷ []) (decimal_step (at / 10) (omega arith) (omega arith))
    ∙ append_assoc (decimal (at / 10 / 10)) ((48 + at / 10 % 10) ∷ []) ((48 + at % 10) ∷ [])
    ∙ (λ i. decimal (hundreds i) ++ (48 + ten i) ∷ (48 + one i) ∷ [])

pub some_two : (at : ℕ) → 100 ≤ at → at < 2 ^ 64 → 2 ≤ length (decimal at)
some_two at some fits = omega (arith, ap length (hundreds_two at some fits), length-append (decimal (at / 100)) (two (at % 100)))

-- the line of a sample from 100 on
pub whole_mends : (line : List ℕ) (at low hundreds set : ℕ) → 100 ≤ at → at < 2 ^ 64 → line ≡ line_of (at, set) → low + 2 ≡ length (decimal at) → hundreds ≡ at / 100 * 100 → Mends line low hundreds set
whole_mends line at low hundreds set some fits is place round =
    let front = decimal (at / 100) in
    let last = two (at % 100) in
    let behind = behind_sample set in
    let digits = hundreds_two at some fits in
    let count : low + 2 ≡ length front + 2 = place ∙ ap length digits ∙ length-append front last in
    let same : at / 100 ≡ hundreds / 100 = omega (arith, round) in
    let parts : line ≡ front ++ (last ++ behind) = is ∙ ap (λ (l : List ℕ). l ++ behind) digits ∙ append_assoc front last behind in
    record {
      room = omega (arith, place, ap length is, length-append (decimal at) behind);
      round = omega (arith, round);
      front = ap (take low) parts ∙ take_at front (last ++ behind) low (omega (arith, count)) ∙ ap decimal same;
      behind = ap (drop (low + 2)) is ∙ drop_at (decimal at) behind (low + 2) (sym place);
    }

module _ (line : List ℕ) (low hundreds set at last : ℕ) (mends : Mends line low hundreds set) (some : 0 < hundreds) (few : last < 100) (sum : at ≡ hundreds + last) (fits : at < 2 ^ 64) where
  digits : decimal at ≡ take low line ++ two last
  digits =
      let same : at / 100 ≡ hundreds / 100 = omega (arith, sum, mends.round) in
      let rest : at % 100 ≡ last = omega (arith, sum, mends.round) in
      hundreds_two at (omega (arith, sum, some, mends.round)) fits ∙ (λ i. decimal (same i) ++ two (rest i)) ∙ ap (λ (l : List ℕ). l ++ two last) (sym mends.front)

  -- its last two digits are made anew
  pub mended : take low line ++ (48 + last / 10) ∷ (48 + last % 10) ∷ drop (low + 2) line ≡ line_of (at, set)
  mended =
      sym (append_assoc (take low line) (two last) (drop (low + 2) line))
      ∙ (λ i. sym digits i ++ mends.behind i)

  -- all that stands behind its hundreds is made anew
  pub digits_anew : (take low line ++ (48 + last / 10) ∷ []) ++ (48 + last % 10) ∷ [] ≡ decimal at
  digits_anew = append_assoc (take low line) ((48 + last / 10) ∷ []) ((48 + last % 10) ∷ []) ∙ sym digits

  -- and the line that it becomes may be mended as well
  pub mends_again : (next : List ℕ) (met : ℕ) → next ≡ line_of (at, met) → Mends next low hundreds met
  mends_again next met is =
      let place : low + 2 ≡ length (decimal at) = omega (arith, ap length digits, length-append (take low line) (two last), length-take-le low line (omega (arith, mends.room))) in
      whole_mends next at low hundreds met (omega (arith, sum, some, mends.round)) fits is place (omega (arith, sum, few, mends.round))

  -- what stands before these is short
  pub cut_short : (front : List ℕ) → front ≡ take low line → length front + 2 ≤ 20
  cut_short front is = omega (arith, ap length is, ap length digits, length-append (take low line) (two last), decimal_room at fits)
