-- Rates of samples: `N` or `N/D` a second.
use Rattle.std.specs.Prelude.{ℕ, Option, Some, None, Result, Ok}
use Rattle.la_base.specs.declared.samples.Rate.{Rate}
use Rattle.text_parts.specs.Reading.{then_read}
use Rattle.la_base.specs.Naming.{number_after}
use Rattle.text_parts.specs.Numbers.{number_in}
use Rattle.text_parts.specs.declared.numbers.NumberWhy.{NumberWhy}
use Rattle.words.specs.Lexer.{Text, cut_at}

-- the two numbers of a rate
pub record RateNumbers : Type 0 where
  pub num : ℕ
  pub den : ℕ

-- the most that stands before the `/`
abbrev pub most_num : ℕ
most_num = 1000000000000000

-- the most that stands behind it
abbrev pub most_den : ℕ
most_den = 1000000000

-- what stands behind the `/`, where there is one
abbrev pub den_in : Option Text → Result ℕ NumberWhy
den_in None = Ok 1
den_in (Some text) = number_in 1 most_den text

-- N is judged whole, and then D
abbrev pub rate_from : Text × Option Text → Result RateNumbers NumberWhy
rate_from parts =
    then_read (number_in 1 most_num parts.0)
    (λ num. then_read (den_in parts.1) (λ den. Ok (record { num = num; den = den })))

-- the rate that a text writes, or why it writes none
abbrev pub rate_in : Text → Result RateNumbers NumberWhy
rate_in text = rate_from (cut_at 47 text)

-- what a good text writes behind the `/`, where there is one
abbrev pub den_written : Option Text → ℕ
den_written None = 1
den_written (Some text) = number_after 0 text

-- the two numbers that a good text writes
abbrev pub rate_written : Text → RateNumbers
rate_written text =
    record { num = number_after 0 (cut_at 47 text).0; den = den_written (cut_at 47 text).1 }

-- the two numbers of a rate, as the code has it
abbrev pub numbers_of : Rate → RateNumbers
numbers_of rate = record { num = rate.num; den = rate.den }
