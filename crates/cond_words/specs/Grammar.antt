-- The grammar of a condition's word: its terms, or its first fault by place.
use Rattle.std.specs.Prelude.{ℕ, Bool, true, false, ◌+◌, ◌-◌, ◌^◌, ◌==◌, nat_le, List, [], length}
use Rattle.std.specs.Prelude.{Option, Some, None, Result, Ok, Err, if◌then◌else◌, codes}
use Rattle.std.specs.List.{list_any, before_first, after_first, position_or_len}
use Rattle.std.specs.Str.{bytes_eq}
use Rattle.text_parts.specs.Numbers.{number_in}
use Rattle.text_parts.specs.Places.{Placed, parts_between}
use Rattle.text_parts.specs.Reading.{read_parts}
use Rattle.text_parts.specs.declared.numbers.NumberWhy.{NumberWhy}
use Rattle.cond_words.specs.Words.{Meaning, Line, Skip}
use Rattle.cond_words.specs.declared.words.CondFault.{CondFault}
use Rattle.cond_words.specs.declared.words.CondWhy.{CondWhy}
use Rattle.cond_words.specs.declared.words.CondWhy.TheVariants as why
use Rattle.cond_words.specs.declared.words.Letter.{Letter}
use Rattle.cond_words.specs.declared.words.Letter.TheVariants as letter

-- the most terms that an alternative has
abbrev pub most_terms : ℕ
most_terms = 64

-- the greatest number of a skip
abbrev pub most_skip : ℕ
most_skip = 2 ^ 60 - 1

abbrev pub fault : ℕ → CondWhy → Result Meaning CondFault
fault at why = Err (record { at = at; why = why })

-- the letter of a kind of term
abbrev pub letter_of : List ℕ → Option Letter
letter_of text = if bytes_eq text (codes "l") then Some letter.Low
    else if bytes_eq text (codes "h") then Some letter.High
    else if bytes_eq text (codes "r") then Some letter.Rise
    else if bytes_eq text (codes "f") then Some letter.Fall
    else if bytes_eq text (codes "e") then Some letter.Edge
    else if bytes_eq text (codes "s") then Some letter.Steady
    else None

abbrev pub line_from : List ℕ → ℕ → Option Letter → Result Meaning CondFault
line_from reference at (Some letter) = Ok (Line reference letter)
line_from reference at None = fault at why.Level

-- what stands behind a channel's reference and its `=`, at place `at`
abbrev pub line_term : List ℕ → ℕ → List ℕ → Result Meaning CondFault
line_term reference at text = line_from reference at (letter_of text)

-- whether a term is a skip
abbrev pub is_skip : Meaning → Bool
is_skip (Line reference letter) = false
is_skip (Skip number) = true

abbrev pub skip_from : ℕ → Result ℕ NumberWhy → Result Meaning CondFault
skip_from at (Ok number) = Ok (Skip number)
skip_from at (Err reason) = fault at why.Skip

-- what stands behind `skip=`, at place `at`: the first skip, with its number
abbrev pub skip_term : List Meaning → ℕ → List ℕ → Result Meaning CondFault
skip_term before at text = if list_any is_skip before then fault at why.Skip
    else skip_from at (number_in 1 most_skip text)

-- what stands behind a name and its `=`, at place `at`
abbrev pub named_term : List Meaning → List ℕ → ℕ → List ℕ → Result Meaning CondFault
named_term before name at text = if bytes_eq name (codes "skip") then skip_term before at text
    else line_term name at text

abbrev pub is_equals : ℕ → Bool
is_equals byte = byte == 61

-- one term, behind those before it
abbrev pub term_at : List Meaning → Placed → Result Meaning CondFault
term_at before part = if nat_le most_terms (length before) then fault part.0 why.Many
    else if length part.1 == 0 then fault part.0 why.Empty
    else if position_or_len is_equals part.1 == length part.1 then fault part.0 why.Term
    else if length (before_first is_equals part.1) == 0 then fault part.0 why.Term
    else named_term before (before_first is_equals part.1)
    (part.0 + length (before_first is_equals part.1) + 1) (after_first is_equals part.1)

-- the terms of a word between its commas, or its first fault; the word `any` has none
abbrev pub terms_of : List ℕ → Result (List Meaning) CondFault
terms_of word =
    if bytes_eq word (codes "any") then Ok [] else read_parts term_at [] (parts_between 44 word)
