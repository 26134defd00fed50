-- How statements are read token by token.
use Rattle.capture_vcd.specs.Body.{Statement, Time, Change, Wrong, first_is, is_digit}
use Rattle.la_io.specs.Capture.{Ending, Clean, Faulty, Open}
use Rattle.std.specs.Prelude.{ℕ, ◌==◌, ◌||◌, ◌&&◌, not, if◌then◌else◌, List, [], ◌∷◌, ◌++◌, length}
use Rattle.std.specs.Prelude.{codes}
use Rattle.std.specs.List.{list_all}
use Rattle.la_base.specs.Naming.{same_name}
use Rattle.la_base.specs.Naming.{number_after}
use Rattle.text_parts.specs.Numbers.{is_number}
use Rattle.text_parts.specs.Places.{Placed}
use Rattle.capture_vcd.specs.Header.{says}

-- what the next token belongs to: nothing; a value, whose code it is; a value that is skipped; or a
-- comment
pub data Within : Type 0 where
  Free : Within
  Value : (at : ℕ) (digits : List ℕ) → Within
  Skip : (at : ℕ) → Within
  Comment : Within

-- the statements of a token that belongs to nothing before it, and what comes then
abbrev pub begins : ℕ → List ℕ → List Statement × Within
begins at [] = (Wrong at ∷ [], Free)
begins at (first ∷ rest) =
    if first == 35
    then (if is_number rest then (Time at (number_after 0 rest) ∷ [], Free)
    else (Wrong at ∷ [], Free))
    else if is_digit first && not (length rest == 0) then (Change rest (first ∷ []) ∷ [], Free)
    else if first_is first 98 66 && not (length rest == 0) && list_all is_digit rest
    then ([], Value at rest)
    else if first_is first 114 82 || first_is first 115 83 then ([], Skip at)
    else if same_name (codes "$comment") (first ∷ rest) then ([], Comment)
    else if first == 36 then ([], Free)
    else (Wrong at ∷ [], Free)

-- a token behind what is open
abbrev pub token_gives : Within → Placed → List Statement × Within
token_gives Free token = begins token.0 token.1
token_gives (Value at digits) token = (Change token.1 digits ∷ [], Free)
token_gives (Skip at) token = ([], Free)
token_gives Comment token = if says (codes "$end") token then ([], Free) else ([], Comment)

-- the statements of tokens, and what is open behind them
abbrev pub statements_from : Within → List Placed → List Statement
statements_from within [] = []
statements_from within (token ∷ tokens) =
    (token_gives within token).0 ++ statements_from (token_gives within token).1 tokens

abbrev pub within_behind : Within → List Placed → Within
within_behind within [] = within
within_behind within (token ∷ tokens) = within_behind (token_gives within token).1 tokens

-- a value or a skipped value that ends the file lacks its second token
abbrev pub hanging : Within → List Statement
hanging Free = []
hanging (Value at digits) = Wrong at ∷ []
hanging (Skip at) = Wrong at ∷ []
hanging Comment = []

-- those of a body: a value that lacks its second token counts as one where the file ends clean
-- there
abbrev pub statements_read : Ending → List Placed → List Statement
statements_read Clean tokens = statements_from Free tokens ++ hanging (within_behind Free tokens)
statements_read (Faulty fault) tokens = statements_from Free tokens
statements_read Open tokens = statements_from Free tokens
