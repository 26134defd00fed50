-- What a word looks like.
use Rattle.std.specs.Prelude.{ℕ, Bool, false, ◌==◌, List, [], ◌∷◌, Option, Some, None}
use Rattle.std.specs.Prelude.{if◌then◌else◌, option_and_then}
use Rattle.std.specs.List.{list_any, before_first, after_first}

-- a text, by its bytes
abbrev pub Text : Type 0
Text = List ℕ

-- it begins with a hyphen: it is read as an option
abbrev pub begins_option : Text → Bool
begins_option [] = false
begins_option (byte ∷ rest) = byte == 45

-- what follows a first hyphen
abbrev pub behind_dash : Text → Option Text
behind_dash [] = None
behind_dash (byte ∷ rest) = if byte == 45 then Some rest else None

-- what stands before the first of such bytes, and what stands after it if there is one
abbrev pub cut_at : ℕ → Text → Text × Option Text
cut_at mark text = (
  before_first (λ byte. byte == mark) text,
  if list_any (λ byte. byte == mark) text then Some (after_first (λ byte. byte == mark) text)
      else None,
)

-- a text that isn't empty, cut at its first `=`
abbrev pub long_rest : Text → Option (Text × Option Text)
long_rest [] = None
long_rest (byte ∷ rest) = Some (cut_at 61 (byte ∷ rest))

-- the name and the value of `--NAME` or `--NAME=VALUE`; `--` alone has none
abbrev pub long_of : Text → Option (Text × Option Text)
long_of word = option_and_then long_rest (option_and_then behind_dash (behind_dash word))
