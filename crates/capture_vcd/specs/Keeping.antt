-- What is kept of the words of a section: as much as tells what they declare.
use Rattle.std.specs.Prelude.{ℕ, ◌≡◌, ◌++◌, ◌==◌, ◌&&◌, ◌<◌, ◌≤◌, not, Bool, true, if◌then◌else◌}
use Rattle.std.specs.Prelude.{List, [], ◌∷◌, length, map, take}
use Rattle.la_base.specs.Naming.{number_after}
use Rattle.text_parts.specs.Numbers.{is_number}
use Rattle.text_parts.specs.Places.{Placed}
use Rattle.capture_vcd.specs.Header.{has_no_channel, joined}
use Rattle.capture_vcd.specs.Gathered.{placed, text_at}
use Rattle.capture_vcd.specs.declared.section.Kind.{Kind}
use Rattle.capture_vcd.specs.declared.section.Kind.TheVariants as kind
use Rattle.capture_vcd.specs.declared.section.Word.{Word}

-- of a time scale the place of its first word, and the first six bytes of its text: a good one has
-- five at most
abbrev pub scale_words : List Placed → List Placed
scale_words [] = []
scale_words (word ∷ words) = (word.0, take 6 (joined (word ∷ words))) ∷ []

-- these with one word more
abbrev pub scale_step : List Placed → Placed → List Placed
scale_step [] word = (word.0, take 6 word.1) ∷ []
scale_step (start ∷ rest) word = (start.0, take 6 (start.1 ++ word.1)) ∷ rest

-- so little is kept of it
pub record IsShort (words : List Word) : Type 0 where
  pub few : length words ≤ 1
  pub small : length (joined (map placed words)) ≤ 6

-- a variable of this type and size has one channel, and further words belong to its name
abbrev pub joins : List ℕ → List ℕ → Bool
joins type size = not (has_no_channel type) && (is_number size && (number_after 0 size == 1))

-- of a variable the first four words, and the further ones put together where they belong to its
-- name
abbrev pub variable_words : List Placed → List Placed
variable_words [] = []
variable_words (type ∷ []) = type ∷ []
variable_words (type ∷ size ∷ []) = type ∷ size ∷ []
variable_words (type ∷ size ∷ code ∷ []) = type ∷ size ∷ code ∷ []
variable_words (type ∷ size ∷ code ∷ reference ∷ []) = type ∷ size ∷ code ∷ reference ∷ []
variable_words (type ∷ size ∷ code ∷ reference ∷ first ∷ more) =
    if joins type.1 size.1 then type ∷ size ∷ code ∷ reference ∷ (first.0, joined (first ∷ more))
    ∷ [] else type ∷ size ∷ code ∷ reference ∷ []

abbrev pub variable_step : List Placed → Placed → List Placed
variable_step [] word = word ∷ []
variable_step (type ∷ []) word = type ∷ word ∷ []
variable_step (type ∷ size ∷ []) word = type ∷ size ∷ word ∷ []
variable_step (type ∷ size ∷ code ∷ []) word = type ∷ size ∷ code ∷ word ∷ []
variable_step (type ∷ size ∷ code ∷ reference ∷ []) word =
    if joins type.1 size.1 then type ∷ size ∷ code ∷ reference ∷ word ∷ []
    else type ∷ size ∷ code ∷ reference ∷ []
variable_step (type ∷ size ∷ code ∷ reference ∷ more ∷ rest) word =
    if joins type.1 size.1 then type ∷ size ∷ code ∷ reference ∷ (more.0, more.1 ++ word.1) ∷ rest
    else type ∷ size ∷ code ∷ reference ∷ more ∷ rest

-- so few words are kept of it: a fifth only where it belongs to its name
pub record IsNamed (words : List Placed) : Type 0 where
  pub few : length words ≤ 5
  pub name : 4 < length words → joins (text_at words 0) (text_at words 1) ≡ true

-- what is kept of an open section at most: of a time scale six bytes, of a variable four words and
-- what belongs to its name, of any other nothing
pub record KeepsFew (open_kind : Kind) (words : List Word) : Type 0 where
  pub scale : open_kind ≡ kind.Scale → IsShort words
  pub variable : open_kind ≡ kind.Variable → IsNamed (map placed words)
  pub passed : open_kind ≡ kind.Passed → words ≡ []
  pub definitions : open_kind ≡ kind.Definitions → words ≡ []
