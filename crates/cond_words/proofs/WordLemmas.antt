-- A word that isn't `any`.
use Rattle.std.proofs.Common.{◌≡◌, ℕ, false, List, [], refl, codes}
use Rattle.std.specs.Str.{bytes_eq}
use Rattle.text_parts.specs.Places.{parts_between}
use Rattle.text_parts.specs.Reading.{read_parts}
use Rattle.cond_words.specs.Grammar.{terms_of, term_at}

-- its terms stand between its commas
pub not_any : (word : List ℕ) → bytes_eq word (codes "any") ≡ false → terms_of word ≡ read_parts term_at [] (parts_between 44 word)
not_any word other = rw other refl
