-- Words whose texts are read part by part.
use Rattle.std.specs.Prelude.{ℕ, List}
use Rattle.std.specs.String.{string_bytes}
use Rattle.text_parts.specs.declared.chain.ChainWord.{ChainWord}

-- the number of a word, and its text
pub record WordText : Type 0 where
  pub word : ℕ
  pub text : List ℕ

abbrev pub chain_of : ChainWord → WordText
chain_of chain = record { word = chain.word; text = string_bytes chain.text }
