-- What good words hold: the words that are no options.
use Rattle.std.specs.Prelude.{◌≡◌, ◌≤◌, List, length, All, IsOk}
use Rattle.std.specs.String.{string_bytes}
use Rattle.text_parts.specs.declared.chain.ChainWord.{ChainWord}
use Rattle.cond_words.specs.Grammar.{terms_of}
use Rattle.words.specs.Settings.{words_taken}
use Rattle.words.specs.declared.kinds.Job.{Job}
use Rattle.words.specs.declared.kinds.Job.TheVariants.{Find}

-- its text has at most 4,096 bytes
abbrev pub IsShort : ChainWord → Type 0
IsShort chain = length (string_bytes chain.text) ≤ 4096

-- of a job, these are neither too few nor too many, and find can read each of them
pub record IsReadable (job : Job) (chains : List ChainWord) : Type 0 where
  pub some : (words_taken job).fewest ≤ length chains
  pub few : length chains ≤ (words_taken job).most
  pub short : All IsShort chains
  pub good : job ≡ Find → All (λ chain. IsOk (terms_of (string_bytes chain.text))) chains
