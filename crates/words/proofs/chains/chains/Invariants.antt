use Rattle.std.proofs.Common.{◌≡◌, List, map, take}
use Rattle.words.specs.Uses.{Used}
use Rattle.text_parts.specs.Chains.{chain_of}
use Rattle.words.specs.Settings.{word_text}
use Rattle.words.proofs.chains.chains.Given as goal

abbrev pub invariant-loop-place : goal.invariant-loop-place
invariant-loop-place l = (uses : List Used) → l.numbers ≡ map (λ u. u.word) uses → map (λ t. t.now) l.texts ≡ map (λ u. u.text) uses → map chain_of l.chains.items ≡ take l.place (map word_text uses)
