-- A text cut at a byte.
use Rattle.std.proofs.Common.{◌≡◌, ℕ, List, None, refl}
use Rattle.clap.proofs.CutLemmas.{Lacks, list_any-Lacks, before_first-Lacks}
use Rattle.words.specs.Lexer.{cut_at}

-- a text without the byte isn't cut
pub cut_at-without : (mark : ℕ) (text : List ℕ) → Lacks mark text → cut_at mark text ≡ (text, None)
cut_at-without mark text lacks = rw (before_first-Lacks mark text lacks, list_any-Lacks mark text lacks) refl
