-- What the lines of bytes are, from the front on.
use Rattle.std.proofs.Common.{◌≡◌, ℕ, ◌+◌, ◌<◌, ◌==◌, List, [], ◌∷◌, ◌++◌, length, ◌∙◌, ap, arith, true}
use Rattle.std.proofs.lemmas.Bool.{cond-false, ne_eqb}
use Rattle.la_io.specs.Capture.{Ending}
use Rattle.byte_feed.specs.Parts.{behind}
use Rattle.byte_feed.specs.Lines.{by_feeds, is_feed, lines_behind, lines_from}
use Rattle.byte_feed.specs.LineMoves.{AllIn}
use Rattle.byte_feed.proofs.PartLaws.{any_whole, one_part}

-- a line with its end
pub one_line : (number b : ℕ) (how : Ending) (word rest : List ℕ) → length word < 65536 → AllIn word (length word) → is_feed b ≡ true
    → lines_from number how (word ++ b ∷ rest) ≡ behind ((number, word) ∷ []) (lines_from (number + 1) how rest)
one_line number b how word rest short one feed = one_part by_feeds number b how word rest one feed ∙ any_whole (number, word) _ short

-- behind a line no mark is looked for
pub behind_line : (lines : ℕ) (how : Ending) (bytes : List ℕ) → lines_behind (lines + 1) how bytes ≡ lines_from (lines + 1 + 1) how bytes
behind_line lines how bytes = ap (λ (l : List ℕ). lines_from (lines + 1 + 1) how l) (cond-false (lines + 1 == 0) _ _ (ne_eqb (lines + 1) 0 (λ e. omega (arith, e))))
