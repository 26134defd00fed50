-- What the tokens of bytes are, from the front on.
use Rattle.std.proofs.Common.{◌≡◌, ℕ, suc, ◌+◌, ◌<◌, List, [], ◌∷◌, ◌++◌, length, sym, ◌∙◌, ap, arith, true}
use Rattle.la_io.specs.Capture.{Ending}
use Rattle.byte_feed.specs.Parts.{Fed, behind}
use Rattle.byte_feed.specs.Tokens.{by_blanks, is_blank, tokens_from}
use Rattle.byte_feed.specs.Blanks.{AllBlank, AllPlain}
use Rattle.byte_feed.proofs.PartLaws.{one_part, some_part}

-- a blank gives nothing
one_blank : (at b : ℕ) (how : Ending) (rest : List ℕ) → is_blank b ≡ true → tokens_from at how (b ∷ rest) ≡ tokens_from (at + 1) how rest
one_blank at b how rest blank =
    let next : at + 0 + 1 ≡ at + 1 = omega arith in
    one_part by_blanks at b how [] rest (λ k less. absurd (omega (arith, less))) blank ∙ ap (λ (n : ℕ). tokens_from n how rest) next

pub skip_all : (at : ℕ) (how : Ending) (blanks rest : List ℕ) → AllBlank blanks (length blanks) → tokens_from at how (blanks ++ rest) ≡ tokens_from (at + length blanks) how rest
skip_all at how [] rest blank = let none : at ≡ at + 0 = omega arith in ap (λ (n : ℕ). tokens_from n how rest) none
skip_all at how (b ∷ blanks) rest blank =
    let next : at + 1 + length blanks ≡ at + suc (length blanks) = omega arith in
    one_blank at b how (blanks ++ rest) (blank 0 (omega arith))
    ∙ skip_all (at + 1) how blanks rest (λ k less. blank (suc k) (omega (arith, less)))
    ∙ ap (λ (n : ℕ). tokens_from n how rest) next

-- a word with a blank behind it is a token
pub one_token : (at b : ℕ) (how : Ending) (word rest : List ℕ) → 0 < length word → length word < 65536 → AllPlain word (length word) → is_blank b ≡ true
    → tokens_from at how (word ++ b ∷ rest) ≡ behind ((at, word) ∷ []) (tokens_from (at + length word) how (b ∷ rest))
one_token at b how word rest some short plain blank =
    some_part by_blanks at b how word rest some short plain blank ∙ sym (ap (λ (f : Fed). behind ((at, word) ∷ []) f) (one_blank (at + length word) b how rest blank))
