-- The header of tokens, and of tokens with more behind them.
use Rattle.std.proofs.Common.{◌≡◌, List, [], ◌∷◌, ◌++◌, refl, ap, codes, Some, None, Bool, true, false, cond, not, ◌&&◌}
use Rattle.text_parts.specs.Places.{Placed}
use Rattle.capture_vcd.specs.Header.{Cut, Pending, Section, header_from, is_keyword, says, with_section}

-- a header that is whole
pub header_whole : (pending : Pending) (tokens more body : List Placed) → (header_from pending tokens).body ≡ Some body → header_from pending (tokens ++ more) ≡ record { sections = (header_from pending tokens).sections; body = Some (body ++ more) }
header_whole pending [] more body is = cc
header_whole None (token ∷ tokens) more body is = by_test (is_keyword token && not (says (codes "$end") token)) (header_whole (Some (token, [])) tokens more body) (header_whole None tokens more body) is where
  A : Cut
  A = header_from (Some (token, [])) tokens

  A' : Cut
  A' = header_from (Some (token, [])) (tokens ++ more)

  B : Cut
  B = header_from None tokens

  B' : Cut
  B' = header_from None (tokens ++ more)

  by_test : (t : Bool) → (A.body ≡ Some body → A' ≡ record { sections = A.sections; body = Some (body ++ more) }) → (B.body ≡ Some body → B' ≡ record { sections = B.sections; body = Some (body ++ more) })
      → (cond t A B).body ≡ Some body → cond t A' B' ≡ record { sections = (cond t A B).sections; body = Some (body ++ more) }
  by_test true one other e = one e
  by_test false one other e = other e
header_whole (Some s) (token ∷ tokens) more body is = by_test (not (says (codes "$end") token)) (says (codes "$enddefinitions") s.0) (header_whole (Some (s.0, s.1 ++ token ∷ [])) tokens more body) (header_whole None tokens more body) is where
  A : Cut
  A = header_from (Some (s.0, s.1 ++ token ∷ [])) tokens

  A' : Cut
  A' = header_from (Some (s.0, s.1 ++ token ∷ [])) (tokens ++ more)

  B : Cut
  B = header_from None tokens

  B' : Cut
  B' = header_from None (tokens ++ more)

  S : Section
  S = record { keyword = s.0; words = s.1; end_at = token.0 }

  by_test : (t u : Bool) → (A.body ≡ Some body → A' ≡ record { sections = A.sections; body = Some (body ++ more) }) → (B.body ≡ Some body → B' ≡ record { sections = B.sections; body = Some (body ++ more) })
      → (cond t A (cond u (record { sections = []; body = Some tokens }) (with_section S B))).body ≡ Some body
      → cond t A' (cond u (record { sections = []; body = Some (tokens ++ more) }) (with_section S B'))
      ≡ record { sections = (cond t A (cond u (record { sections = []; body = Some tokens }) (with_section S B))).sections; body = Some (body ++ more) }
  by_test true u one other e = one e
  by_test false true one other e = let same : tokens ≡ body = cc in ap (λ (l : List Placed). record { sections = []; body = Some (l ++ more) }) same
  by_test false false one other e = ap (λ (c : Cut). with_section S c) (other e)

-- a header that isn't whole: more sections, and then what it goes on with
abbrev pub MoreCut : Cut → Cut → Type 0
MoreCut front whole = (others : Cut) × (whole ≡ record { sections = front.sections ++ others.sections; body = others.body })

pub header_more : (pending : Pending) (tokens more : List Placed) → (header_from pending tokens).body ≡ None → MoreCut (header_from pending tokens) (header_from pending (tokens ++ more))
header_more pending [] more is = (header_from pending more, refl)
header_more None (token ∷ tokens) more is = by_test (is_keyword token && not (says (codes "$end") token)) (header_more (Some (token, [])) tokens more) (header_more None tokens more) is where
  A : Cut
  A = header_from (Some (token, [])) tokens

  A' : Cut
  A' = header_from (Some (token, [])) (tokens ++ more)

  B : Cut
  B = header_from None tokens

  B' : Cut
  B' = header_from None (tokens ++ more)

  by_test : (t : Bool) → (A.body ≡ None → MoreCut A A') → (B.body ≡ None → MoreCut B B') → (cond t A B).body ≡ None → MoreCut (cond t A B) (cond t A' B')
  by_test true one other e = one e
  by_test false one other e = other e
header_more (Some s) (token ∷ tokens) more is = by_test (not (says (codes "$end") token)) (says (codes "$enddefinitions") s.0) (header_more (Some (s.0, s.1 ++ token ∷ [])) tokens more) (header_more None tokens more) is where
  A : Cut
  A = header_from (Some (s.0, s.1 ++ token ∷ [])) tokens

  A' : Cut
  A' = header_from (Some (s.0, s.1 ++ token ∷ [])) (tokens ++ more)

  B : Cut
  B = header_from None tokens

  B' : Cut
  B' = header_from None (tokens ++ more)

  S : Section
  S = record { keyword = s.0; words = s.1; end_at = token.0 }

  by_test : (t u : Bool) → (A.body ≡ None → MoreCut A A') → (B.body ≡ None → MoreCut B B') → (cond t A (cond u (record { sections = []; body = Some tokens }) (with_section S B))).body ≡ None
      → MoreCut (cond t A (cond u (record { sections = []; body = Some tokens }) (with_section S B))) (cond t A' (cond u (record { sections = []; body = Some (tokens ++ more) }) (with_section S B')))
  by_test true u one other e = one e
  by_test false true one other e = cc
  by_test false false one other e = let next = other e in (next.0, ap (λ (c : Cut). with_section S c) next.1)
