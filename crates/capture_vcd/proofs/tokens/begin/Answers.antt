use Rattle.std.proofs.Common.{◌≡◌, ◌∙◌, ◌==◌, ℕ, List, [], ◌∷◌, arith, eq-eqb, sym, ap, codes, false}
use Rattle.std.proofs.lemmas.Bool.{cond-true, cond-false}
use Rattle.la_base.specs.Naming.{same_name}
use Rattle.la_base.specs.Naming.{number_after}
use Rattle.text_parts.specs.Numbers.{is_number}
use Rattle.capture_vcd.specs.Within.{begins, Free}
use Rattle.capture_vcd.proofs.tokens.begin.Goals as goal

pub returns-in-Some-2 : goal.returns-in-Some-2
returns-in-Some-2 c =
    let read = c.in-Some-2.ensures in
    let same = c.in-Some.ensures in
    (number_after 0 c.args.rest.now, omega (arith, same.1, c.if-number-lt-LARGE.false), λ at. cond-true (c.args.first == 35) _ _ (eq-eqb c.args.first 35 c.if-first-eq35.true) ∙ cond-true (is_number c.args.rest.now) _ _ read.0)

passed : (rest : List ℕ) (at : ℕ) → false ≡ same_name (codes "comment") rest → begins at (36 ∷ rest) ≡ ([], Free)
passed rest at e = cond-false (same_name (codes "$comment") (36 ∷ rest)) _ _ (sym e)

pub returns-else-eq : goal.returns-else-eq
returns-else-eq c = λ at. ap (λ (f : ℕ). begins at (f ∷ c.args.rest.now)) c.if-first-ne36.false ∙ passed c.args.rest.now at (sym c.if-eq.false ∙ c.eq.ensures ∙ ap (λ (l : List ℕ). same_name l c.args.rest.now) c.as_slice.ensures)
