-- Values ask for one list of alternatives, or for one stack.
use Rattle.std.proofs.Common.{◌≡◌, List, [], ◌∷◌, map, Result, Ok, refl, sym, ◌∙◌}
use Rattle.cond_words.specs.Words.{Meaning}
use Rattle.cond_words.specs.declared.words.CondFault.{CondFault}
use Rattle.words.specs.Settings.{Values}
use Rattle.stack_words.specs.Accepting.{Accepted}
use Rattle.run_asks.specs.Asking.{Searches, Stacks}

abbrev goods : List (List Meaning) → List (Result (List Meaning) CondFault)
goods alternatives = map (λ terms. Ok terms) alternatives

oks_same : (xs ys : List (List Meaning)) → goods xs ≡ goods ys → xs ≡ ys
oks_same [] [] e = refl
oks_same [] (y ∷ ys) e = cc
oks_same (x ∷ xs) [] e = cc
oks_same (x ∷ xs) (y ∷ ys) e =
    let heads : x ≡ y = cc in
    let tails : goods xs ≡ goods ys = cc in
    λ i. heads i ∷ oks_same xs ys tails i

pub one_search : (values : Values) (some others : List (List Meaning)) → Searches values some → Searches values others → some ≡ others
one_search values some others a b = oks_same some others (sym a.terms ∙ b.terms)

pub one_stack : (values : Values) (some other : Accepted) → Stacks values some → Stacks values other → some ≡ other
one_stack values some other a b = let both = sym a.stack ∙ b.stack in cc
