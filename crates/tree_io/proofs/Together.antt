-- Lists of lists, one behind another.
use Rattle.std.proofs.Common.{◌≡◌, List, [], ◌∷◌, ◌++◌, refl, sym, ◌∙◌, ap, append_assoc}
use Rattle.std.proofs.lemmas.List.{append-nil}
use Rattle.tree_io.specs.Feeds.{together}

pub together-append : {X : Type 0} (xs ys : List (List X))
    → together (xs ++ ys) ≡ together xs ++ together ys
together-append [] ys = refl
together-append (x ∷ xs) ys =
    ap (λ l. x ++ l) (together-append xs ys) ∙ sym (append_assoc x (together xs) (together ys))

-- one list more
pub together-last : {X : Type 0} (xs : List (List X)) (x : List X)
    → together (xs ++ x ∷ []) ≡ together xs ++ x
together-last xs x =
    together-append xs (x ∷ []) ∙ ap (λ l. together xs ++ l) (append-nil x)
