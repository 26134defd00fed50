use Rattle.std.proofs.Common.{ℕ, ◌≡◌, ◌++◌, ◌∙◌, ◌==◌, Bor, List, [], ◌∷◌, length, map, codes, false, refl, sym, ap, rules}
use Rattle.std.specs.List.{concat}
use Rattle.help_text.specs.Decoders.{classes_told, joined}
use Rattle.help_text.proofs.Telling.{if_ok}
use Rattle.help_text.proofs.decoders.classes_told.Goals as goal

-- where there are classes, this is told of them
some_told : (classes : List (Bor (List ℕ))) → (length classes == 0) ≡ false → classes_told (map (λ class. class.now) classes) ≡ concat (codes "      binary data: " ∷ joined (codes ", ") (map (λ class. class.now) classes) ∷ codes "\n" ∷ [])
some_told [] some = search rules
some_told (class ∷ classes) some = refl

pub returns : goal.returns
returns c =
    let some : (length c.args.classes.now == 0) ≡ false = sym c.is_empty.ensures ∙ c.if-is_empty.false in
    let names : c.as_str.result.now ≡ joined (codes ", ") (map (λ class. class.now) c.args.classes.now) = c.as_str.ensures.value ∙ c.in_ok-told.ensures in
    if_ok c.format.result _ _ (λ text is. is ∙ ap (λ (l : List ℕ). codes "      binary data: " ++ (l ++ codes "\n")) names ∙ sym (some_told c.args.classes.now some)) c.format.ensures.ok
