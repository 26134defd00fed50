-- One more that a text tells.
use Rattle.std.proofs.Common.{ℕ, ◌≡◌, ◌+◌, ◌<◌, Bor, List, [], ◌∷◌, ◌++◌, length, map, take, get_or, Result, Ok, Err, refl, sym, ◌∙◌, ap, subst, append_assoc, IfOk}
use Rattle.std.proofs.lemmas.List.{append-nil, map-append, take_more}
use Rattle.std.proofs.lemmas.List.Folds.{flat_map-map}
use Rattle.std.proofs.lemmas.Grind.{flat_map-append}
use Rattle.std.specs.List.{flat_map, join_by}
use Rattle.help_text.specs.Help.{TellsEach}

tells_more : {A : Type 0} (Tells : A → List ℕ → Type 0) (xs : List A) (x : A) (told part : List ℕ) → TellsEach Tells xs told → Tells x part → TellsEach Tells (xs ++ x ∷ []) (told ++ part)
tells_more Tells [] x told part none tells = (part, [], ap (λ (l : List ℕ). l ++ part) none ∙ sym (append-nil part), tells, refl)
tells_more Tells (y ∷ ys) x told part each tells =
    (each.0, each.1 ++ part, ap (λ (l : List ℕ). l ++ part) each.2 ∙ append_assoc each.0 each.1 part, each.3, tells_more Tells ys x each.1 part each.4 tells)

-- the next one of a list
pub tells_next : {A : Type 0} (Tells : A → List ℕ → Type 0) (xs : List A) (n : ℕ) (default : A) (told part : List ℕ) → n < length xs → TellsEach Tells (take n xs) told → Tells (get_or xs n default) part
    → TellsEach Tells (take (n + 1) xs) (told ++ part)
tells_next {A} Tells xs n default told part within each tells =
    subst (λ (l : List A). TellsEach Tells l (told ++ part)) (sym (take_more xs n default within)) (tells_more Tells (take n xs) (get_or xs n default) told part each tells)

-- what follows of a result where it is Ok
pub if_ok : {T E : Type 0} (result : Result T E) (P Q : T → Type 0) → ((value : T) → P value → Q value) → IfOk result P → IfOk result Q
if_ok (Ok value) P Q follows holds = follows value holds
if_ok (Err error) P Q follows holds = tt

-- what a list gives goes on with what its next item gives
pub flat_map_next : {A B : Type 0} (f : A → List B) (xs : List A) (n : ℕ) (default : A) → n < length xs → flat_map f (take (n + 1) xs) ≡ flat_map f (take n xs) ++ f (get_or xs n default)
flat_map_next f xs n default within =
    ap (λ l. flat_map f l) (take_more xs n default within) ∙ flat_map-append f (take n xs) (get_or xs n default ∷ [])
    ∙ ap (λ l. flat_map f (take n xs) ++ l) (append-nil (f (get_or xs n default)))

pub map_next : {A B : Type 0} (f : A → B) (xs : List A) (n : ℕ) (default : A) → n < length xs → map f (take (n + 1) xs) ≡ map f (take n xs) ++ f (get_or xs n default) ∷ []
map_next f xs n default within = ap (λ l. map f l) (take_more xs n default within) ∙ map-append f (take n xs) (get_or xs n default ∷ [])

-- words are joined as the texts that they are
pub join_words : (between : List ℕ) (words : List (Bor (List ℕ))) → join_by (λ word. word.now) between words ≡ join_by (λ word. word) between (map (λ word. word.now) words)
join_words between [] = refl
join_words between (word ∷ words) = ap (λ l. word.now ++ l) (sym (flat_map-map (λ (later : List ℕ). between ++ later) (λ (later : Bor (List ℕ)). later.now) words))
