-- What is found among the uses as the code keeps them.
use Rattle.std.proofs.Common.{◌≡◌, ℕ, ◌+◌, ◌<◌, Bool, true, false, not, cond, List, [], ◌∷◌, ◌++◌, length, take, get_or, map, find, filter, Option, Some, None, option_map, refl, sym, ◌∙◌, ap, ap₂, arith, Bor, codes}
use Rattle.std.proofs.Math.ListN.{get_or-map}
use Rattle.std.proofs.lemmas.List.{length-map, take_more}
use Rattle.words.specs.App.{some_texts}
use Rattle.text_parts.proofs.ReadLemmas.{map-push}
use Rattle.text_parts.specs.declared.chain.ChainWord.{ChainWord}
use Rattle.std.specs.Prelude.{is_some, option_and_then}
use Rattle.std.specs.Str.{bytes_eq}
use Rattle.words.specs.Given.{used_of}
use Rattle.words.specs.Lexer.{Text}
use Rattle.words.specs.Uses.{Used, chains_of, is_of}
use Rattle.text_parts.specs.Chains.{chain_of}
use Rattle.words.specs.Settings.{unless_all, use_of, word_text}
use Rattle.words.specs.declared.options.Name.{Name}
use Rattle.words.specs.declared.uses.Given.{Given}

pub find_used : (name : Name) (gs : List Given) → find (λ u. is_of name u.name) (map used_of gs) ≡ option_map used_of (find (λ g. is_of name g.name) gs)
find_used name [] = refl
find_used name (g ∷ gs) = by (is_of name g.name) (find_used name gs)
  where
    by : (b : Bool) → find (λ u. is_of name u.name) (map used_of gs) ≡ option_map used_of (find (λ g. is_of name g.name) gs)
        → cond b (Some (used_of g)) (find (λ u. is_of name u.name) (map used_of gs)) ≡ option_map used_of (cond b (Some g) (find (λ g. is_of name g.name) gs))
    by true more = refl
    by false more = more

pub numbers_used : (gs : List Given) → map (λ g. g.word) (filter (λ g. not (is_some g.name)) gs) ≡ map (λ u. u.word) (chains_of (map used_of gs))
numbers_used [] = refl
numbers_used (g ∷ gs) = by (not (is_some g.name)) (numbers_used gs)
  where
    by : (b : Bool) → map (λ g. g.word) (filter (λ g. not (is_some g.name)) gs) ≡ map (λ u. u.word) (chains_of (map used_of gs))
        → map (λ h. h.word) (cond b (g ∷ filter (λ h. not (is_some h.name)) gs) (filter (λ h. not (is_some h.name)) gs))
        ≡ map (λ u. u.word) (cond b (used_of g ∷ chains_of (map used_of gs)) (chains_of (map used_of gs)))
    by true more = ap (λ rest. g.word ∷ rest) more
    by false more = more

-- the use that the code finds, by the option
pub found_none : (name : Name) (gs : List Given) → None ≡ find (λ g. is_of name g.name) gs → use_of name (map used_of gs) ≡ None
found_none name gs e = find_used name gs ∙ ap (option_map used_of) (sym e)

pub found_used : (name : Name) (gs : List Given) (g : Given) → Some g ≡ find (λ g. is_of name g.name) gs → use_of name (map used_of gs) ≡ Some (used_of g)
found_used name gs g found = find_used name gs ∙ ap (option_map used_of) (sym found)

-- what is shown, by the value of the option
pub shown_all : (text : Text) (o : Option Used) → ((u : Used) → o ≡ Some u → text ≡ u.text) → bytes_eq text (codes "all") ≡ true → option_and_then unless_all o ≡ None
shown_all text None is all = refl
shown_all text (Some u) is all = let e : bytes_eq u.text (codes "all") ≡ true = rw (is u refl) at all in rw e refl

pub shown_some : (text : Text) (o : Option Used) → ((u : Used) → o ≡ Some u → text ≡ u.text) → bytes_eq text (codes "all") ≡ false → option_and_then unless_all o ≡ option_map word_text o
shown_some text None is other = refl
shown_some text (Some u) is other = let e : bytes_eq u.text (codes "all") ≡ false = rw (is u refl) at other in rw e refl

-- the next text joins those before it
pub chains_more : (chains : List ChainWord) (c : ChainWord) (uses : List Used) (ns : List ℕ) (ts : List (Bor Text)) (k : ℕ) (d : Bor Text) → d.now ≡ [] → k < length ts
    → ns ≡ map (λ u. u.word) uses → map (λ t. t.now) ts ≡ map (λ u. u.text) uses
    → map chain_of chains ≡ take k (map word_text uses) → chain_of c ≡ record { word = get_or ns k 0; text = (get_or ts k d).now }
    → map chain_of (chains ++ c ∷ []) ≡ take (k + 1) (map word_text uses)
chains_more chains c uses ns ts k d none within words texts before is =
    let none_used : Used = record { name = None; word = 0; text = [] } in
    let word : get_or ns k 0 ≡ (get_or uses k none_used).word = ap (λ l. get_or l k 0) words ∙ get_or-map (λ u. u.word) uses k none_used in
    let text : (get_or ts k d).now ≡ (get_or uses k none_used).text =
    sym (get_or-map (λ t. t.now) ts k d) ∙ ap (λ e. get_or (map (λ t. t.now) ts) k e) none ∙ ap (λ l. get_or l k []) texts ∙ get_or-map (λ u. u.text) uses k none_used in
    let here : chain_of c ≡ get_or (map word_text uses) k (word_text none_used) =
    is ∙ ap₂ (λ w t. record { word = w; text = t }) word text ∙ sym (get_or-map word_text uses k none_used) in
    let long : k < length (map word_text uses) = let e : length ts ≡ length uses = sym (length-map ts (λ t. t.now)) ∙ ap length texts ∙ length-map uses (λ u. u.text) in let f = length-map uses word_text in omega arith in
    map-push chain_of chains c ∙ ap₂ (λ a b. a ++ b ∷ []) before here ∙ sym (take_more (map word_text uses) k (word_text none_used) long)

pub some_texts_are : (texts found : List Text) → Some found ≡ some_texts texts → found ≡ texts
some_texts_are [] found e = cc
some_texts_are (t ∷ ts) found e = cc

pub no_texts : (uses : List Used) → None ≡ some_texts (map (λ u. u.text) uses) → uses ≡ []
no_texts [] e = refl
no_texts (u ∷ uses) e = cc
