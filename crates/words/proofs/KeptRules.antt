-- Uses without a fault keep to the rules of their options.
use Rattle.std.proofs.Common.{◌≡◌, ◌≤◌, ◌<◌, ◌+◌, ℕ, zero, suc, Bool, true, false, not, cond, List, [], ◌∷◌, ◌++◌, length, map, get_or, All, Option, Some, None, option_map, Result, Ok, Err, refl, sym, ◌∙◌, ap, subst, arith}
use Rattle.std.specs.Prelude.{◌==◌, is_some, option_and_then, IfSome}
use Rattle.std.specs.Option.{option_or}
use Rattle.std.specs.List.{after_first, list_any, position_or_len}
use Rattle.std.specs.Str.{bytes_eq}
use Rattle.std.specs.String.{string_bytes}
use Rattle.std.specs.declared.alloc.Global.{Global}
use Rattle.std.specs.declared.string.String.{String}
use Rattle.std.proofs.lemmas.List.{length-drop}
use Rattle.std.proofs.lemmas.Slice.Eq.{bytes_eq-Decides}
use Rattle.text_parts.specs.Chains.{WordText, chain_of}
use Rattle.text_parts.specs.Reading.{then_read, read_parts}
use Rattle.text_parts.specs.declared.chain.ChainWord.{ChainWord}
use Rattle.words.specs.Lexer.{Text, behind_dash, cut_at, long_of, long_rest}
use Rattle.words.specs.Options.{name_of, row}
use Rattle.words.specs.Readable.{IsShort}
use Rattle.words.specs.Settings.{AreGood, unless_all, use_of, value_of, word_text}
use Rattle.words.specs.Uses.{Part, Used, chains_of, is_of, parts_from, use_at, uses_of, why_value}
use Rattle.words.specs.declared.options.Name.{Name}
use Rattle.words.specs.declared.options.Name.TheVariants.{Job, Format, Channels, Rate, Down, Csv, Header, Threads, Ring, Show, Binary, Seed, Count, From, Watch}
use Rattle.words.specs.declared.kinds.WordFault.{WordFault}
use Rattle.words.proofs.Searches.{find_passes}
use Rattle.words.proofs.Shapes.{Shape, chain, joined, split, shape_of}

-- a value behind `=` is no longer than its word
after_shorter : (mark : ℕ) (text value : Text) → (cut_at mark text).1 ≡ Some value → length value ≤ length text
after_shorter mark text value e = by (list_any (λ byte. byte == mark) text) e
  where
    by : (b : Bool) → cond b (Some (after_first (λ byte. byte == mark) text)) None ≡ Some value → length value ≤ length text
    by true e = let same : after_first (λ byte. byte == mark) text ≡ value = cc in
        subst (λ (t : Text). length t ≤ length text) same (omega (arith, length-drop (position_or_len (λ byte. byte == mark) text + 1) text))
    by false e = cc

rest_shorter : (rest name value : Text) → long_rest rest ≡ Some (name, Some value) → length value ≤ length rest
rest_shorter [] name value e = cc
rest_shorter (byte ∷ rest) name value e = let parts : cut_at 61 (byte ∷ rest) ≡ (name, Some value) = cc in after_shorter 61 (byte ∷ rest) value (ap (λ (p : Text × Option Text). p.1) parts)

dash_shorter : (word rest : Text) → behind_dash word ≡ Some rest → length rest ≤ length word
dash_shorter [] rest e = cc
dash_shorter (byte ∷ bytes) rest e = by (byte == 45) e
  where
    by : (b : Bool) → cond b (Some bytes) None ≡ Some rest → length rest ≤ length (byte ∷ bytes)
    by true e = let same : bytes ≡ rest = cc in subst (λ (t : Text). length t ≤ length (byte ∷ bytes)) same (omega arith)
    by false e = cc

long_shorter : (word name value : Text) → long_of word ≡ Some (name, Some value) → length value ≤ length word
long_shorter word name value e = by (behind_dash word) refl e
  where
    second : (rest : Text) (o : Option Text) → behind_dash rest ≡ o → option_and_then long_rest o ≡ Some (name, Some value) → length value ≤ length rest
    second rest None is e = cc
    second rest (Some more) is e = let a = dash_shorter rest more is in let b = rest_shorter more name value e in omega arith

    by : (o : Option Text) → behind_dash word ≡ o → option_and_then long_rest (option_and_then behind_dash o) ≡ Some (name, Some value) → length value ≤ length word
    by None is e = cc
    by (Some rest) is e = let a = dash_shorter word rest is in let b = second rest (behind_dash rest) refl e in omega arith

abbrev KeepsRule : Option Name → Text → Type 0
KeepsRule None text = Unit {0}
KeepsRule (Some name) text = why_value (row name).takes text ≡ None

record IsKept (u : Used) : Type 0 where
  short : length u.text ≤ 4096
  rule : KeepsRule u.name u.text

kept_shape : (before : List Used) (part : Part) (u : Used) → Shape before part u → IsKept u
kept_shape before part u (chain plain is short) = subst (λ (v : Used). IsKept v) (sym is) (record { short = short; rule = tt })
kept_shape before part u (joined name value long new is rule short) = let l = long_shorter part.word (row name).name value long in
    subst (λ (v : Used). IsKept v) (sym is) (record { short = omega arith; rule = rule })
kept_shape before part u (split name value long next new is rule short) = subst (λ (v : Used). IsKept v) (sym is) (record { short = short; rule = rule })

abbrev AllKept : List Used → Type 0
AllKept [] = Unit {0}
AllKept (u ∷ uses) = IsKept u × AllKept uses

kept_push : (uses : List Used) (u : Used) → AllKept uses → IsKept u → AllKept (uses ++ u ∷ [])
kept_push [] u all one = (one, tt)
kept_push (v ∷ uses) u all one = (all.0, kept_push uses u all.1 one)

all_kept : (before : List Used) (parts : List Part) (uses : List Used) → AllKept before → read_parts use_at before parts ≡ Ok uses → AllKept uses
all_kept before [] uses kept e = let same : before ≡ uses = cc in subst AllKept same kept
all_kept before (part ∷ parts) uses kept e = by (use_at before part) refl e (λ u all f. all_kept (before ++ u ∷ []) parts uses all f)
  where
    by : (r : Result Used WordFault) → use_at before part ≡ r → then_read r (λ u. read_parts use_at (before ++ u ∷ []) parts) ≡ Ok uses
        → ((u : Used) → AllKept (before ++ u ∷ []) → read_parts use_at (before ++ u ∷ []) parts ≡ Ok uses → AllKept uses) → AllKept uses
    by (Ok u) is e more = more u (kept_push before u kept (kept_shape before part u (shape_of before part u is))) e
    by (Err fault) is e more = cc

kept_use : (name : Name) (uses : List Used) → AllKept uses → (u : Used) → use_of name uses ≡ Some u → IsKept u
kept_use name [] kept u e = cc
kept_use name (v ∷ uses) kept u e = by (is_of name v.name) e (kept_use name uses kept.1 u)
  where
    by : (b : Bool) → cond b (Some v) (use_of name uses) ≡ Some u → (use_of name uses ≡ Some u → IsKept u) → IsKept u
    by true e more = let same : v ≡ u = cc in subst (λ (w : Used). IsKept w) same kept.0
    by false e more = more e

-- each option is found by its name
pub named : (name : Name) → name_of (row name).name ≡ Some name
named Job = refl
named Format = refl
named Channels = refl
named Rate = refl
named Down = refl
named Csv = refl
named Header = refl
named Threads = refl
named Ring = refl
named Show = refl
named Binary = refl
named Seed = refl
named Count = refl
named From = refl
named Watch = refl

-- so two options have two names
same_name : (a b : Name) → bytes_eq (row a).name (row b).name ≡ true → a ≡ b
same_name a b e =
    let names : (row a).name ≡ (row b).name = (bytes_eq-Decides (row a).name (row b).name).0 e in
    let found : Some a ≡ Some b = sym (named a) ∙ ap name_of names ∙ named b in
    cc

is_of_same : (name : Name) (o : Option Name) → is_of name o ≡ true → o ≡ Some name
is_of_same name None e = cc
is_of_same name (Some other) e = ap (λ n. Some n) (same_name other name e)

-- the usual values keep to the rules
pub usual_good : (name : Name) → IfSome (row name).usual (λ text. why_value (row name).takes text ≡ None)
usual_good Job = refl
usual_good Format = refl
usual_good Channels = refl
usual_good Rate = refl
usual_good Down = refl
usual_good Csv = refl
usual_good Header = refl
usual_good Threads = refl
usual_good Ring = refl
usual_good Show = refl
usual_good Binary = tt
usual_good Seed = refl
usual_good Count = refl
usual_good From = tt
usual_good Watch = refl

good_value : (name : Name) (uses : List Used) → AllKept uses → IfSome (value_of name uses) (λ text. why_value (row name).takes text ≡ None)
good_value name uses kept = by (use_of name uses) refl
  where
    by : (o : Option Used) → use_of name uses ≡ o → IfSome (option_or (option_map (λ u. u.text) o) (row name).usual) (λ text. why_value (row name).takes text ≡ None)
    by None is = usual_good name
    by (Some u) is = subst (λ (n : Option Name). KeepsRule n u.text) (is_of_same name u.name (find_passes (λ v. is_of name v.name) uses u is)) (kept_use name uses kept u is).rule

-- the same of the words as the code keeps them
abbrev AllFit : List WordText → Type 0
AllFit [] = Unit {0}
AllFit (w ∷ ws) = (length w.text ≤ 4096) × AllFit ws

fit : (uses : List Used) → AllKept uses → AllFit (map word_text (chains_of uses))
fit [] all = tt
fit (u ∷ uses) all = by (is_some u.name) (fit uses all.1)
  where
    by : (b : Bool) → AllFit (map word_text (chains_of uses)) → AllFit (map word_text (cond (not b) (u ∷ chains_of uses) (chains_of uses)))
    by true rest = rest
    by false rest = (all.0.short, rest)

fits : (chains : List ChainWord) → AllFit (map chain_of chains) → All IsShort chains
fits [] all = λ k d within. absurd (omega (arith, within))
fits (c ∷ chains) all = at (fits chains all.1)
  where
    at : All IsShort chains → (k : ℕ) (d : ChainWord) → k < length (c ∷ chains) → IsShort (get_or (c ∷ chains) k d)
    at rest zero d within = all.0
    at rest (suc k) d within = rest k d (omega (arith, within))

module _ (words : List Text) (uses : List Used) (read : uses_of words ≡ Ok uses) where
  kept : AllKept uses
  kept = all_kept [] (parts_from 0 words) uses tt read

  pub are_good : AreGood uses
  are_good = λ name. good_value name uses kept

  pub chains_fit : (chains : List ChainWord) → map chain_of chains ≡ map word_text (chains_of uses) → All IsShort chains
  chains_fit chains same = fits chains (subst AllFit (sym same) (fit uses kept))

  -- a value that an option was given is short
  pub value_fits : (name : Name) (value : Option ChainWord) → option_map chain_of value ≡ option_map word_text (use_of name uses) → IfSome value IsShort
  value_fits name None same = tt
  value_fits name (Some c) same = by (use_of name uses) refl same
    where
      by : (o : Option Used) → use_of name uses ≡ o → Some (chain_of c) ≡ option_map word_text o → IsShort c
      by None is e = cc
      by (Some u) is e = let same : chain_of c ≡ word_text u = cc in subst (λ (w : WordText). length w.text ≤ 4096) (sym same) (kept_use name uses kept u is).short

  pub shown_fits : (shown : Option ChainWord) → option_map chain_of shown ≡ option_and_then unless_all (use_of Show uses) → IfSome shown IsShort
  shown_fits None same = tt
  shown_fits (Some c) same = by (use_of Show uses) refl same
    where
      all : (u : Used) → IsKept u → (b : Bool) → Some (chain_of c) ≡ cond b None (Some (word_text u)) → IsShort c
      all u kept true e = cc
      all u kept false e = let is : chain_of c ≡ word_text u = cc in subst (λ (w : WordText). length w.text ≤ 4096) (sym is) kept.short

      by : (o : Option Used) → use_of Show uses ≡ o → Some (chain_of c) ≡ option_and_then unless_all o → IsShort c
      by None is e = cc
      by (Some u) is e = all u (kept_use Show uses kept u is) _ e

  -- the text of an option without a usual value is short
  pub text_fits : (name : Name) → (row name).usual ≡ None → (text : Option (String Global)) → option_map string_bytes text ≡ value_of name uses → IfSome text (λ t. length (string_bytes t) ≤ 4096)
  text_fits name none None same = tt
  text_fits name none (Some t) same = by (use_of name uses) refl (same ∙ ap (λ usual. option_or (option_map (λ u. u.text) (use_of name uses)) usual) none)
    where
      by : (o : Option Used) → use_of name uses ≡ o → Some (string_bytes t) ≡ option_or (option_map (λ u. u.text) o) None → length (string_bytes t) ≤ 4096
      by None is e = cc
      by (Some u) is e = let same : string_bytes t ≡ u.text = cc in subst (λ (text : Text). length text ≤ 4096) (sym same) (kept_use name uses kept u is).short
