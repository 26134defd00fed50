-- Words without a fault are taken by `clap`, with the uses as its matches.
use Rattle.std.proofs.Common.{◌≡◌, ◌&&◌, Bool, true, false, cond, List, [], ◌∷◌, None, Ok, refl, ◌∙◌, ap, fold, length, arith}
use Rattle.std.proofs.lemmas.Bool.Decides.{nat_tests}
use Rattle.std.specs.List.{list_all}
use Rattle.clap.specs.Walk.{Row, Rule, default_rows, finished, has_row, is_empty, reading_by, with_default}
use Rattle.clap.specs.Simple.{matches_of}
use Rattle.clap.specs.Takes.{takes}
use Rattle.words.specs.App.{built_rules, rows_of_uses, word_app}
use Rattle.words.specs.Lexer.{Text}
use Rattle.words.specs.Uses.{Used, uses_of}
use Rattle.words.proofs.Taken.{Stands, Taken, taken}
use Rattle.words.proofs.Walking.{at_rest, settles}

start_stands : Stands [] [] None 0
start_stands = record { rows_are = refl; good = refl }

all_taken : (words : List Text) (uses : List Used) → uses_of words ≡ Ok uses → Taken words (at_rest false [] None 0) 0 uses
all_taken words uses e = taken words 0 [] uses 0 e false [] None start_stands

-- no argument has a default
no_default : (a : Rule) (rows : List Row) → is_empty a.defaults ≡ true → with_default rows a ≡ rows
no_default a rows e = by (has_row a.id rows) (by_defaults a.defaults e)
  where
    by_defaults : (values : List Text) → is_empty values ≡ true → default_rows a.id (reading_by a) values rows ≡ rows
    by_defaults [] e = refl
    by_defaults (v ∷ vs) e = let none : length (v ∷ vs) ≡ 0 = grind (arith, nat_tests) in absurd (omega arith)

    by : (b : Bool) → default_rows a.id (reading_by a) a.defaults rows ≡ rows → cond b rows (default_rows a.id (reading_by a) a.defaults rows) ≡ rows
    by true same = refl
    by false same = same

defaults_none : (rules : List Rule) (rows : List Row) → list_all (λ a. is_empty a.defaults) rules ≡ true → fold with_default rows rules ≡ rows
defaults_none [] rows e = refl
defaults_none (a ∷ rules) rows e = let p = both (is_empty a.defaults) (list_all (λ a. is_empty a.defaults) rules) e in
    ap (λ r. fold with_default r rules) (no_default a rows p.0) ∙ defaults_none rules rows p.1
  where
    both : (x y : Bool) → (x && y) ≡ true → (x ≡ true) × (y ≡ true)
    both true y e = (refl, e)
    both false y e = cc

pub matches_are_uses : (words : List Text) (uses : List Used) → uses_of words ≡ Ok uses → matches_of word_app words ≡ rows_of_uses [] uses
matches_are_uses words uses e = let t = all_taken words uses e in
    ap (λ w. finished built_rules w.held) t.ends ∙ defaults_none built_rules (settles t.pending t.rows) refl ∙ t.stands.rows_are

pub words_are_taken : (words : List Text) (uses : List Used) → uses_of words ≡ Ok uses → takes word_app words ≡ true
words_are_taken words uses e = let t = all_taken words uses e in
    rw (t.ends, t.passes_all, t.stands.good) refl
