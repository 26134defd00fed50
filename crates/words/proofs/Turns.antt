-- One turn of the loop over the words.
use Rattle.std.proofs.Common.{◌≡◌, ℕ, ◌+◌, ◌<◌, ◌≤◌, Bool, true, false, cond, List, [], ◌∷◌, ◌++◌, length, Option, Some, None, Ok, Err, refl, sym, ◌∙◌, ap, arith}
use Rattle.std.specs.Prelude.{is_some}
use Rattle.text_parts.specs.Reading.{then_read, read_parts}
use Rattle.words.specs.Lexer.{Text}
use Rattle.words.specs.declared.kinds.WordFault.{WordFault}
use Rattle.words.specs.Uses.{Used, number_behind, parts_from, takes_next, use_at, value_behind}

parts_turn : (number : ℕ) (word : Text) (behind : List Text)
    → parts_from number (word ∷ behind) ≡ record { number = number; word = word; next = (value_behind word behind).0 } ∷ parts_from (number_behind number (value_behind word behind).0) (value_behind word behind).1
parts_turn number word [] = refl
parts_turn number word (next ∷ rest) = by (takes_next word next)
  where
    by : (b : Bool)
        → cond b (record { number = number; word = word; next = Some next } ∷ parts_from (number + 2) rest) (record { number = number; word = word; next = None } ∷ parts_from (number + 1) (next ∷ rest))
        ≡ record { number = number; word = word; next = (cond {A = Option Text × List Text} b (Some next, rest) (None, next ∷ rest)).0 } ∷ parts_from (number_behind number (cond {A = Option Text × List Text} b (Some next, rest) (None, next ∷ rest)).0) (cond {A = Option Text × List Text} b (Some next, rest) (None, next ∷ rest)).1
    by true = refl
    by false = refl

module _ (before : List Used) (number : ℕ) (words : List Text) (word : Text) (behind : List Text) (next : Option Text) (rest : List Text)
    (first : words ≡ word ∷ behind) (value : (next, rest) ≡ value_behind word behind) where
  parts_are : parts_from number words ≡ record { number = number; word = word; next = next } ∷ parts_from (number_behind number next) rest
  parts_are = ap (parts_from number) first ∙ parts_turn number word behind
      ∙ ap (λ p. record { number = number; word = word; next = p.0 } ∷ parts_from (number_behind number p.0) p.1) (sym value)

  pub use_more : (u : Used) → use_at before (record { number = number; word = word; next = next }) ≡ Ok u
      → read_parts use_at before (parts_from number words) ≡ read_parts use_at (before ++ u ∷ []) (parts_from (number_behind number next) rest)
  use_more u good = ap (read_parts use_at before) parts_are
      ∙ ap (λ r. then_read r (λ u. read_parts use_at (before ++ u ∷ []) (parts_from (number_behind number next) rest))) good

  pub use_stops : (fault : WordFault) → use_at before (record { number = number; word = word; next = next }) ≡ Err fault → read_parts use_at before (parts_from number words) ≡ Err fault
  use_stops fault bad = ap (read_parts use_at before) parts_are
      ∙ ap (λ r. then_read r (λ u. read_parts use_at (before ++ u ∷ []) (parts_from (number_behind number next) rest))) bad

  pub fewer_words : length rest < length words
  fewer_words = let e = ap length first in let h = ap (λ p. length p.1) value in let l = shorter in omega arith
    where
      shorter_by : (b : Bool) (next : Text) (rest : List Text) → length (cond {A = Option Text × List Text} b (Some next, rest) (None, next ∷ rest)).1 ≤ length (next ∷ rest)
      shorter_by true next rest = omega arith
      shorter_by false next rest = omega arith

      shorter_all : (behind : List Text) → length (value_behind word behind).1 ≤ length behind
      shorter_all [] = omega arith
      shorter_all (next ∷ rest) = shorter_by (takes_next word next) next rest

      shorter : length (value_behind word behind).1 ≤ length behind
      shorter = shorter_all behind

counted_by : (b : Bool) (number : ℕ) (next : Text) (rest : List Text) → number_behind number (cond {A = Option Text × List Text} b (Some next, rest) (None, next ∷ rest)).0 + length (cond {A = Option Text × List Text} b (Some next, rest) (None, next ∷ rest)).1 ≡ number + length (next ∷ rest) + 1
counted_by true number next rest = omega arith
counted_by false number next rest = omega arith

counted_behind : (number : ℕ) (word : Text) (behind : List Text) → number_behind number (value_behind word behind).0 + length (value_behind word behind).1 ≡ number + length behind + 1
counted_behind number word [] = omega arith
counted_behind number word (next ∷ rest) = counted_by (takes_next word next) number next rest

-- the numbers count the words
pub words_counted : (number : ℕ) (words : List Text) (word : Text) (behind : List Text) (next : Option Text) (rest : List Text) → words ≡ word ∷ behind → (next, rest) ≡ value_behind word behind
    → number_behind number next + length rest ≡ number + length words
words_counted number words word behind next rest first value = ap (λ p. number_behind number p.0 + length p.1) value ∙ counted_behind number word behind
    ∙ (let e = ap length first in omega arith)

pub number_two : (number : ℕ) (next : Option Text) → is_some next ≡ true → number_behind number next ≡ number + 2
number_two number None e = cc
number_two number (Some next) e = refl

pub number_one : (number : ℕ) (next : Option Text) → is_some next ≡ false → number_behind number next ≡ number + 1
number_one number None e = refl
number_one number (Some next) e = cc
