-- What is left of pieces of bytes after a part of one was given.
use Rattle.std.proofs.Common.{get_or, Vec, Global, ◌≡◌, ℕ, ◌+◌, ◌-◌, ◌≤◌, ◌<◌, nat_lt, Bool, true, false, if◌then◌else◌, arith, List, [], ◌∷◌, ◌++◌, length, take, drop, refl, sym, ◌∙◌, ap, append_assoc, take-append-drop}
use Rattle.std.proofs.lemmas.List.{drop-drop, drop_more, drop_all}
use Rattle.std.proofs.lemmas.Bool.Decides.{nat_tests}
use Rattle.la_io.specs.Plans.{left_of_first, present, next_of, next_byte, bytes_on}
use Rattle.la_io.specs.Kept.{Place, bytes_of, rest_of, left_in}

-- a place, by its numbers
abbrev pub place : ℕ → ℕ → Place
place piece byte = record { piece = piece; byte = byte }

-- the next count bytes, and the others
pub given_from : (bytes front : List ℕ) (at count : ℕ) → take count front ≡ take count (drop at bytes) → drop at bytes ≡ take count front ++ drop (at + count) bytes
given_from bytes front at count is =
    sym (take-append-drop count (drop at bytes)) ∙ ap (λ (l : List ℕ). l ++ drop count (drop at bytes)) (sym is)
    ∙ ap (λ (l : List ℕ). take count front ++ l) (drop-drop count at bytes)

rest_from_start : (pieces : List (Vec ℕ Global)) → bytes_of pieces ≡ rest_of pieces 0
rest_from_start [] = refl
rest_from_start (p ∷ pieces) = refl

lt_true : (a b : ℕ) → a < b → nat_lt a b ≡ true
lt_true a b less = grind (arith, nat_tests)

lt_false : (a b : ℕ) → b ≤ a → nat_lt a b ≡ false
lt_false a b past = grind (arith, nat_tests)

module _ (pieces : List (Vec ℕ Global)) (piece : ℕ) (v : Vec ℕ Global) (there : piece < length pieces) (is : v ≡ get_or pieces piece v) where
  here : (at : ℕ) → left_in pieces (place piece at) ≡ drop at v.items ++ bytes_of (drop (piece + 1) pieces)
  here at =
      ap (λ (l : List (Vec ℕ Global)). rest_of l at) (drop_more pieces piece v there)
      ∙ ap (λ (w : Vec ℕ Global). drop at w.items ++ bytes_of (drop (piece + 1) pieces)) (sym is)

  -- the next bytes of a piece, and the others
  pub piece_given : (front : List ℕ) (at count : ℕ) → take count front ≡ take count (drop at v.items) → left_in pieces (place piece at) ≡ take count front ++ left_in pieces (place piece (at + count))
  piece_given front at count same =
      here at ∙ ap (λ (l : List ℕ). l ++ bytes_of (drop (piece + 1) pieces)) (given_from v.items front at count same)
      ∙ append_assoc (take count front) (drop (at + count) v.items) (bytes_of (drop (piece + 1) pieces))
      ∙ ap (λ (l : List ℕ). take count front ++ l) (sym (here (at + count)))

  -- a piece of which nothing is left
  pub piece_done : (at : ℕ) → length v.items ≤ at → left_in pieces (place piece at) ≡ left_in pieces (place (piece + 1) 0)
  piece_done at past =
      here at ∙ ap (λ (l : List ℕ). l ++ bytes_of (drop (piece + 1) pieces)) (drop_all at v.items past)
      ∙ rest_from_start (drop (piece + 1) pieces)

  present_here : (at : ℕ) → present pieces (place piece at) ≡ (if nat_lt at (length v.items) then length v.items - at else left_of_first (drop (piece + 1) pieces) 0)
  present_here at =
      ap (λ (l : List (Vec ℕ Global)). left_of_first l at) (drop_more pieces piece v there)
      ∙ ap (λ (w : Vec ℕ Global). if nat_lt at (length w.items) then length w.items - at else left_of_first (drop (piece + 1) pieces) 0) (sym is)

  -- how much is left of a piece of which something is left
  pub present_some : (at : ℕ) → at < length v.items → present pieces (place piece at) ≡ length v.items - at
  present_some at less = present_here at ∙ ap (λ (b : Bool). if◌then◌else◌ {A = ℕ} b (length v.items - at) (left_of_first (drop (piece + 1) pieces) 0)) (lt_true at (length v.items) less)

  -- where nothing is left of a piece it's that of those behind it
  pub present_done : (at : ℕ) → length v.items ≤ at → present pieces (place piece at) ≡ present pieces (place (piece + 1) 0)
  present_done at past = present_here at ∙ ap (λ (b : Bool). if◌then◌else◌ {A = ℕ} b (length v.items - at) (left_of_first (drop (piece + 1) pieces) 0)) (lt_false at (length v.items) past)

  next_here : (at : ℕ) → next_byte pieces (place piece at) ≡ (if nat_lt at (length v.items) then place piece at else next_of (drop (piece + 1) pieces) (piece + 1) 0)
  next_here at =
      ap (λ (l : List (Vec ℕ Global)). next_of l piece at) (drop_more pieces piece v there)
      ∙ ap (λ (w : Vec ℕ Global). if nat_lt at (length w.items) then place piece at else next_of (drop (piece + 1) pieces) (piece + 1) 0) (sym is)

  -- the next byte of a piece of which something is left
  pub next_some : (at : ℕ) → at < length v.items → next_byte pieces (place piece at) ≡ place piece at
  next_some at less = next_here at ∙ ap (λ (b : Bool). if◌then◌else◌ {A = Place} b (place piece at) (next_of (drop (piece + 1) pieces) (piece + 1) 0)) (lt_true at (length v.items) less)

  -- where nothing is left of a piece it's that of those behind it
  pub next_done : (at : ℕ) → length v.items ≤ at → next_byte pieces (place piece at) ≡ next_byte pieces (place (piece + 1) 0)
  next_done at past = next_here at ∙ ap (λ (b : Bool). if◌then◌else◌ {A = Place} b (place piece at) (next_of (drop (piece + 1) pieces) (piece + 1) 0)) (lt_false at (length v.items) past)

-- where no piece is left there is none
pub present_none : (pieces : List (Vec ℕ Global)) (piece at : ℕ) → length pieces ≤ piece → present pieces (place piece at) ≡ 0
present_none pieces piece at past = ap (λ (l : List (Vec ℕ Global)). left_of_first l at) (drop_all piece pieces past)

pub next_none : (pieces : List (Vec ℕ Global)) (piece at : ℕ) → length pieces ≤ piece → next_byte pieces (place piece at) ≡ place piece at
next_none pieces piece at past = ap (λ (l : List (Vec ℕ Global)). next_of l piece at) (drop_all piece pieces past)

-- and the next byte stands there
pub stands_still : (pieces : List (Vec ℕ Global)) (piece at : ℕ) → length pieces ≤ piece → place piece at ≡ bytes_on (next_byte pieces (place piece at)) 0
stands_still pieces piece at past =
    let same : at ≡ at + 0 = omega arith in
    ap (λ (n : ℕ). place piece n) same ∙ ap (λ (p : Place). bytes_on p 0) (sym (next_none pieces piece at past))
