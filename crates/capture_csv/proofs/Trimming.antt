-- What stands round the text of a line and of its fields.
use Rattle.std.proofs.Common.{◌≡◌, ℕ, ◌+◌, ◌-◌, ◌≤◌, nat_eq, List, [], ◌∷◌, ◌++◌, take, drop, length, reverse, length-drop, refl, sym, ◌∙◌, ap, arith, Bool, true, false, cond, ◌&&◌, ◌==◌}
use Rattle.std.proofs.lemmas.Bool.{cond-true, cond-false, eq-eqb, eqb-true, false≢true}
use Rattle.std.proofs.lemmas.List.{drop-drop, take_all, reverse-append, reverse-reverse}
use Rattle.std.specs.List.{starts_with}
use Rattle.csv.specs.Reading.{is_bom, strip_bom}
use Rattle.byte_feed.specs.Lines.{mark}
use Rattle.capture_csv.specs.Records.{is_space, trim_back, trim_front, without_marks}

-- one mark more
pub marks_step : (text : List ℕ) → starts_with nat_eq text mark ≡ true → (3 ≤ length text) × (without_marks (drop 3 text) ≡ without_marks text)
marks_step [] is = absurd (false≢true is)
marks_step (x ∷ []) is = absurd (false≢true (sym (one (239 == x)) ∙ is)) where
  one : (t : Bool) → (t && false) ≡ false
  one true = refl
  one false = refl
marks_step (x ∷ y ∷ []) is = absurd (false≢true (sym (two (239 == x) (187 == y)) ∙ is)) where
  two : (t u : Bool) → (t && (u && false)) ≡ false
  two true true = refl
  two true false = refl
  two false u = refl
marks_step (x ∷ y ∷ z ∷ rest) is = (omega arith, sym (cond-true (starts_with nat_eq (x ∷ y ∷ z ∷ []) mark) _ _ is))

pub marks_done : (text : List ℕ) → starts_with nat_eq text mark ≡ false → without_marks text ≡ text
marks_done [] is = refl
marks_done (x ∷ []) is = refl
marks_done (x ∷ y ∷ []) is = refl
marks_done (x ∷ y ∷ z ∷ rest) is = cond-false (starts_with nat_eq (x ∷ y ∷ z ∷ []) mark) _ _ is

-- spaces at the front
pub front_step : (x : ℕ) (rest : List ℕ) → is_space x ≡ true → trim_front rest ≡ trim_front (x ∷ rest)
front_step x rest is = sym (cond-true (is_space x) _ _ is)

pub front_done : (x : ℕ) (rest : List ℕ) → is_space x ≡ false → x ∷ rest ≡ trim_front (x ∷ rest)
front_done x rest is = sym (cond-false (is_space x) _ _ is)

-- spaces at the end
pub back_step : (text : List ℕ) (x : ℕ) → is_space x ≡ true → trim_back text ≡ trim_back (text ++ x ∷ [])
back_step text x is = sym (ap (λ (l : List ℕ). reverse (trim_front l)) (reverse-append text (x ∷ [])) ∙ ap (λ (l : List ℕ). reverse l) (sym (front_step x (reverse text) is)))

pub back_done : (text : List ℕ) (x : ℕ) → is_space x ≡ false → text ++ x ∷ [] ≡ trim_back (text ++ x ∷ [])
back_done text x is =
    sym (reverse-reverse (text ++ x ∷ [])) ∙ ap (λ (l : List ℕ). reverse l) (reverse-append text (x ∷ []) ∙ front_done x (reverse text) is ∙ ap (λ (l : List ℕ). trim_front l) (sym (reverse-append text (x ∷ []))))

-- marks at the front of what is left of a line
rest_is : (xs : List ℕ) (n : ℕ) → take (length xs - n) (drop n xs) ≡ drop n xs
rest_is xs n = take_all (length xs - n) (drop n xs) (omega (arith, length-drop n xs))

pub marks_left : (line : List ℕ) (at : ℕ) → starts_with nat_eq (take (length line - at) (drop at line)) mark ≡ true → (at + 3 ≤ length line) × (without_marks (drop (at + 3) line) ≡ without_marks (drop at line))
marks_left line at is =
    let step = marks_step (drop at line) (ap (λ (l : List ℕ). starts_with nat_eq l mark) (sym (rest_is line at)) ∙ is) in
    (omega (arith, step.0, length-drop at line), ap (λ (l : List ℕ). without_marks l) (sym (drop-drop 3 at line)) ∙ step.1)

pub marks_all : (line : List ℕ) (at : ℕ) → starts_with nat_eq (take (length line - at) (drop at line)) mark ≡ false → drop at line ≡ without_marks (drop at line)
marks_all line at is = sym (marks_done (drop at line) (ap (λ (l : List ℕ). starts_with nat_eq l mark) (sym (rest_is line at)) ∙ is))

-- no mark is left at the front
marks_gone : (line : List ℕ) → starts_with nat_eq (without_marks line) mark ≡ false
marks_gone [] = refl
marks_gone (x ∷ []) = by_one (239 == x) where
  by_one : (t : Bool) → (t && false) ≡ false
  by_one true = refl
  by_one false = refl
marks_gone (x ∷ y ∷ []) = by_two (239 == x) (187 == y) where
  by_two : (t u : Bool) → (t && (u && false)) ≡ false
  by_two true true = refl
  by_two true false = refl
  by_two false u = refl
marks_gone (x ∷ y ∷ z ∷ rest) = by_test (starts_with nat_eq (x ∷ y ∷ z ∷ []) mark) refl (marks_gone rest) where
  by_test : (t : Bool) → starts_with nat_eq (x ∷ y ∷ z ∷ []) mark ≡ t → starts_with nat_eq (without_marks rest) mark ≡ false → starts_with nat_eq (cond t (without_marks rest) (x ∷ y ∷ z ∷ rest)) mark ≡ false
  by_test true e gone = gone
  by_test false e gone = e

other : (x n : ℕ) → (x == n) ≡ true → (n == x) ≡ true
other x n e = eq-eqb n x (sym (eqb-true x n e))

both : (a b : Bool) → (a && b) ≡ true → (a ≡ true) × (b ≡ true)
both true b e = (refl, e)
both false b e = absurd (false≢true e)

no_bom : (text : List ℕ) → starts_with nat_eq text mark ≡ false → strip_bom text ≡ text
unfolding strip_bom
no_bom [] is = refl
no_bom (x ∷ []) is = refl
no_bom (x ∷ y ∷ []) is = refl
no_bom (x ∷ y ∷ z ∷ rest) is = by_test (is_bom x y z) refl where
  by_test : (t : Bool) → is_bom x y z ≡ t → cond t rest (x ∷ y ∷ z ∷ rest) ≡ x ∷ y ∷ z ∷ rest
  by_test true e =
      let one = both ((x == 239) && (y == 187)) (z == 191) e in
      let two = both (x == 239) (y == 187) one.0 in
      absurd (false≢true (sym is ∙ (λ i. other x 239 two.0 i && (other y 187 two.1 i && (other z 191 one.1 i && true)))))
  by_test false e = refl

pub bare_line : (line : List ℕ) → strip_bom (without_marks line) ≡ without_marks line
bare_line line = no_bom (without_marks line) (marks_gone line)

pub marks_len : (line : List ℕ) → length (without_marks line) ≤ length line
marks_len [] = omega arith
marks_len (x ∷ []) = omega arith
marks_len (x ∷ y ∷ []) = omega arith
marks_len (x ∷ y ∷ z ∷ rest) = by_test (starts_with nat_eq (x ∷ y ∷ z ∷ []) mark) (marks_len rest) where
  by_test : (t : Bool) → length (without_marks rest) ≤ length rest → length (cond t (without_marks rest) (x ∷ y ∷ z ∷ rest)) ≤ length (x ∷ y ∷ z ∷ rest)
  by_test true few = omega (arith, few)
  by_test false few = omega arith
