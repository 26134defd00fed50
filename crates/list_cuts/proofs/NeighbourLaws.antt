-- How what neighbours give goes on with a list.
use Rattle.std.proofs.Common.{◌≡◌, ℕ, zero, suc, ◌+◌, ◌≤◌, List, [], ◌∷◌, ◌++◌, length, replicate, Option, Some, None, refl, sym, ◌∙◌, ap, arith, append_assoc}
use Rattle.std.proofs.lemmas.List.{append-nil}
use Rattle.list_cuts.specs.Neighbours.{neighbours_from, at_neighbours, last_from, last_of, AllAt, Rise}

module _ {X E : Type 0} (f : ℕ → Option X → X → List E) where
  -- more elements, behind some
  pub neighbours_append : (list more : List X) (k : ℕ) (before : Option X) → neighbours_from f k before (list ++ more) ≡ neighbours_from f k before list ++ neighbours_from f (k + length list) (last_from before list) more
  neighbours_append [] more k before =
      let same : k ≡ k + 0 = omega arith in
      ap (λ (n : ℕ). neighbours_from f n before more) same
  neighbours_append (x ∷ list) more k before =
      let place : k + 1 + length list ≡ k + suc (length list) = omega arith in
      ap (λ (l : List E). f k before x ++ l) (neighbours_append list more (k + 1) (Some x) ∙ ap (λ (n : ℕ). neighbours_from f (k + 1) (Some x) list ++ neighbours_from f n (last_from (Some x) list) more) place)
      ∙ sym (append_assoc (f k before x) (neighbours_from f (k + 1) (Some x) list) (neighbours_from f (k + suc (length list)) (last_from (Some x) list) more))

  -- one more element, behind some
  pub neighbours_push : (list : List X) (now : X) (k : ℕ) (before : Option X) → neighbours_from f k before (list ++ now ∷ []) ≡ neighbours_from f k before list ++ f (k + length list) (last_from before list) now
  neighbours_push list now k before =
      neighbours_append list (now ∷ []) k before
      ∙ ap (λ (l : List E). neighbours_from f k before list ++ l) (append-nil (f (k + length list) (last_from before list) now))

  -- more elements: what they give behind the last one
  pub at_neighbours_append : (list more : List X) → at_neighbours f (list ++ more) ≡ at_neighbours f list ++ neighbours_from f (length list) (last_of list) more
  at_neighbours_append list more =
      let same : 0 + length list ≡ length list = omega arith in
      neighbours_append list more 0 None ∙ ap (λ (n : ℕ). at_neighbours f list ++ neighbours_from f n (last_of list) more) same

  -- one more element: what it gives with the one before it
  pub at_neighbours_push : (list : List X) (now : X) → at_neighbours f (list ++ now ∷ []) ≡ at_neighbours f list ++ f (length list) (last_of list) now
  at_neighbours_push list now =
      at_neighbours_append list (now ∷ [])
      ∙ ap (λ (l : List E). at_neighbours f list ++ l) (append-nil (f (length list) (last_of list) now))

  -- elements that each give nothing
  pub neighbours_silent : (more : List X) (k : ℕ) (before : Option X) → ((front : List X) (now : X) (back : List X) → more ≡ front ++ now ∷ back → f (k + length front) (last_from before front) now ≡ []) → neighbours_from f k before more ≡ []
  neighbours_silent [] k before each = refl
  neighbours_silent (x ∷ more) k before each =
      let here : k ≡ k + 0 = omega arith in
      let first : f k before x ≡ [] = ap (λ (n : ℕ). f n before x) here ∙ each [] x more refl in
      λ i. first i ++ neighbours_silent more (k + 1) (Some x) (λ front now back is. let next : k + 1 + length front ≡ k + suc (length front) = omega arith in ap (λ (n : ℕ). f n (last_from (Some x) front) now) next ∙ each (x ∷ front) now back (ap (λ (l : List X). x ∷ l) is)) i

  -- the same element again and again, where it gives nothing behind itself
  pub neighbours_same : (n k : ℕ) (x : X) → ((place : ℕ) → f place (Some x) x ≡ []) → neighbours_from f k (Some x) (replicate n x) ≡ []
  neighbours_same zero k x none = refl
  neighbours_same (suc n) k x none = λ i. none k i ++ neighbours_same n (k + 1) x none i

  -- elements that give nothing add nothing
  pub at_neighbours_silent : (list more : List X) → ((front : List X) (now : X) (back : List X) → more ≡ front ++ now ∷ back → f (length list + length front) (last_from (last_of list) front) now ≡ []) → at_neighbours f (list ++ more) ≡ at_neighbours f list
  at_neighbours_silent list more each =
      at_neighbours_append list more
      ∙ ap (λ (l : List E). at_neighbours f list ++ l) (neighbours_silent more (length list) (last_of list) each)
      ∙ append-nil (at_neighbours f list)

  -- the last element again and again, where it gives nothing behind itself, adds nothing
  pub at_neighbours_same : (list : List X) (n : ℕ) (x : X) → last_of list ≡ Some x → ((place : ℕ) → f place (Some x) x ≡ []) → at_neighbours f (list ++ replicate n x) ≡ at_neighbours f list
  at_neighbours_same list n x is none =
      at_neighbours_append list (replicate n x)
      ∙ ap (λ (o : Option X). at_neighbours f list ++ neighbours_from f (length list) o (replicate n x)) is
      ∙ ap (λ (l : List E). at_neighbours f list ++ l) (neighbours_same n (length list) x none)
      ∙ append-nil (at_neighbours f list)

-- the last element of a longer list
pub last_from_push : {X : Type 0} (list : List X) (x : X) (before : Option X) → last_from before (list ++ x ∷ []) ≡ Some x
last_from_push [] x before = refl
last_from_push (y ∷ list) x before = last_from_push list x (Some y)

module _ {E : Type 0} (place : E → ℕ) where
  rise_append : (k low : ℕ) (here later : List E) → low ≤ k → AllAt place k here → ((from : ℕ) → from ≤ k → Rise place from later) → Rise place low (here ++ later)
  rise_append k low [] later below all rest = rest low below
  rise_append k low (e ∷ here) later below all rest = (omega (arith, all.0), rise_append k (place e) here later (omega (arith, all.0)) all.1 rest)

  module _ {X : Type 0} (f : ℕ → Option X → X → List E) (own : (k : ℕ) (before : Option X) (now : X) → AllAt place k (f k before now)) where
    -- where each gives only events of its own place, their places never fall
    pub neighbours_rise : (list : List X) (k low : ℕ) (before : Option X) → low ≤ k → Rise place low (neighbours_from f k before list)
    neighbours_rise [] k low before below = tt
    neighbours_rise (x ∷ list) k low before below =
        rise_append k low (f k before x) (neighbours_from f (k + 1) (Some x) list) below (own k before x) (λ from under. neighbours_rise list (k + 1) from (Some x) (omega arith))

    pub at_neighbours_rise : (list : List X) → Rise place 0 (at_neighbours f list)
    at_neighbours_rise list = neighbours_rise list 0 0 None (omega arith)
