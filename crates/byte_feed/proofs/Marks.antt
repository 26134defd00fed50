-- Bytes at the very front, and a mark.
use Rattle.std.proofs.Common.{◌≡◌, ℕ, ◌<◌, ◌≤◌, ◌==◌, ◌&&◌, nat_eq, ◌⊎◌, inl, inr, List, [], ◌∷◌, ◌++◌, take, drop, length, refl, sym, ◌∙◌, ap, subst, arith, zero, suc, Bool, true, false, cond}
use Rattle.std.proofs.lemmas.List.{append-nil}
use Rattle.std.proofs.lemmas.Bool.{cond-false, eqb-true, eqb-false, ne_eqb, false≢true}
use Rattle.std.specs.Cmp.Lexicographic.{pointwise}
use Rattle.std.specs.List.{starts_with}
use Rattle.byte_feed.specs.Lines.{mark, unmarked, without_mark}
use Rattle.byte_feed.specs.LineMoves.{AllIn}

both : (a b : Bool) → (a && b) ≡ true → (a ≡ true) × (b ≡ true)
both true b e = (refl, e)
both false b e = absurd (false≢true e)

-- what may begin a mark
abbrev pub MarkFront : List ℕ → Type 0
MarkFront bytes = (bytes ≡ []) ⊎ (bytes ≡ 239 ∷ []) ⊎ (bytes ≡ 239 ∷ 187 ∷ [])

pub mark_front : (bytes : List ℕ) → length bytes < 3 → starts_with nat_eq mark bytes ≡ true → MarkFront bytes
mark_front [] less is = inl refl
mark_front (x ∷ []) less is = inr (inl (ap (λ (n : ℕ). n ∷ []) (eqb-true x 239 (both (x == 239) true is).0)))
mark_front (x ∷ y ∷ []) less is =
    let one = both (x == 239) ((y == 187) && true) is in
    inr (inr (λ i. eqb-true x 239 one.0 i ∷ eqb-true y 187 (both (y == 187) true one.1).0 i ∷ []))
mark_front (x ∷ y ∷ z ∷ bytes) less is = absurd (omega (arith, less))

pub none_marked : (lines : ℕ) → unmarked lines [] ≡ []
none_marked lines = by_test (lines == 0) where
  by_test : (t : Bool) → cond t (without_mark []) [] ≡ []
  by_test true = refl
  by_test false = refl

-- a part of a mark is of one line
pub front_in : (lines : ℕ) (bytes : List ℕ) → lines ≡ 0 → MarkFront bytes → (length bytes < 3) × AllIn bytes (length bytes) × (unmarked lines bytes ≡ bytes)
front_in lines bytes e (inl is) = subst (λ (l : List ℕ). (length l < 3) × AllIn l (length l) × (unmarked lines l ≡ l)) (sym is) (omega arith, (λ k less. absurd (omega (arith, less))), none_marked lines)
front_in lines bytes e (inr (inl is)) =
    subst (λ (l : List ℕ). (length l < 3) × AllIn l (length l) × (unmarked lines l ≡ l)) (sym is) (omega arith, (λ k less. in_one k less), ap (λ (n : ℕ). unmarked n (239 ∷ [])) e)
  where
    in_one : AllIn (239 ∷ []) 1
    in_one zero less = refl
    in_one (suc k) less = absurd (omega (arith, less))
front_in lines bytes e (inr (inr is)) =
    subst (λ (l : List ℕ). (length l < 3) × AllIn l (length l) × (unmarked lines l ≡ l)) (sym is) (omega arith, (λ k less. in_two k less), ap (λ (n : ℕ). unmarked n (239 ∷ 187 ∷ [])) e)
  where
    in_two : AllIn (239 ∷ 187 ∷ []) 2
    in_two zero less = refl
    in_two (suc zero) less = refl
    in_two (suc (suc k)) less = absurd (omega (arith, less))

-- nothing that begins a mark is left: what comes is behind it
pub front_passed : (lines : ℕ) (held all new : List ℕ) (n : ℕ) → lines ≡ 0 → held ≡ all → ((more : List ℕ) → without_mark (held ++ more) ≡ without_mark held ++ more) → drop n held ≡ without_mark held → new ≡ drop n held
    → (more : List ℕ) → unmarked lines (all ++ more) ≡ new ++ more
front_passed lines held all new n e is settled behind new_is more =
    (λ i. unmarked (e i) (sym is i ++ more)) ∙ settled more ∙ ap (λ (l : List ℕ). l ++ more) (sym (new_is ∙ behind))

-- and where nothing comes
pub front_alone : (lines : ℕ) (all new : List ℕ) → lines ≡ 0 → new ≡ all → MarkFront all → (more : List ℕ) → more ≡ [] → unmarked lines (all ++ more) ≡ new ++ more
front_alone lines all new e is may more none =
    ap (λ (l : List ℕ). unmarked lines (all ++ l)) none ∙ ap (λ (l : List ℕ). unmarked lines l) (append-nil all) ∙ (front_in lines all e may).2 ∙ sym is ∙ sym (append-nil new) ∙ ap (λ (l : List ℕ). new ++ l) (sym none)

pub front_behind : (lines : ℕ) (all new : List ℕ) → 0 < lines → new ≡ all → (more : List ℕ) → unmarked lines (all ++ more) ≡ new ++ more
front_behind lines all new some is more = cond-false (lines == 0) _ _ (ne_eqb lines 0 (λ e. omega (arith, e, some))) ∙ ap (λ (l : List ℕ). l ++ more) (sym is)

other : (x n : ℕ) → (x == n) ≡ false → (n == x) ≡ false
other x n e = ne_eqb n x (λ is. eqb-false x n e (sym is))

no_mark : (bytes : List ℕ) → starts_with nat_eq bytes mark ≡ false → without_mark bytes ≡ bytes
no_mark bytes is = cond-false (starts_with nat_eq bytes mark) _ _ is

-- a byte that isn't that of a mark
not_first : (x : ℕ) (more : List ℕ) → (x == 239) ≡ false → starts_with nat_eq (x ∷ more) mark ≡ false
not_first x more e = ap (λ (t : Bool). t && pointwise nat_eq (187 ∷ 191 ∷ []) (take 2 more)) (other x 239 e)

not_second : (x y : ℕ) (more : List ℕ) → (y == 187) ≡ false → starts_with nat_eq (x ∷ y ∷ more) mark ≡ false
not_second x y more e = ap (λ (t : Bool). (239 == x) && (t && pointwise nat_eq (191 ∷ []) (take 1 more))) (other y 187 e) ∙ by_first (239 == x) where
  by_first : (t : Bool) → (t && false) ≡ false
  by_first true = refl
  by_first false = refl

settled_by : (bytes more : List ℕ) → ((rest : List ℕ) → starts_with nat_eq (bytes ++ rest) mark ≡ false) → without_mark (bytes ++ more) ≡ without_mark bytes ++ more
settled_by bytes more none = no_mark (bytes ++ more) (none more) ∙ ap (λ (l : List ℕ). l ++ more) (sym (no_mark bytes (ap (λ (l : List ℕ). starts_with nat_eq l mark) (sym (append-nil bytes)) ∙ none [])))

-- more bytes change nothing where a mark can't be made whole
mark_settled : (bytes : List ℕ) → (length bytes < 3 → starts_with nat_eq mark bytes ≡ false) → (more : List ℕ) → without_mark (bytes ++ more) ≡ without_mark bytes ++ more
mark_settled [] is more = absurd (false≢true (sym (is (omega arith))))
mark_settled (x ∷ []) is more = by_first (x == 239) refl where
  by_first : (t : Bool) → t ≡ (x == 239) → without_mark (x ∷ more) ≡ without_mark (x ∷ []) ++ more
  by_first true e = absurd (false≢true (sym (is (omega arith)) ∙ ap (λ (t : Bool). t && true) (sym e)))
  by_first false e = settled_by (x ∷ []) more (λ rest. not_first x rest (sym e))
mark_settled (x ∷ y ∷ []) is more = by_bytes (x == 239) (y == 187) refl refl where
  by_bytes : (t u : Bool) → t ≡ (x == 239) → u ≡ (y == 187) → without_mark (x ∷ y ∷ more) ≡ without_mark (x ∷ y ∷ []) ++ more
  by_bytes true true e f = absurd (false≢true (sym (is (omega arith)) ∙ (λ i. sym e i && (sym f i && true))))
  by_bytes false u e f = settled_by (x ∷ y ∷ []) more (λ rest. not_first x (y ∷ rest) (sym e))
  by_bytes true false e f = settled_by (x ∷ y ∷ []) more (λ rest. not_second x y rest (sym f))
mark_settled (x ∷ y ∷ z ∷ bytes) is more = by_test (starts_with nat_eq (x ∷ y ∷ z ∷ []) mark) where
  by_test : (t : Bool) → cond t (bytes ++ more) (x ∷ y ∷ z ∷ (bytes ++ more)) ≡ cond t bytes (x ∷ y ∷ z ∷ bytes) ++ more
  by_test true = refl
  by_test false = refl

-- bytes may begin a mark, or more of them change nothing
pub front_or_settled : (bytes : List ℕ) → MarkFront bytes ⊎ ((more : List ℕ) → without_mark (bytes ++ more) ≡ without_mark bytes ++ more)
front_or_settled bytes = by_length (search arith) where
  by_test : (t : Bool) → starts_with nat_eq mark bytes ≡ t → length bytes < 3 → MarkFront bytes ⊎ ((more : List ℕ) → without_mark (bytes ++ more) ≡ without_mark bytes ++ more)
  by_test true e less = inl (mark_front bytes less e)
  by_test false e less = inr (mark_settled bytes (λ l. e))

  by_length : (length bytes < 3) ⊎ (3 ≤ length bytes) → MarkFront bytes ⊎ ((more : List ℕ) → without_mark (bytes ++ more) ≡ without_mark bytes ++ more)
  by_length (inl less) = by_test (starts_with nat_eq mark bytes) refl less
  by_length (inr long) = inr (mark_settled bytes (λ less. absurd (omega (arith, long, less))))
