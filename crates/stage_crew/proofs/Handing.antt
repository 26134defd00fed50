-- Links that each get the same, one after another.
use Rattle.std.proofs.Common.{◌≡◌, ◌≢◌, ℕ, zero, suc, ◌+◌, ◌-◌, ◌≤◌, ◌<◌, List, [], ◌∷◌, ◌++◌, map, take, drop, set, length, Some, slice_get, get_or, inl, inr, ◌⊎◌, refl, sym, ◌∙◌, ap, subst, arith, append_assoc}
use Rattle.std.proofs.Math.Seq.{map-set_same}
use Rattle.std.proofs.lemmas.List.{append-nil, drop-append-le, drop-drop, take-append-drop, take_all, length-drop}
use Rattle.std.proofs.lemmas.Option.{slice_get_within}
use Rattle.std.proofs.lemmas.Bool.{cases_eq}
use Rattle.stage_crew.specs.Fans.{Fans}
use Rattle.stage_crew.specs.declared.fan.Cursor.{Cursor}
use Rattle.stage_crew.proofs.Common.{gone}

-- one end was replaced by an end of the same link
pub links_same : {X Y : Type 0} (f : X → Y) (xs : List X) (k : ℕ) (old new : X) → old ≡ get_or xs k old → f new ≡ f old → map f (set xs k new) ≡ map f xs
links_same f xs k old new is same = map-set_same f xs k new old (same ∙ ap f is)

-- the element that was set, and the others
pub get_set : {X : Type 0} (xs : List X) (c k : ℕ) (x y : X) → slice_get (set xs c x) k ≡ Some y → ((k ≡ c) × (y ≡ x)) ⊎ ((k ≢ c) × (slice_get xs k ≡ Some y))
get_set [] c k x y is = inr (absurd cc, is)
get_set (z ∷ zs) zero zero x y is = inl (refl, cc)
get_set (z ∷ zs) zero (suc k) x y is = inr ((λ e. absurd (omega arith)), is)
get_set (z ∷ zs) (suc c) zero x y is = inr ((λ e. absurd (omega arith)), is)
get_set (z ∷ zs) (suc c) (suc k) x y is = elim (get_set zs c k x y is) [
  | inl here ↦ inl (ap suc here.0, here.1)
  | inr there ↦ inr ((λ e. there.0 (omega arith)), there.1)
]

get_map : {X Y : Type 0} (f : X → Y) (xs : List X) (k : ℕ) (d : X) → k < length xs → slice_get (map f xs) k ≡ Some (f (get_or xs k d))
get_map f [] k d within = absurd (omega (arith, within))
get_map f (y ∷ ys) zero d within = refl
get_map f (y ∷ ys) (suc k) d within = get_map f ys k d (omega (arith, within))

pub get_at : {X Y : Type 0} (f : X → Y) (xs : List X) (k : ℕ) (x : X) → k < length xs → x ≡ get_or xs k x → slice_get (map f xs) k ≡ Some (f x)
get_at f xs k x within is = get_map f xs k x within ∙ ap (λ a. Some (f a)) (sym is)

module _ {T : Type 0} where
  -- what is left of what is left
  further : (row : List T) (given n : ℕ) → take n (take (length row - given) (drop given row)) ++ drop (given + n) row ≡ drop given row
  further row given n =
      ap (λ (l : List T). take n l ++ drop (given + n) row) (take_all (length row - given) (drop given row) (omega (arith, length-drop given row)))
      ∙ ap (λ (l : List T). take n (drop given row) ++ l) (sym (drop-drop n given row ∙ ap (λ (k : ℕ). drop k row) (omega arith)))
      ∙ take-append-drop n (drop given row)

  module _ {sents : List (List T)} {row : List T} {cursor : Cursor} {all : List T} (old new : List T) (n : ℕ)
      (at : slice_get sents cursor.child ≡ Some old) (sends : new ≡ old ++ take n (take (length row - cursor.given) (drop cursor.given row))) where
    -- the present one was given more
    pub fan_more : Fans sents row cursor all → Fans (set sents cursor.child new) row (record { child = cursor.child; given = cursor.given + n }) all
    fan_more f = record {
      served = λ k s is less. elim (get_set sents cursor.child k new s is) [
        | inl same ↦ absurd (omega (arith, same.0))
        | inr other ↦ f.served k s other.1 less
      ];
      here = λ s is. elim (get_set sents cursor.child cursor.child new s is) [
        | inl same ↦
            ap (λ (l : List T). l ++ drop (cursor.given + n) row) (same.1 ∙ sends)
            ∙ append_assoc old (take n (take (length row - cursor.given) (drop cursor.given row))) (drop (cursor.given + n) row)
            ∙ ap (λ (l : List T). old ++ l) (further row cursor.given n) ∙ f.here old at
        | inr other ↦ absurd (other.0 refl)
      ];
      waiting = λ k s is more. elim (get_set sents cursor.child k new s is) [
        | inl same ↦ absurd (omega (arith, same.0))
        | inr other ↦ f.waiting k s other.1 more
      ];
    }

    -- and now it has all
    pub fan_next : Fans sents row cursor all → cursor.given + n ≡ length row → Fans (set sents cursor.child new) row (record { child = cursor.child + 1; given = 0 }) all
    fan_next f is =
        let m = fan_more f in
        record {
          served = λ k s at_k less. elim (cases_eq k cursor.child) [
            | inl same ↦
                let here = m.here s (subst (λ (j : ℕ). slice_get (set sents cursor.child new) j ≡ Some s) same at_k) in
                sym (ap (λ (l : List T). s ++ l) (gone row (cursor.given + n) (omega (arith, is))) ∙ append-nil s) ∙ here
            | inr other ↦ m.served k s at_k (omega (arith, other, less))
          ];
          here = λ s at_k. m.waiting (cursor.child + 1) s at_k (omega arith);
          waiting = λ k s at_k more. m.waiting k s at_k (omega (arith, more));
        }

-- rows that are handed out
module _ {T : Type 0} {sents : List (List T)} {row : List T} {cursor : Cursor} {all : List T} (f : Fans sents row cursor all) where
  pub fans_append : (new now : List T) → cursor.given ≤ length row → cursor.child ≡ 0 → now ≡ all ++ new → Fans sents (row ++ new) cursor now
  fans_append new now within fresh is = record {
    served = λ k s at less. absurd (omega (arith, fresh, less));
    here = λ s at. ap (λ (l : List T). s ++ l) (drop-append-le cursor.given row new within) ∙ sym (append_assoc s (drop cursor.given row) new) ∙ ap (λ (l : List T). l ++ new) (f.here s at) ∙ sym is;
    waiting = λ k s at more. sym (append_assoc s row new) ∙ ap (λ (l : List T). l ++ new) (f.waiting k s at more) ∙ sym is;
  }

  -- each of them has the whole row
  pub fans_done : length sents ≤ cursor.child → Fans sents [] (record { child = 0; given = 0 }) all
  fans_done served = record {
    served = λ k s at less. absurd (omega (arith, less));
    here = λ s at. let within = slice_get_within sents 0 s at in append-nil s ∙ f.served 0 s at (omega (arith, served, within));
    waiting = λ k s at more. let within = slice_get_within sents k s at in append-nil s ∙ f.served k s at (omega (arith, served, within));
  }

  -- all of the row was handed out
  pub fans_given : row ≡ [] → cursor.child ≡ 0 → (k : ℕ) (s : List T) → slice_get sents k ≡ Some s → s ≡ all
  fans_given none fresh k s at = by (cases_eq k cursor.child)
    where
      by : (k ≡ cursor.child) ⊎ (k ≢ cursor.child) → s ≡ all
      by (inl same) = sym (append-nil s) ∙ ap (λ (l : List T). s ++ l) (sym (ap (drop cursor.given) none ∙ gone [] cursor.given (omega arith))) ∙ f.here s (subst (λ (n : ℕ). slice_get sents n ≡ Some s) same at)
      by (inr other) = sym (append-nil s) ∙ ap (λ (l : List T). s ++ l) (sym none) ∙ f.waiting k s at (omega (arith, other, fresh))

-- nothing was sent yet
pub fans_fresh : {T : Type 0} (sents : List (List T)) (cursor : Cursor) → cursor.child ≡ 0 → ((k : ℕ) (s : List T) → slice_get sents k ≡ Some s → s ≡ []) → Fans sents [] cursor []
fans_fresh sents cursor first none = record {
  served = λ k s at less. absurd (omega (arith, first, less));
  here = λ s at. ap (λ l. s ++ l) (gone [] cursor.given (omega arith)) ∙ append-nil s ∙ none cursor.child s at;
  waiting = λ k s at more. append-nil s ∙ none k s at;
}
