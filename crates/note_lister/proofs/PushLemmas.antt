-- Marks that are pushed one behind another.
use Rattle.std.proofs.Common.{◌≡◌, ◌≢◌, ◌∙◌, inl, inr, ◌⊎◌, ℕ, Bool, true, false, List, [], ◌∷◌, ◌++◌, Result, Ok, Err, refl, sym, ap, append_assoc}
use Rattle.std.specs.Prelude.{IsErr}
use Rattle.std.specs.Result.{is_ok}
use Rattle.la_base.specs.declared.wires.Mark.{Mark}
use Rattle.tree_io.proofs.Taking.{some_behind, takes_nothing, takes_then}
use Rattle.annot_merge.specs.Held.{Stands}
use Rattle.annot_merge.specs.declared.merge.Merge.{Merge}
use Rattle.note_lister.specs.Pushing.{PushesFront, PushesMarks, TellsSome}

pub pushes_nothing : (merge : Merge) (instance : ℕ) → PushesMarks merge merge instance []
pushes_nothing merge instance = λ given. takes_nothing (λ (had : ℕ → List Mark). Stands merge had given) instance

pub pushes_then : (old mid new : Merge) (instance : ℕ) (xs ys zs : List Mark) → PushesMarks old mid instance xs → PushesMarks mid new instance ys → xs ++ ys ≡ zs → PushesMarks old new instance zs
pushes_then old mid new instance xs ys zs first last is = λ given.
    takes_then (λ (had : ℕ → List Mark). Stands old had given) (λ (had : ℕ → List Mark). Stands mid had given) (λ (had : ℕ → List Mark). Stands new had given) instance xs ys zs (first given) (last given) is

-- behind others there was no memory for one
pub front_behind : (old mid new : Merge) (instance : ℕ) (xs ys rest all : List Mark) → PushesMarks old mid instance xs → PushesFront mid new instance ys → (xs ++ ys) ++ rest ≡ all → PushesFront old new instance all
front_behind old mid new instance xs ys rest all first f is =
    let one = f.refused ∷ [] in
    record {
      first = xs ++ f.first;
      refused = f.refused;
      rest = f.rest ++ rest;
      front =
          ap (λ (l : List Mark). l ++ (f.rest ++ rest)) (append_assoc xs f.first one)
          ∙ append_assoc xs (f.first ++ one) (f.rest ++ rest)
          ∙ ap (λ (l : List Mark). xs ++ l) (sym (append_assoc (f.first ++ one) f.rest rest) ∙ ap (λ (l : List Mark). l ++ rest) f.front)
          ∙ sym (append_assoc xs ys rest)
          ∙ is;
      pushes = pushes_then old mid new instance xs f.first (xs ++ f.first) first f.pushes refl;
    }

some_front : {X : Type 0} (xs ys : List X) → xs ≢ [] → xs ++ ys ≢ []
some_front [] ys some = absurd (some refl)
some_front (x ∷ xs) ys some = λ is. absurd cc

-- whether there were some
pub tells_none : (merge : Merge) → TellsSome false false merge merge []
tells_none merge = record { none = λ is. (refl, refl, refl); some_is = λ is. absurd cc }

pub tells_then : (before now : Bool) (old mid new : Merge) (xs ys zs : List Mark) → TellsSome false before old mid xs → TellsSome before now mid new ys → xs ++ ys ≡ zs → TellsSome false now old new zs
tells_then before now old mid new xs ys zs p q is = record {
  none = λ no.
      let last = q.none no in
      let first = p.none last.0 in
      (refl, sym is ∙ ap (λ (l : List Mark). l ++ ys) first.1 ∙ last.1, last.2 ∙ first.2);
  some_is = λ there. inr (λ nothing. some there (is ∙ nothing));
}
  where
    first_some : before ≡ true → xs ≢ []
    first_some had = elim (p.some_is had) [ inl never ↦ absurd cc | inr some ↦ some ]

    some : now ≡ true → xs ++ ys ≢ []
    some there = elim (q.some_is there) [ inl had ↦ some_front xs ys (first_some had) | inr more ↦ some_behind xs ys more ]

pub not_ok : {T E X : Type 0} (result : Result T E) → IsErr result → is_ok result ≡ true → X
not_ok (Ok done) err is = absurd cc
not_ok (Err why) err is = absurd cc

-- nothing, and nothing behind it
pub none_more : (before more all : List Mark) → before ++ more ≡ all → before ≡ [] → more ≡ [] → all ≡ []
none_more before more all is first last = sym is ∙ ap (λ (l : List Mark). l ++ more) first ∙ last
