-- The steps of readers and of the writer keep the rule.
use Rattle.std.proofs.Common.{◌≡◌, ℕ, ◌≢◌, List, [], ◌∷◌, ◌++◌, set, refl, sym, ap, ◌∙◌, subst, ⊎_elim, Option, Some, None}
use mathlib.Core.Option.{some}
use lib.ListN.{get_elem?}
use Rattle.left_right.specs.Register.{Admits, TurnsAt, Forks, Merges}
use Rattle.atomic_table.proofs.Lists.{at_set, at_snoc}
use Rattle.logbook.specs.Pages.{Book}
use Rattle.view_store.specs.declared.store.Store.{Store}
use Rattle.view_store.specs.declared.rule.Name.{Name}
use Rattle.view_store.specs.Stores.{IsTied, content_of, name_of, IsNamed, Looked}

abbrev name_in : Option Name → Name → Name
name_in None other = other
name_in (Some name) other = name

some_name : (name other : Name) → Some name ≡ Some other → name ≡ other
some_name name other same = ap (λ (o : Option Name). name_in o name) same

no_name : (name : Name) → {X : Type 0} → None ≡ Some name → X
no_name name same = absurd cc

-- one name tells one history
pub one_book : (book other : Book) → name_of book ≡ name_of other → book ≡ other
one_book book other same i = record { number = (same i).number; log_name = (same i).log_name; cells_name = (same i).cells_name }

-- each view that names a history names this one
abbrev pub AllName : Name → List (Option Name) → Type 0
AllName this views = (seat : ℕ) (name : Name) → get_elem? views seat ≡ some (Some name) → name ≡ this

abbrev pub Says : Option Name → Name → Type 0
Says view this = (name : Name) → view ≡ Some name → name ≡ this

none_says : (this : Name) → Says None this
none_says this name same = no_name name same

set_names : (this : Name) (views : List (Option Name)) (seat : ℕ) (view : Option Name) → AllName this views → Says view this → AllName this (set views seat view)
set_names this views seat view all says other name at = ⊎_elim
    (λ (t : (other ≡ seat) × (view ≡ Some name)). says name t.1)
    (λ (t : (other ≢ seat) × (get_elem? views other ≡ some (Some name))). all other name t.1)
    (at_set views seat other view (Some name) at)

snoc_names : (this : Name) (views : List (Option Name)) (view : Option Name) → AllName this views → Says view this → AllName this (views ++ view ∷ [])
snoc_names this views view all says other name at = ⊎_elim
    (λ (e : get_elem? views other ≡ some (Some name)). all other name e)
    (λ (e : view ≡ Some name). says name e)
    (at_snoc views view (Some name) other at)

at_says : (this : Name) (views : List (Option Name)) (seat : ℕ) (view : Option Name) → AllName this views → get_elem? views seat ≡ some view → Says view this
at_says this views seat view all at name is = all seat name (at ∙ ap some is)

pub admits : Admits IsNamed None
admits x views kept = record { tied = kept.tied; one = snoc_names (name_of x.front.seen.book) views None kept.one (none_says (name_of x.front.seen.book)) }

pub looks : (seat : ℕ) (view : Option Name) (x : Store) → TurnsAt IsNamed seat view x x (λ before old new after. Looked before old after)
looks seat view x views kept at = let this = name_of x.front.seen.book in let says = at_says this views seat view kept.one at in (
  view,
  record { tied = kept.tied; one = set_names this views seat view kept.one says },
  record { tied = kept.tied; one = says; same = refl },
)

pub publishes : (seat : ℕ) (view : Option Name) (x y : Store) → IsTied (content_of y) → y.front.seen.book ≡ x.front.seen.book
    → TurnsAt IsNamed seat view x y (λ before old new after. after ≡ Some (name_of new.front.seen.book))
publishes seat view x y tied same views kept at =
    let this = name_of y.front.seen.book in
    let all : AllName this views = subst (λ (b : Book). AllName (name_of b) views) (sym same) kept.one in (
      Some this,
      record { tied = tied; one = set_names this views seat (Some this) all (λ name is. sym (some_name this name is)) },
      refl,
    )

pub forks : (seat : ℕ) (view : Option Name) → Forks IsNamed seat view view view
forks seat view x views kept at = let this = name_of x.front.seen.book in let says = at_says this views seat view kept.one at in
    record { tied = kept.tied; one = snoc_names this (set views seat view) view (set_names this views seat view kept.one says) says }

pub merges : (seat : ℕ) (view : Option Name) (other : ℕ) (told : Option Name) → Merges IsNamed seat view other told told None
merges seat view other told x views kept at apart there = let this = name_of x.front.seen.book in
    let says : Says told this = ⊎_elim
    (λ (t : (other ≡ seat) × (told ≡ told)). absurd (apart t.0))
    (λ (t : (other ≢ seat) × (get_elem? views other ≡ some told)). at_says this views other told kept.one t.1)
    (at_set views seat other told told there) in
    record { tied = kept.tied; one = set_names this (set views seat told) other None (set_names this views seat told kept.one says) (none_says this) }
