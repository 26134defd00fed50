-- What the ends of a tree's links hold makes one state.
use Rattle.std.proofs.Common.{◌≡◌, ℕ, zero, suc, ◌+◌, ◌<◌, Bool, true, false, ◌||◌, cond, List, ◌∷◌, length, slice_get, Option, Some, sym, ◌∙◌, ap, subst, arith}
use Rattle.std.specs.Prelude.{nat_eq}
use Rattle.std.specs.List.{filter, range_with_len}
use Rattle.std.proofs.lemmas.Bool.Decides.{nat_tests}
use Rattle.std.proofs.lemmas.Option.{slice_get_within}
use Rattle.la_base.specs.declared.samples.Run.{Run}
use Rattle.tree_runs.specs.Machines.{Definitions}
use Rattle.stack_laws.specs.Links.{IsFront}
use Rattle.stack_laws.specs.Running.{State, stands_on}
use Rattle.stack_laws.specs.Keeping.{Serves}
use Rattle.stack_laws.specs.Views.{Ends, children_of, no_sending, place_among, sender, state_of}
use Rattle.stack_laws.specs.Legal.{Fits, Own}
use Rattle.stack_laws.specs.Settling.{AreSettled, DriverOwn, SettledEndsFit}
use Rattle.stack_laws.proofs.Tying.{tied_ends}

-- one that passes a test stands among those that pass it, behind those before it
place_low : (q : ℕ → Bool) (a m n : ℕ) → m < n → q (a + m) ≡ true → length (filter q (range_with_len a m)) < length (filter q (range_with_len a n))
place_low q a m zero low is = absurd (omega (arith, low))
place_low q a zero (suc n) low is =
    let here : q a ≡ true = ap q (let same : a ≡ a + 0 = omega arith in same) ∙ is in
    subst (λ (b : Bool). 0 < length (cond b (a ∷ filter q (range_with_len (a + 1) n)) (filter q (range_with_len (a + 1) n)))) (sym here) (omega arith)
place_low q a (suc m) (suc n) low is =
    way (q a) (place_low q (a + 1) m n (omega (arith, low)) (ap q (let same : (a + 1) + m ≡ a + suc m = omega arith in same) ∙ is))
  where
    way : (b : Bool) → length (filter q (range_with_len (a + 1) m)) < length (filter q (range_with_len (a + 1) n))
        → length (cond b (a ∷ filter q (range_with_len (a + 1) m)) (filter q (range_with_len (a + 1) m))) < length (cond b (a ∷ filter q (range_with_len (a + 1) n)) (filter q (range_with_len (a + 1) n)))
    way true less = omega (arith, less)
    way false less = less

child_low : (parents : List (Option ℕ)) (i child : ℕ) → slice_get parents child ≡ Some (Some i) → place_among parents i child < length (children_of parents i)
child_low parents i child at =
    let same : nat_eq i i ≡ true = grind (arith, nat_tests) in
    let on : stands_on (slice_get parents child) (Some i) ≡ true = ap (λ (o : Option (Option ℕ)). stands_on o (Some i)) at ∙ same in
    let place : child ≡ 0 + child = omega arith in
    place_low (λ k. stands_on (slice_get parents k) (Some i)) 0 child (length parents) (slice_get_within parents child (Some i) at) (ap (λ (k : ℕ). stands_on (slice_get parents k) (Some i)) (sym place) ∙ on)

module _ (parents : List (Option ℕ)) (by : Definitions) (slots : ℕ) (ends : Ends) (fed : List Run) (ended stopped : Bool)
    (settled : AreSettled parents by slots ends fed (ended || stopped) (state_of parents ends fed ended stopped)) where
  abbrev state : State
  state = state_of parents ends fed ended stopped

  -- what a parent has for a child
  child_serves : (i child : ℕ) → slice_get parents child ≡ Some (Some i) → Serves (by.whole i) (ends.views i).received (ends.views i).consumed (ends.views i).closed (sender parents ends child (slice_get parents child))
  child_serves i child at =
      subst (λ (o : Option (Option ℕ)). Serves (by.whole i) (ends.views i).received (ends.views i).consumed (ends.views i).closed (sender parents ends child o)) (sym at)
      ((settled.keeps i).children (place_among parents i child) no_sending (let low = child_low parents i child at in let same = settled.each i in omega (arith, low, same)))

  own : (i : ℕ) → Own parents by i state
  own i = record {
    takes = (settled.keeps i).takes;
    marks = (settled.keeps i).marks;
    tells = (settled.keeps i).tells;
    floors = (settled.keeps i).floors;
    batched = (settled.keeps i).batched;
    made = λ child at. (child_serves i child at).made;
    places = λ child at. (child_serves i child at).places;
    last = λ child at. (child_serves i child at).last;
    gives = λ child at. (child_serves i child at).sends;
  }

  driver : DriverOwn parents state
  driver = record {
    made = λ i at. ap (λ (o : Option (Option ℕ)). (sender parents ends i o).made) at ∙ (settled.roots i at).0;
    sends = λ i at. subst (λ (o : Option (Option ℕ)). IsFront (sender parents ends i o).sent (sender parents ends i o).made) (sym at) (settled.roots i at).1;
    none = λ i at. (ap (λ (o : Option (Option ℕ)). (sender parents ends i o).made) at, ap (λ (o : Option (Option ℕ)). (sender parents ends i o).sent) at);
  }

  settled_fit : Fits parents by slots state
  settled_fit = tied_ends parents by slots state own driver settled.inputs settled.marks

pub settled_ends : SettledEndsFit
settled_ends parents by slots ends fed ended stopped settled = settled_fit parents by slots ends fed ended stopped settled
