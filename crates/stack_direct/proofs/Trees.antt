-- What is done with a tree, one behind another.
use Rattle.std.proofs.Common.{◌≡◌, ◌<◌, ◌≤◌, ◌+◌, ◌∷◌, [], ℕ, Bool, true, false, List, Option, Some, None, Result, Err, length, get_or, slice_get, map, refl, sym, ◌∙◌, ap, subst, arith}
use Rattle.std.proofs.lemmas.Bool.Decides.{nat_tests}
use Rattle.std.proofs.lemmas.Option.{slice_get-get_or}
use Rattle.la_base.specs.declared.wires.Mark.{Mark}
use Rattle.la_base.specs.declared.wires.Out.{Out}
use Rattle.tree_io.specs.declared.feeds.MarkTake.{Ghosts as TakeGhosts}
use Rattle.decoder_core.specs.declared.machine.Machine.{Ghosts as MachineGhosts}
use Rattle.decoder_core.specs.Inputs.{Item}
use Rattle.tree_runs.specs.Machines.{Definitions, defined}
use Rattle.tree_runs.specs.Passing.{Hands, Feeds, Gives, Consumes, IsForest, first_on, same_place, up_to}
use Rattle.tree_runs.specs.Lows.{KnowsLow, TellsLow}
use Rattle.tree_runs.specs.Taking.{GoesOn}
use Rattle.stack_direct.specs.Trees.{SameTree, TakesAll, TakesOn, GoesStill, defined_in, machines_of, parents_of, stand_in}
use Rattle.stack_direct.specs.declared.tree.Tree.{Tree}
use Rattle.stack_direct.proofs.Going.{goes_nowhere, goes_then}
use Rattle.tree_runs.proofs.Joining.{feeds_are_hands, hands_next, hands_not}

module _ {M S : Type 0} (m : MachineGhosts M S) where
  pub same_still : (tree : Tree M) → SameTree m tree tree
  same_still tree = record { machines = refl; parents = refl; setups = refl }

  pub same_then : {old mid new : Tree M} → SameTree m old mid → SameTree m mid new → SameTree m old new
  same_then p q = record { machines = q.machines ∙ p.machines; parents = q.parents ∙ p.parents; setups = q.setups ∙ p.setups }

  pub same_count : {old new : Tree M} → SameTree m old new → length (parents_of new) ≡ length (parents_of old)
  same_count same = ap (λ (l : List (Option ℕ)). length l) same.parents

  -- floors that were told of a tree, by the one that it was before
  pub tells_of : {old mid : Tree M} (same : SameTree m old mid) {done : Bool} {t0 t1 : (ℕ → List Mark) → Type 0} {stand : ℕ → List Item → Type 0} {floors : List ℕ} {place : ℕ} → TellsLow m.outputs (map m.setup (machines_of mid)) (parents_of mid) m.near stand done t0 t1 floors place
      → TellsLow m.outputs (map m.setup (machines_of old)) (parents_of old) m.near stand done t0 t1 floors place
  tells_of {old} {mid} same {done} {t0} {t1} {stand} {floors} {place} p =
      subst (λ (l : List (Option ℕ)). TellsLow m.outputs (map m.setup (machines_of old)) l m.near stand done t0 t1 floors place) same.parents
      (subst (λ (l : List S). TellsLow m.outputs l (parents_of mid) m.near stand done t0 t1 floors place) same.setups p)

  pub knows_of : {old mid : Tree M} (same : SameTree m old mid) (stand : ℕ → List Item → Type 0) (floors : List ℕ) (place : ℕ) → KnowsLow m.outputs (map m.setup (machines_of mid)) (parents_of mid) m.near stand floors place
      → KnowsLow m.outputs (map m.setup (machines_of old)) (parents_of old) m.near stand floors place
  knows_of {old} {mid} same stand floors place p =
      subst (λ (l : List (Option ℕ)). KnowsLow m.outputs (map m.setup (machines_of old)) l m.near stand floors place) same.parents
      (subst (λ (l : List S). KnowsLow m.outputs l (parents_of mid) m.near stand floors place) same.setups p)

  -- what was done with a tree, by the one that it was before
  module _ {old mid : Tree M} (same : SameTree m old mid) {done : Bool} {before after : ℕ → List Item → Type 0} {t0 t1 : (ℕ → List Mark) → Type 0} where
    pub hands_of : {above : Option ℕ} {xs : ℕ → List Item} {fs : ℕ → List (List Item)} → Hands done (defined_in m mid) before after (parents_of mid) t0 t1 above xs fs
        → Hands done (defined_in m old) before after (parents_of old) t0 t1 above xs fs
    hands_of {above} {xs} {fs} p =
        subst (λ (l : List (Option ℕ)). Hands done (defined_in m old) before after l t0 t1 above xs fs) same.parents
        (subst (λ (l : List S). Hands done (defined m.outputs m.near l) before after (parents_of mid) t0 t1 above xs fs) same.setups p)

    pub gives_of : {i : ℕ} {outs : List Out} → Gives done (defined_in m mid) before after (parents_of mid) t0 t1 i outs → Gives done (defined_in m old) before after (parents_of old) t0 t1 i outs
    gives_of {i} {outs} p =
        subst (λ (l : List (Option ℕ)). Gives done (defined_in m old) before after l t0 t1 i outs) same.parents
        (subst (λ (l : List S). Gives done (defined m.outputs m.near l) before after (parents_of mid) t0 t1 i outs) same.setups p)

    -- also behind a step
    pub gives_stepped : (now : List M) {i : ℕ} {outs : List Out} → map m.setup now ≡ map m.setup (machines_of mid) → Gives done (defined m.outputs m.near (map m.setup now)) before after (parents_of mid) t0 t1 i outs
        → Gives done (defined_in m old) before after (parents_of old) t0 t1 i outs
    gives_stepped now {i} {outs} setups p = gives_of (subst (λ (l : List S). Gives done (defined m.outputs m.near l) before after (parents_of mid) t0 t1 i outs) setups p)

    pub consumes_of : {i : ℕ} {xs : List Item} → Consumes done (defined_in m mid) before after (parents_of mid) t0 t1 i xs → Consumes done (defined_in m old) before after (parents_of old) t0 t1 i xs
    consumes_of {i} {xs} p =
        subst (λ (l : List (Option ℕ)). Consumes done (defined_in m old) before after l t0 t1 i xs) same.parents
        (subst (λ (l : List S). Consumes done (defined m.outputs m.near l) before after (parents_of mid) t0 t1 i xs) same.setups p)

module _ {A O : Type 0} (k : TakeGhosts A O) where
  pub still : (now : A) → GoesStill k now now
  still now = goes_nowhere k.instances k.origin k.stops k.going now

  pub still_then : {R E : Type 0} {old mid new : A} {result : Result R E} → GoesStill k old mid → TakesOn k mid new result → TakesOn k old new result
  still_then p q = goes_then k.instances k.origin k.stops k.going p q

  -- marks are taken of each instance still
  pub takes_all : {M S R E : Type 0} (m : MachineGhosts M S) {old new : Tree M} {before after : A} {result : Result R E} → TakesAll k old before → SameTree m old new → TakesOn k before after result → TakesAll k new after
  takes_all m all same takes = takes.instances ∙ all ∙ sym (same_count m same)

  -- where it stopped, whatever else would have been answered
  pub stopped_too : {R T E : Type 0} {old new : A} {e : E} → GoesOn {R = R} {E = E} k.instances k.origin k.stops k.going old new (Err e) → GoesOn {R = T} {E = E} k.instances k.origin k.stops k.going old new (Err e)
  stopped_too p = record { instances = p.instances; origin = p.origin; cause = record { later = p.cause.later; kept = tt; failed = p.cause.failed }; going = p.going }

  -- the same, whatever is answered of it
  pub stopped_as : {R T E F : Type 0} {old new : A} {e : E} {f : F} → GoesOn {R = R} {E = E} k.instances k.origin k.stops k.going old new (Err e) → GoesOn {R = T} {E = F} k.instances k.origin k.stops k.going old new (Err f)
  stopped_as p = record { instances = p.instances; origin = p.origin; cause = record { later = p.cause.later; kept = tt; failed = p.cause.failed }; going = p.going }

-- an instance on its place, whether it stands on another
module _ (parents : List (Option ℕ)) (place : ℕ) (above d : Option ℕ) (within : place < length parents) where
  at_place : slice_get parents place ≡ Some (get_or parents place d)
  at_place = slice_get-get_or parents place d within

  -- it stands behind it
  pub behind_above : IsForest parents → same_place (get_or parents place d) above ≡ true → first_on above ≤ place
  behind_above forest on = by (get_or parents place d) above at_place on
    where
      by : (parent on : Option ℕ) → slice_get parents place ≡ Some parent → same_place parent on ≡ true → first_on on ≤ place
      by parent None at is = omega arith
      by None (Some a) at is = absurd cc
      by (Some p) (Some a) at is =
          let same : p ≡ a = grind (arith, nat_tests) in
          let less = forest place p at in
          omega (arith, same, less)

  -- it doesn't, and was passed over
  pub hands_past : {by : Definitions} {before after : ℕ → List Item → Type 0} {t0 t1 : (ℕ → List Mark) → Type 0} (xs : List Item) (fs : List (List Item)) → same_place (get_or parents place d) above ≡ false
      → Hands true by before after parents t0 t1 above (up_to place xs) (up_to place fs) → Hands true by before after parents t0 t1 above (up_to (place + 1) xs) (up_to (place + 1) fs)
  hands_past xs fs off p = hands_next place xs fs p (hands_not above (get_or parents place d) place xs fs at_place off)

-- it does, and was fed
module _ {M S : Type 0} (m : MachineGhosts M S) {old mid : Tree M} (same : SameTree m old mid) (place : ℕ) (above d : Option ℕ) (within : place < length (parents_of old)) where
  pub hands_more : {done : Bool} {after : ℕ → List Item → Type 0} {t0 t1 t2 : (ℕ → List Mark) → Type 0} (xs : List Item) → same_place (get_or (parents_of old) place d) above ≡ true
      → Hands true (defined_in m old) (stand_in m old) (stand_in m mid) (parents_of old) t0 t1 above (up_to place xs) (up_to place (xs ∷ [])) → Feeds done (defined_in m mid) (stand_in m mid) after (parents_of mid) t1 t2 place xs
      → Hands done (defined_in m old) (stand_in m old) after (parents_of old) t0 t2 above (up_to (place + 1) xs) (up_to (place + 1) (xs ∷ []))
  hands_more xs on p q =
      let parent = get_or (parents_of old) place d in
      let here = subst (λ (l : List (Option ℕ)). slice_get l place ≡ Some parent) (sym same.parents) (slice_get-get_or (parents_of old) place d within) in
      hands_next place xs (xs ∷ []) p (hands_of m same (feeds_are_hands above parent mid.forest here on q))
