-- Marks with a floor behind each feed.
use Rattle.std.proofs.Common.{◌≡◌, ◌≢◌, ◌≤◌, ℕ, Bool, true, false, List, [], ◌∷◌, ◌++◌, refl, sym, ◌∙◌, ap, subst, append_assoc, arith}
use Rattle.std.proofs.lemmas.List.{append-nil}
use Rattle.la_base.specs.declared.wires.Mark.{Mark}
use Rattle.la_base.specs.declared.wires.Mark.TheVariants.{Floor as FloorMark}
use Rattle.la_base.specs.declared.wires.Out.{Out}
use Rattle.tree_io.specs.Feeds.{together}
use Rattle.tree_io.proofs.Together.{together-append}
use Rattle.decoder_core.specs.Inputs.{Item}
use Rattle.tree_io.specs.Feeds.{marks_of}
use Rattle.decoder_core.specs.Promises.{KeepsFront}
use Rattle.tree_runs.specs.Floors.{Floored, FrontOfFloored, Handed, alone}
use Rattle.tree_runs.specs.Passing.{Passes}
use Rattle.tree_runs.specs.Reaching.{Reaches}
use Rattle.tree_io.proofs.Taking.{marks-append}
use Rattle.tree_runs.proofs.Lists.{reaches-append, reaches_weaker}

-- items one by one
pub alone-append : (xs ys : List Item) → alone (xs ++ ys) ≡ alone xs ++ alone ys
alone-append [] ys = refl
alone-append (x ∷ xs) ys = ap (λ (l : List (List Item)). (x ∷ []) ∷ l) (alone-append xs ys)

pub reaches_alone : (done : Bool) (xs ys : List Item) → Reaches done xs ys
    → Reaches done (alone xs) (alone ys)
reaches_alone true xs ys is = ap alone is
reaches_alone false xs ys front =
    (alone front.0, sym (alone-append xs front.0) ∙ ap alone front.1)

-- a list with something behind has something
pub some_behind : {X : Type 0} (xs ys : List X) → ys ≢ [] → xs ++ ys ≢ []
some_behind [] ys some is = some is
some_behind (x ∷ xs) ys some is = absurd cc

module _ (whole : List Item → List Out) (near : List Item → ℕ) where
  -- feeds behind feeds
  pub floored-append : (input : List Item) (fs gs : List (List Item)) (ms ns : List Mark)
      → Floored whole near input fs ms → Floored whole near (input ++ together fs) gs ns
      → Floored whole near input (fs ++ gs) (ms ++ ns)
  floored-append input [] gs ms ns none more =
      subst (λ (l : List Mark). Floored whole near input gs (l ++ ns)) (sym none)
      (subst (λ (l : List Item). Floored whole near l gs ns) (append-nil input) more)
  floored-append input (f ∷ fs) gs ms ns first more =
      let added = first.0 in
      let floor = first.1 in
      let rest = first.2 in (
        added,
        floor,
        rest ++ ns,
        first.3,
        first.4,
        ap (λ (l : List Mark). l ++ ns) first.5
            ∙ append_assoc (marks_of added) (FloorMark floor ∷ rest) ns,
        floored-append (input ++ f) fs gs rest ns first.6
            (subst (λ (l : List Item). Floored whole near l gs ns) (sym (append_assoc input f (together fs))) more),
      )

  -- whatever more is fed, there are such marks
  pub floored_of : KeepsFront whole → (input : List Item) (fs : List (List Item)) → (ms : List Mark) × Floored whole near input fs ms
  floored_of keeps input [] = ([], refl)
  floored_of keeps input (f ∷ fs) =
      let k = keeps input f in
      let more = floored_of keeps (input ++ f) fs in
      let floor = near (input ++ f) in (
        marks_of k.0 ++ FloorMark floor ∷ more.0,
        (k.0, floor, more.0, k.1, omega arith, refl, more.1),
      )

  -- a front of feeds has a front of the marks
  pub front_further : (done : Bool) (input : List Item) (fs gs : List (List Item)) (ms : List Mark)
      → KeepsFront whole → Reaches done fs gs → FrontOfFloored done whole near input fs ms
      → FrontOfFloored done whole near input gs ms
  front_further true input fs gs ms keeps is front =
      (front.0, front.1, subst (λ (l : List (List Item)). Floored whole near input l front.0) is front.2)
  front_further false input fs gs ms keeps reach front =
      let more = floored_of keeps (input ++ together fs) reach.0 in (
        front.0 ++ more.0,
        (front.1.0 ++ more.0, sym (append_assoc ms front.1.0 more.0) ∙ ap (λ (l : List Mark). l ++ more.0) front.1.1),
        subst (λ (l : List (List Item)). Floored whole near input l (front.0 ++ more.0)) reach.1
            (floored-append input fs reach.0 front.0 more.0 front.2 more.1),
      )

  -- less was promised
  pub front_weaker : (closed done : Bool) (input : List Item) (fs : List (List Item)) (ms : List Mark)
      → (closed ≡ true → done ≡ true) → FrontOfFloored done whole near input fs ms
      → FrontOfFloored closed whole near input fs ms
  front_weaker true done input fs ms only front =
      subst (λ (b : Bool). FrontOfFloored b whole near input fs ms) (only refl) front
  front_weaker false true input fs ms only front =
      (front.0, reaches_weaker false ms front.0 front.1, front.2)
  front_weaker false false input fs ms only front = front

  module _ {before : List Item → Type 0} where
    -- one feed, and the floor behind it
    pub handed_whole : (items : List Item) (added : List Out) (floor : ℕ) (marks : List Mark)
        → ((input : List Item) → before input → whole (input ++ items) ≡ whole input ++ added)
        → ((input : List Item) → before input → near (input ++ items) ≤ floor)
        → marks ≡ marks_of added ++ FloorMark floor ∷ []
        → Handed true whole near before items (items ∷ []) marks
    handed_whole items added floor marks gives low is = record {
      cut = λ d. append-nil items;
      front = λ input b. (marks, refl, (added, floor, [], gives input b, low input b, is, refl));
    }

    -- one feed on the way of which it was stopped
    pub handed_cut : (grown items : List Item) (added : List Out) (marks : List Mark)
        → KeepsFront whole → Reaches false grown items
        → ((input : List Item) → before input → whole (input ++ grown) ≡ whole input ++ added)
        → Reaches false marks (marks_of added)
        → Handed false whole near before grown (items ∷ []) marks
    handed_cut grown items added marks keeps reach gives shows = record {
      cut = λ d. absurd cc;
      front = λ input b.
          let k = keeps (input ++ grown) reach.0 in
          let floor = near (input ++ items) in
          let all = added ++ k.0 in
          let outs : whole (input ++ items) ≡ whole input ++ all =
          ap (λ (l : List Item). whole (input ++ l)) (sym reach.1) ∙ ap whole (sym (append_assoc input grown reach.0)) ∙ k.1 ∙ ap (λ (l : List Out). l ++ k.0) (gives input b) ∙ append_assoc (whole input) added k.0 in
          let rest = shows.0 ++ marks_of k.0 in
          let shown : marks ++ rest ≡ marks_of all =
          sym (append_assoc marks shows.0 (marks_of k.0)) ∙ ap (λ (l : List Mark). l ++ marks_of k.0) shows.1 ∙ sym (marks-append added k.0) in (
            marks_of all ++ FloorMark floor ∷ [],
            (rest ++ FloorMark floor ∷ [], sym (append_assoc marks rest (FloorMark floor ∷ [])) ∙ ap (λ (l : List Mark). l ++ FloorMark floor ∷ []) shown),
            (all, floor, [], outs, omega arith, refl, refl),
          );
    }

    -- nothing
    pub handed_nothing : Handed true whole near before [] [] []
    handed_nothing = record { cut = λ d. refl; front = λ input b. ([], refl, refl) }

    pub handed_weaker : {g : List Item} {fs : List (List Item)} {ms : List Mark} (done : Bool)
        → Handed true whole near before g fs ms → Handed done whole near before g fs ms
    handed_weaker {g} {fs} {ms} done h = record {
      cut = λ d. h.cut refl;
      front = λ input b. let f = h.front input b in (f.0, reaches_weaker done ms f.0 f.1, f.2);
    }

    -- one after another
    pub handed_then : {done : Bool} {mid : List Item → Type 0} {g1 g2 : List Item}
        {f1 f2 : List (List Item)} {a1 : List Out} {m1 m2 : List Mark}
        → Passes true whole before mid g1 a1 m1 → Handed true whole near before g1 f1 m1
        → Handed done whole near mid g2 f2 m2 → Handed done whole near before (g1 ++ g2) (f1 ++ f2) (m1 ++ m2)
    handed_then {done} {mid} {g1} {g2} {f1} {f2} {a1} {m1} {m2} p h k = record {
      cut = λ d. together-append f1 f2 ∙ (λ i. h.cut refl i ++ k.cut d i);
      front = λ input b.
          let one = h.front input b in
          let two = k.front (input ++ g1) (p.consumes refl input b) in (
            one.0 ++ two.0,
            subst (λ (l : List Mark). Reaches done (m1 ++ m2) (l ++ two.0)) one.1 (reaches-append done m1 m2 two.0 two.1),
            floored-append input f1 f2 one.0 two.0 one.2
                (subst (λ (l : List Item). Floored whole near l f2 two.0) (ap (λ (l : List Item). input ++ l) (sym (h.cut refl))) two.2),
          );
    }
