-- What was taken of each instance, by the definition of its tree.
use Rattle.std.proofs.Common.{◌≡◌, ◌<◌, ◌+◌, ℕ, zero, suc, Bool, true, false, List, [], ◌∷◌, ◌++◌, map, drop, length, length-append, slice_get, get_or, Option, Some, None, refl, sym, ◌∙◌, ap, subst, arith, append_assoc}
use Rattle.std.proofs.lemmas.List.{append-nil, append_cancel_left}
use Rattle.std.proofs.Math.Seq.{drop-append_seam}
use Rattle.std.proofs.lemmas.Option.{slice_get-get_or, slice_get_within}
use Rattle.la_base.specs.declared.samples.Run.{Run}
use Rattle.la_base.specs.declared.wires.Mark.{Mark}
use Rattle.la_base.specs.declared.wires.Out.{Out}
use Rattle.decoder_core.specs.Inputs.{Item, Sample}
use Rattle.decoder_core.specs.Promises.{KeepsFront}
use Rattle.decoder_core.specs.Marks.{FloorsHold, shown}
use Rattle.tree_io.specs.Feeds.{marks_of}
use Rattle.decoder_core.specs.Trees.{Node, given, input_of, outputs_behind, packets_in, packets_of}
use Rattle.tree_runs.specs.Machines.{whole_of, outputs_at}
use Rattle.tree_runs.specs.Floors.{alone}
use Rattle.tree_runs.specs.Passing.{Change, Down, IsForest, Passes}
use Rattle.tree_runs.specs.Reaching.{Reaches}
use Rattle.tree_runs.specs.Runs.{nodes_of, input_at, input_by, feeds_of, run_items}
use Rattle.tree_runs.proofs.Flooring.{reaches_alone}
use Rattle.tree_io.proofs.Taking.{marks-append}
use Rattle.tree_runs.proofs.Lists.{packets-append, reaches_trans}

-- the outputs of a tree, instance by instance
get_front : {X : Type 0} (xs ys : List X) (k : ℕ) → k < length xs → slice_get (xs ++ ys) k ≡ slice_get xs k
get_front [] ys k low = absurd (omega (arith, low))
get_front (x ∷ xs) ys zero low = refl
get_front (x ∷ xs) ys (suc k) low = get_front xs ys k (omega (arith, low))

get_last : {X : Type 0} (xs : List X) (x : X) (k : ℕ) → k ≡ length xs → slice_get (xs ++ x ∷ []) k ≡ Some x
get_last [] x zero is = refl
get_last [] x (suc k) is = absurd (omega (arith, is))
get_last (y ∷ xs) x zero is = absurd (omega (arith, is))
get_last (y ∷ xs) x (suc k) is = get_last xs x k (omega (arith, is))

module _ {S : Type 0} (outputs : S → List Item → List Out) (samples : List ℕ) where
  front_stays : (before : List (List Out)) (nodes : List (Node S)) (k : ℕ) → k < length before → slice_get (outputs_behind outputs samples before nodes) k ≡ slice_get before k
  front_stays before [] k low = refl
  front_stays before (node ∷ nodes) k low =
      let o = outputs node.setup (input_of samples before node.parent) in
      let longer : k < length (before ++ o ∷ []) = omega (arith, low, length-append before (o ∷ [])) in
      front_stays (before ++ o ∷ []) nodes k longer ∙ get_front before (o ∷ []) k low

  IsLow : Option ℕ → ℕ → Type 0
  IsLow None n = Unit {0}
  IsLow (Some p) n = p < n

  same_input : (before : List (List Out)) (nodes : List (Node S)) (parent : Option ℕ) → ((p : ℕ) → parent ≡ Some p → p < length before) → input_of samples before parent ≡ input_of samples (outputs_behind outputs samples before nodes) parent
  same_input before nodes None low = refl
  same_input before nodes (Some p) low = ap packets_in (sym (front_stays before nodes p (low p refl)))

  node_gives : (before : List (List Out)) (nodes : List (Node S)) (k place : ℕ) (node : Node S) → slice_get nodes k ≡ Some node → place ≡ length before + k
      → ((j p : ℕ) (n : Node S) → slice_get nodes j ≡ Some n → n.parent ≡ Some p → p < length before + j)
      → slice_get (outputs_behind outputs samples before nodes) place ≡ Some (outputs node.setup (input_of samples (outputs_behind outputs samples before nodes) node.parent))
  node_gives before [] k place node at is low = absurd cc
  node_gives before (n ∷ nodes) zero place node at is low =
      let o = outputs n.setup (input_of samples before n.parent) in
      let same : n ≡ node = cc in
      let here : place ≡ length before = omega (arith, is) in
      let longer : place < length (before ++ o ∷ []) = omega (arith, here, length-append before (o ∷ [])) in
      let low_here : (p : ℕ) → n.parent ≡ Some p → p < length before = λ p e. let l = low 0 p n refl e in omega (arith, l) in
      let low_more : (p : ℕ) → n.parent ≡ Some p → p < length (before ++ o ∷ []) = λ p e. let l = low_here p e in omega (arith, l, length-append before (o ∷ [])) in
      let reads : input_of samples before n.parent ≡ input_of samples (outputs_behind outputs samples (before ++ o ∷ []) nodes) n.parent = same_input before (n ∷ nodes) n.parent low_here in
      subst (λ (m : Node S). slice_get (outputs_behind outputs samples (before ++ o ∷ []) nodes) place ≡ Some (outputs m.setup (input_of samples (outputs_behind outputs samples (before ++ o ∷ []) nodes) m.parent))) same
      (front_stays (before ++ o ∷ []) nodes place longer ∙ get_last before o place here ∙ ap (λ (l : List Item). Some (outputs n.setup l)) reads)
  node_gives before (n ∷ nodes) (suc k) place node at is low =
      let o = outputs n.setup (input_of samples before n.parent) in
      let len : length (before ++ o ∷ []) ≡ length before + 1 = length-append before (o ∷ []) in
      node_gives (before ++ o ∷ []) nodes k place node at (omega (arith, is, len)) (λ j p m from e. let l = low (suc j) p m from e in omega (arith, l, len))

-- nodes by their places
module _ {S : Type 0} where
  node_at : (setups : List S) (parents : List (Option ℕ)) (j : ℕ) (setup : S) (parent : Option ℕ) → slice_get setups j ≡ Some setup → slice_get parents j ≡ Some parent → slice_get (nodes_of setups parents) j ≡ Some (record { setup = setup; parent = parent })
  node_at [] parents j setup parent s p = absurd cc
  node_at (s ∷ setups) [] j setup parent at from = absurd cc
  node_at (s ∷ setups) (p ∷ parents) zero setup parent at from = let a : s ≡ setup = cc in let b : p ≡ parent = cc in λ i. Some (record { setup = a i; parent = b i })
  node_at (s ∷ setups) (p ∷ parents) (suc j) setup parent at from = node_at setups parents j setup parent at from

  node_from : (setups : List S) (parents : List (Option ℕ)) (j : ℕ) (node : Node S) → slice_get (nodes_of setups parents) j ≡ Some node → slice_get parents j ≡ Some node.parent
  node_from [] parents j node at = absurd cc
  node_from (s ∷ setups) [] j node at = absurd cc
  node_from (s ∷ setups) (p ∷ parents) zero node at = let same : (record { setup = s; parent = p }) ≡ node = cc in ap (λ (n : Node S). Some n.parent) same
  node_from (s ∷ setups) (p ∷ parents) (suc j) node at = node_from setups parents j node at

module _ {S : Type 0} (outputs : S → List Item → List Out) (setups : List S) (parents : List (Option ℕ)) (forest : IsForest parents) (count : length setups ≡ length parents) (samples : List ℕ) where
  abbrev nodes : List (Node S)
  nodes = nodes_of setups parents

  abbrev all : List (List Out)
  all = given outputs samples nodes

  -- a root reads the samples
  pub root_input : (j : ℕ) → slice_get parents j ≡ Some None → input_at outputs nodes samples j ≡ map Sample samples
  root_input j at =
      let within : j < length parents = slice_get_within parents j None at in
      by (slice_get setups j) refl within
    where
      by : (o : Option S) → slice_get setups j ≡ o → j < length parents → input_at outputs nodes samples j ≡ map Sample samples
      by None is within = absurd (some_there setups j (omega (arith, within, count)) is)
        where
          some_there : (xs : List S) (k : ℕ) → k < length xs → slice_get xs k ≡ None → ⊥
          some_there [] k low none = absurd (omega (arith, low))
          some_there (x ∷ xs) zero low none = absurd cc
          some_there (x ∷ xs) (suc k) low none = some_there xs k (omega (arith, low)) none
      by (Some setup) is within = ap (input_by samples all) (node_at setups parents j setup None is at)

  -- all others read the packets of their parent
  pub child_input : (j p : ℕ) → slice_get parents j ≡ Some (Some p) → p < j → input_at outputs nodes samples j ≡ packets_of (whole_of outputs setups p (input_at outputs nodes samples p))
  child_input j p at low =
      let within : j < length parents = slice_get_within parents j (Some p) at in
      by (slice_get setups j) (slice_get setups p) (slice_get parents p) refl refl refl within
    where
      some_there : {X : Type 0} (xs : List X) (k : ℕ) → k < length xs → slice_get xs k ≡ None → ⊥
      some_there [] k low none = absurd (omega (arith, low))
      some_there (x ∷ xs) zero low none = absurd cc
      some_there (x ∷ xs) (suc k) low none = some_there xs k (omega (arith, low)) none

      by : (o q : Option S) (r : Option (Option ℕ)) → slice_get setups j ≡ o → slice_get setups p ≡ q → slice_get parents p ≡ r → j < length parents → input_at outputs nodes samples j ≡ packets_of (whole_of outputs setups p (input_at outputs nodes samples p))
      by None q r is has from within = absurd (some_there setups j (omega (arith, within, count)) is)
      by (Some setup) None r is has from within = absurd (some_there setups p (omega (arith, within, low, count)) has)
      by (Some setup) (Some of_p) None is has from within = absurd (some_there parents p (omega (arith, within, low)) from)
      by (Some setup) (Some of_p) (Some parent) is has from within =
          let node : Node S = record { setup = of_p; parent = parent } in
          let here = node_at setups parents p of_p parent has from in
          let out : slice_get all p ≡ Some (outputs of_p (input_of samples all parent)) =
          node_gives outputs samples [] nodes p p node here (omega arith) (λ k q n has_n e. let l = forest k q (node_from setups parents k n has_n ∙ ap (λ (o : Option ℕ). Some o) e) in omega (arith, l)) in
          ap (input_by samples all) (node_at setups parents j setup (Some p) is at)
          ∙ ap packets_in out
          ∙ ap (λ (l : List Item). packets_of (outputs of_p l)) (sym (ap (input_by samples all) here))
          ∙ ap (λ (o : Option S). packets_of (outputs_at outputs o (input_at outputs nodes samples p))) (sym has)

  -- what the instance at a place gives, by what it reads
  pub given_at : (j : ℕ) → j < length parents → slice_get all j ≡ Some (whole_of outputs setups j (input_at outputs nodes samples j))
  given_at j within = by (get_or parents j None) (slice_get setups j) refl (slice_get-get_or parents j None within)
    where
      some_there : (xs : List S) (k : ℕ) → k < length xs → slice_get xs k ≡ None → ⊥
      some_there [] k low none = absurd (omega (arith, low))
      some_there (x ∷ xs) zero low none = absurd cc
      some_there (x ∷ xs) (suc k) low none = some_there xs k (omega (arith, low)) none

      by : (parent : Option ℕ) (o : Option S) → slice_get setups j ≡ o → slice_get parents j ≡ Some parent → slice_get all j ≡ Some (whole_of outputs setups j (input_at outputs nodes samples j))
      by parent None has from = absurd (some_there setups j (omega (arith, within, count)) has)
      by parent (Some setup) has from =
          let here = node_at setups parents j setup parent has from in
          let out : slice_get all j ≡ Some (outputs setup (input_of samples all parent)) =
          node_gives outputs samples [] nodes j j (record { setup = setup; parent = parent }) here (omega arith) (λ k q n has_n e. let l = forest k q (node_from setups parents k n has_n ∙ ap (λ (o : Option ℕ). Some o) e) in omega (arith, l)) in
          out
          ∙ ap (λ (l : List Item). Some (outputs setup l)) (sym (ap (input_by samples all) here))
          ∙ ap (λ (o : Option S). Some (outputs_at outputs o (input_at outputs nodes samples j))) (sym has)

  behind_len : (before : List (List Out)) (more : List (Node S)) → length (outputs_behind outputs samples before more) ≡ length before + length more
  behind_len before [] = omega arith
  behind_len before (node ∷ more) =
      let o = outputs node.setup (input_of samples before node.parent) in
      let rest = behind_len (before ++ o ∷ []) more in
      omega (arith, rest, length-append before (o ∷ []))

  nodes_len : (some : List S) (places : List (Option ℕ)) → length some ≡ length places → length (nodes_of some places) ≡ length places
  nodes_len [] [] same = refl
  nodes_len [] (p ∷ places) same = absurd (omega (arith, same))
  nodes_len (s ∷ some) [] same = absurd (omega (arith, same))
  nodes_len (s ∷ some) (p ∷ places) same = ap suc (nodes_len some places (omega (arith, same)))

  -- one list of outputs for each instance
  pub given_len : length all ≡ length parents
  given_len = let behind = behind_len [] nodes in let len = nodes_len setups parents count in omega (arith, behind, len)

-- what reaches a list, with the rest
reach_rest : {X : Type 0} (done : Bool) (xs ys : List X) → Reaches done xs ys → (rest : List X) × (xs ++ rest ≡ ys) × (done ≡ true → rest ≡ [])
reach_rest true xs ys is = ([], append-nil xs ∙ is, λ d. refl)
reach_rest false xs ys front = (front.0, front.1, λ d. absurd cc)

-- more input adds outputs, and no input none
prefix_rest : (whole : List Item → List Out) (keeps : KeepsFront whole) (input more : List Item) → (new : List Out) × (whole (input ++ more) ≡ whole input ++ new) × (more ≡ [] → new ≡ [])
prefix_rest whole keeps input more =
    let k = keeps input more in
    (k.0, k.1, λ none. sym (append_cancel_left (whole input) [] k.0 (append-nil (whole input) ∙ sym (ap whole (ap (λ (l : List Item). input ++ l) none ∙ append-nil input)) ∙ k.1)))

-- a tree whose inputs were those of some samples, and then of more
module _ {done : Bool} (whole : ℕ → List Item → List Out) {before : ℕ → List Item → Type 0} {parents : List (Option ℕ)} {items : List Item} (lists : List (List Run)) (c : Change)
    (down : Down done None (λ _. items) (λ _. map run_items lists) parents c)
    (gave : (j : ℕ) (input : List Item) → before j input → whole j (input ++ c.grown j) ≡ whole j input ++ c.added j)
    (forest : IsForest parents) (keeps : (j : ℕ) → j < length parents → KeepsFront (whole j))
    (was now : ℕ → List Item)
    (root : (j : ℕ) → slice_get parents j ≡ Some None → now j ≡ was j ++ items)
    (child_was : (j p : ℕ) → slice_get parents j ≡ Some (Some p) → p < j → was j ≡ packets_of (whole p (was p)))
    (child_now : (j p : ℕ) → slice_get parents j ≡ Some (Some p) → p < j → now j ≡ packets_of (whole p (now p)))
    (stood : (j : ℕ) → j < length parents → before j (was j)) where
  -- its input has grown by what it was given, and by what was left where it was stopped
  abbrev Grows : ℕ → Type 0
  Grows j = (rest : List Item) × (now j ≡ (was j ++ c.grown j) ++ rest) × (done ≡ true → rest ≡ [])

  grow_root : (j : ℕ) → slice_get parents j ≡ Some None → Grows j
  grow_root j at =
      let r = reach_rest done (c.grown j) items (down.links j None at) in
      (r.0, root j at ∙ ap (λ (l : List Item). was j ++ l) (sym r.1) ∙ sym (append_assoc (was j) (c.grown j) r.0), r.2)

  -- what a child gains of what its parent gains
  child_gains : (j p : ℕ) → slice_get parents j ≡ Some (Some p) → p < j → p < length parents → Grows p
      → (extra : List Item) × (now j ≡ was j ++ (packets_of (c.added p) ++ extra)) × (done ≡ true → extra ≡ [])
  child_gains j p at low within g =
      let more = prefix_rest (whole p) (keeps p within) (was p ++ c.grown p) g.0 in
      let had = gave p (was p) (stood p within) in
      let outs : whole p (now p) ≡ whole p (was p) ++ (c.added p ++ more.0) =
      ap (whole p) g.1 ∙ more.1 ∙ ap (λ (l : List Out). l ++ more.0) had ∙ append_assoc (whole p (was p)) (c.added p) more.0 in
      let gains : packets_of (whole p (was p) ++ (c.added p ++ more.0)) ≡ packets_of (whole p (was p)) ++ (packets_of (c.added p) ++ packets_of more.0) =
      packets-append (whole p (was p)) (c.added p ++ more.0) ∙ ap (λ (l : List Item). packets_of (whole p (was p)) ++ l) (packets-append (c.added p) more.0) in (
        packets_of more.0,
        child_now j p at low ∙ ap packets_of outs ∙ gains ∙ ap (λ (l : List Item). l ++ (packets_of (c.added p) ++ packets_of more.0)) (sym (child_was j p at low)),
        λ d. ap packets_of (more.2 (g.2 d)),
      )

  grow_child : (j p : ℕ) → slice_get parents j ≡ Some (Some p) → p < j → p < length parents → Grows p → Grows j
  grow_child j p at low within g =
      let r = reach_rest done (c.grown j) (packets_of (c.added p)) (down.links j (Some p) at) in
      let gains = child_gains j p at low within g in
      let all : packets_of (c.added p) ++ gains.0 ≡ c.grown j ++ (r.0 ++ gains.0) = ap (λ (l : List Item). l ++ gains.0) (sym r.1) ∙ append_assoc (c.grown j) r.0 gains.0 in (
        r.0 ++ gains.0,
        gains.1 ∙ ap (λ (l : List Item). was j ++ l) all ∙ sym (append_assoc (was j) (c.grown j) (r.0 ++ gains.0)),
        λ d. (λ i. r.2 d i ++ gains.2 d i),
      )

  grow_below : (n j : ℕ) → j < n → j < length parents → Grows j
  grow_below zero j low within = absurd (omega (arith, low))
  grow_below (suc n) j low within = by (λ p less. grow_below n p (omega (arith, less, low)) (omega (arith, less, within))) (get_or parents j None) (slice_get-get_or parents j None within)
    where
      by : ((p : ℕ) → p < j → Grows p) → (parent : Option ℕ) → slice_get parents j ≡ Some parent → Grows j
      by earlier None at = grow_root j at
      by earlier (Some p) at = let less = forest j p at in grow_child j p at less (omega (arith, less, within)) (earlier p less)

  pub grows : (j : ℕ) → j < length parents → Grows j
  grows j within = grow_below (suc j) j (omega arith) within

  -- its feeds
  fed_child : (j p : ℕ) → slice_get parents j ≡ Some (Some p) → p < j → p < length parents → Reaches done (c.feeds j) (alone (drop (length (was j)) (now j)))
  fed_child j p at low within =
      let gains = child_gains j p at low within (grows p within) in
      let left : drop (length (was j)) (now j) ≡ packets_of (c.added p) ++ gains.0 = ap (drop (length (was j))) gains.1 ∙ drop-append_seam (was j) (packets_of (c.added p) ++ gains.0) in
      reaches_trans done (c.feeds j) (alone (packets_of (c.added p))) (alone (drop (length (was j)) (now j))) (down.fed j (Some p) at)
      (subst (λ (l : List Item). Reaches done (alone (packets_of (c.added p))) (alone l)) (sym left) (reaches_alone done (packets_of (c.added p)) (packets_of (c.added p) ++ gains.0) (further done gains.0 gains.2)))
    where
      further : (way : Bool) (extra : List Item) → (way ≡ true → extra ≡ []) → Reaches way (packets_of (c.added p)) (packets_of (c.added p) ++ extra)
      further true extra none = sym (append-nil (packets_of (c.added p))) ∙ ap (λ (l : List Item). packets_of (c.added p) ++ l) (sym (none refl))
      further false extra none = (extra, refl)

  pub fed : (j : ℕ) → j < length parents → Reaches done (c.feeds j) (feeds_of lists (slice_get parents j) (was j) (now j))
  fed j within = by (get_or parents j None) (slice_get-get_or parents j None within)
    where
      by : (parent : Option ℕ) → slice_get parents j ≡ Some parent → Reaches done (c.feeds j) (feeds_of lists (slice_get parents j) (was j) (now j))
      by None at = subst (λ (o : Option (Option ℕ)). Reaches done (c.feeds j) (feeds_of lists o (was j) (now j))) (sym at) (down.fed j None at)
      by (Some p) at =
          let less = forest j p at in
          subst (λ (o : Option (Option ℕ)). Reaches done (c.feeds j) (feeds_of lists o (was j) (now j))) (sym at) (fed_child j p at less (omega (arith, less, within)))

  -- and its outputs by these
  pub tells : {after : ℕ → List Item → Type 0} → ((j : ℕ) → Passes done (whole j) (before j) (after j) (c.grown j) (c.added j) (c.marks j)) → (j : ℕ) → j < length parents → (new : List Out) × (whole j (now j) ≡ whole j (was j) ++ new) × Reaches done (shown (c.marks j)) (marks_of new)
      × ((more : List Item) (rest : List Out) → whole j (now j ++ more) ≡ whole j (was j) ++ (new ++ rest) → FloorsHold (c.marks j) (marks_of (new ++ rest)))
  tells each j within =
      let g = grows j within in
      let p = each j in
      let more = prefix_rest (whole j) (keeps j within) (was j ++ c.grown j) g.0 in (
        c.added j ++ more.0,
        ap (whole j) g.1 ∙ more.1 ∙ ap (λ (l : List Out). l ++ more.0) (p.gives (was j) (stood j within)) ∙ append_assoc (whole j (was j)) (c.added j) more.0,
        shows done more.0 (λ d. more.2 (g.2 d)) p.shows,
        λ later rest is.
            let outs : whole j ((was j ++ c.grown j) ++ (g.0 ++ later)) ≡ whole j (was j) ++ (c.added j ++ (more.0 ++ rest)) =
            ap (whole j) (sym (append_assoc (was j ++ c.grown j) g.0 later) ∙ ap (λ (l : List Item). l ++ later) (sym g.1)) ∙ is ∙ ap (λ (l : List Out). whole j (was j) ++ l) (append_assoc (c.added j) more.0 rest) in
            subst (λ (l : List Out). FloorsHold (c.marks j) (marks_of l)) (sym (append_assoc (c.added j) more.0 rest)) (p.floors (was j) (g.0 ++ later) (more.0 ++ rest) (stood j within) outs),
      )
    where
      shows : (way : Bool) (more : List Out) → (way ≡ true → more ≡ []) → Reaches way (shown (c.marks j)) (marks_of (c.added j)) → Reaches way (shown (c.marks j)) (marks_of (c.added j ++ more))
      shows true more none is = is ∙ ap marks_of (sym (append-nil (c.added j)) ∙ ap (λ (l : List Out). c.added j ++ l) (sym (none refl)))
      shows false more none front = (front.0 ++ marks_of more, sym (append_assoc (shown (c.marks j)) front.0 (marks_of more)) ∙ ap (λ (l : List Mark). l ++ marks_of more) front.1 ∙ sym (marks-append (c.added j) more))
