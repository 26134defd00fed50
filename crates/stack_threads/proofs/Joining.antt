-- The links of one more instance.
use Rattle.std.proofs.Common.{◌≡◌, ◌⊎◌, inl, inr, ◌<◌, ◌+◌, ℕ, zero, suc, Bool, true, false, List, [], ◌∷◌, ◌++◌, map, set, get_or, take, length, length-append, slice_get, if◌then◌else◌, Option, Some, None, refl, sym, ◌∙◌, ap, subst, arith}
use Rattle.std.specs.Prelude.{nat_eq}
use Rattle.std.proofs.lemmas.Bool.{cases_eq}
use Rattle.std.proofs.lemmas.Bool.Decides.{nat_tests}
use Rattle.std.proofs.lemmas.List.{map-append, take-append-le}
use Rattle.std.proofs.lemmas.List.Elements.{All-nil, All-push, All-same, All-set}
use Rattle.std.proofs.lemmas.Option.{same_Some, slice_get-get_or, slice_get_within}
use Rattle.tree_runs.specs.Passing.{IsForest, same_place}
use Rattle.la_base.specs.declared.wires.Feed.{Feed}
use Rattle.la_base.specs.declared.wires.Mark.{Mark}
use Rattle.stage_ring.specs.Link.{Link, Opens, received, rx_link, sent, slots, tx_link}
use Rattle.stage_ring.specs.declared.ends.Rx.{Rx}
use Rattle.stage_ring.specs.declared.ends.Tx.{Tx}
use Rattle.stage_run.specs.Inputs.{input_link, reads_samples, taken}
use Rattle.stage_run.specs.Stages.{Links}
use Rattle.stage_run.specs.declared.input.Input.TheVariants.{Packets}
use Rattle.stage_run.specs.declared.input.HalfRun.{HalfRun}
use Rattle.stack_threads.specs.Trees.{Reads, Serves, Wired, children_in, is_root, links_down, on_place, place_of}
use Rattle.stack_threads.specs.Wires.{AreNew, AreWide, AreWired, Grows, Joins, all_links, ends_links, feeds_with, stages_with, with_child}
use Rattle.stack_threads.specs.declared.rooms.Rooms.{Rooms}
use Rattle.stack_threads.specs.declared.wiring.StageEnds.{StageEnds}
use Rattle.stack_threads.specs.declared.wiring.Wires.{Wires}

-- what is in a list, and what joins it
module _ {A : Type 0} where
  pub get_front : (xs ys : List A) (k : ℕ) (x : A) → slice_get xs k ≡ Some x → slice_get (xs ++ ys) k ≡ Some x
  get_front [] ys k x at = absurd cc
  get_front (y ∷ xs) ys zero x at = at
  get_front (y ∷ xs) ys (suc k) x at = get_front xs ys k x at

  pub get_end : (xs : List A) (k : ℕ) (x : A) → k ≡ length xs → slice_get (xs ++ x ∷ []) k ≡ Some x
  get_end [] zero x is = refl
  get_end [] (suc k) x is = absurd (omega (arith, is))
  get_end (y ∷ xs) zero x is = absurd (omega (arith, is))
  get_end (y ∷ xs) (suc k) x is = get_end xs k x (omega (arith, is))

  pub get_either : (xs : List A) (k : ℕ) (y x : A) → slice_get (xs ++ y ∷ []) k ≡ Some x → (slice_get xs k ≡ Some x) ⊎ ((k ≡ length xs) × (x ≡ y))
  get_either [] zero y x at = inr (refl, sym (same_Some y x at))
  get_either [] (suc k) y x at = absurd cc
  get_either (z ∷ xs) zero y x at = inl at
  get_either (z ∷ xs) (suc k) y x at = elim (get_either xs k y x at) [
    | inl here ↦ inl here
    | inr last ↦ inr (let n = last.0 in omega (arith, n), last.1)
  ]

  pub get_take : (n : ℕ) (xs : List A) (k : ℕ) (x : A) → slice_get (take n xs) k ≡ Some x → slice_get xs k ≡ Some x
  get_take zero xs k x at = absurd cc
  get_take (suc n) [] k x at = at
  get_take (suc n) (y ∷ xs) zero x at = at
  get_take (suc n) (y ∷ xs) (suc k) x at = get_take n xs k x at

  pub take_front : (xs ys : List A) → take (length xs) (xs ++ ys) ≡ xs
  take_front [] ys = refl
  take_front (x ∷ xs) ys = ap (λ l. x ∷ l) (take_front xs ys)

-- how many stand on a place
on_more : (above : Option ℕ) (xs : List (Option ℕ)) (x : Option ℕ) → on_place above (xs ++ x ∷ []) ≡ on_place above xs + (if same_place x above then 1 else 0)
on_more above [] x = way (same_place x above)
  where
    way : (b : Bool) → (if b then suc 0 else 0) ≡ 0 + (if b then 1 else 0)
    way true = refl
    way false = refl
on_more above (y ∷ xs) x = way (same_place y above) (if same_place x above then 1 else 0) (on_place above xs) (on_place above (xs ++ x ∷ [])) (on_more above xs x)
  where
    way : (b : Bool) (k m n : ℕ) → n ≡ m + k → (if b then suc n else n) ≡ (if b then suc m else m) + k
    way true k m n is = omega (arith, is)
    way false k m n is = is

abbrev one_if : Bool → ℕ
one_if b = if b then 1 else 0

on_same : (i j : ℕ) → i ≡ j → one_if (same_place (Some i) (Some j)) ≡ 1
on_same i j is = let same : nat_eq i j ≡ true = grind (arith, nat_tests, is) in ap one_if same

on_other : (i j : ℕ) → (i ≡ j → ⊥) → one_if (same_place (Some i) (Some j)) ≡ 0
on_other i j apart = let no : nat_eq i j ≡ false = grind (arith, nat_tests, apart) in ap one_if no

-- none stands on a place behind all
none_on : (xs : List (Option ℕ)) (n : ℕ) → ((j p : ℕ) → slice_get xs j ≡ Some (Some p) → p < n) → on_place (Some n) xs ≡ 0
none_on [] n low = refl
none_on (None ∷ xs) n low = none_on xs n (λ j p at. low (suc j) p at)
none_on (Some q ∷ xs) n low =
    let less = low 0 q refl in
    let no : nat_eq q n ≡ false = grind (arith, nat_tests, less) in
    ap (λ (b : Bool). if b then suc (on_place (Some n) xs) else on_place (Some n) xs) no ∙ none_on xs n (λ j p at. low (suc j) p at)

-- a stage whose parent is at p has one more link where it is that parent
pub record Grew (p : ℕ) (link : Link) (j : ℕ) (old new : Links) : Type 0 where
  pub input : new.input ≡ old.input
  pub samples : new.samples ≡ old.samples
  pub marks : new.marks ≡ old.marks
  pub here : p ≡ j → new.children ≡ old.children ++ link ∷ []
  pub apart : (p ≡ j → ⊥) → new.children ≡ old.children

with_same : (p : ℕ) (link : Link) (ss : List Links) → length (with_child p link ss) ≡ length ss
with_same p link [] = refl
with_same zero link (s ∷ ss) = refl
with_same (suc p) link (s ∷ ss) = ap suc (with_same p link ss)

child_on : (p : ℕ) (link : Link) (ss : List Links) (j : ℕ) (s : Links) → slice_get ss j ≡ Some s → (new : Links) × (slice_get (with_child p link ss) j ≡ Some new) × Grew p link j s new
child_on p link [] j s at = absurd cc
child_on zero link (t ∷ ss) zero s at =
    let same : t ≡ s = same_Some t s at in
    (record t { children = t.children ++ link ∷ [] }, refl, record { input = ap (λ z. z.input) same; samples = ap (λ z. z.samples) same; marks = ap (λ z. z.marks) same; here = λ e. ap (λ z. z.children ++ link ∷ []) same; apart = λ no. absurd (no refl) })
child_on zero link (t ∷ ss) (suc j) s at = (s, at, record { input = refl; samples = refl; marks = refl; here = λ e. absurd (omega (arith, e)); apart = λ no. refl })
child_on (suc p) link (t ∷ ss) zero s at = (s, at, record { input = refl; samples = refl; marks = refl; here = λ e. absurd (omega (arith, e)); apart = λ no. refl })
child_on (suc p) link (t ∷ ss) (suc j) s at =
    let r = child_on p link ss j s at in
    (r.0, r.1, record { input = r.2.input; samples = r.2.samples; marks = r.2.marks; here = λ e. r.2.here (omega (arith, e)); apart = λ no. r.2.apart (λ e. no (ap suc e)) })

child_back : (p : ℕ) (link : Link) (ss : List Links) (j : ℕ) (new : Links) → slice_get (with_child p link ss) j ≡ Some new → (s : Links) × (slice_get ss j ≡ Some s) × Grew p link j s new
child_back p link ss j new at =
    let within = slice_get_within (with_child p link ss) j new at in
    let old = get_or ss j new in
    let there = slice_get-get_or ss j new (let n = with_same p link ss in omega (arith, n, within)) in
    let r = child_on p link ss j old there in
    (old, there, subst (λ (z : Links). Grew p link j old z) (same_Some r.0 new (sym r.1 ∙ at)) r.2)

-- the links of the stages and the driver behind one more instance
module _ (ps : List (Option ℕ)) (x : Option ℕ) (forest : IsForest (ps ++ x ∷ [])) (stages : List Links) (feeds marks : List Link) (wired : Wired ps stages feeds marks) (serves : Serves ps stages)
    (roots : length feeds ≡ on_place None ps) (gathers : length marks ≡ length ps) (input out : Link) where
  abbrev last : Links
  last = record { input = input; samples = is_root x; children = []; marks = out }

  abbrev stages_now : List Links
  stages_now = stages_with x input stages ++ last ∷ []

  abbrev feeds_now : List Link
  feeds_now = feeds_with x input feeds

  same_count : (y : Option ℕ) → length (stages_with y input stages) ≡ length stages
  same_count None = refl
  same_count (Some p) = with_same p input stages

  abbrev front_len : length (stages_with x input stages) ≡ length ps
  front_len = same_count x ∙ wired.count

  -- a stage that was there
  kept : (y : Option ℕ) (j : ℕ) (new : Links) → slice_get (stages_with y input stages) j ≡ Some new
      → (s : Links) × (slice_get stages j ≡ Some s) × (new.input ≡ s.input) × (new.samples ≡ s.samples) × (new.marks ≡ s.marks) × (length new.children ≡ length s.children + (if same_place y (Some j) then 1 else 0))
  kept None j new at = (new, at, refl, refl, refl, omega arith)
  kept (Some p) j new at =
      let r = child_back p input stages j new at in (
        r.0,
        r.1,
        r.2.input,
        r.2.samples,
        r.2.marks,
        elim (cases_eq p j) [
          | inl same ↦ let one = on_same p j same in let grew = ap length (r.2.here same) in omega (arith, one, grew, length-append r.0.children (input ∷ []))
          | inr other ↦ let none = on_other p j other in let grew = ap length (r.2.apart other) in omega (arith, none, grew)
        ],
      )

  -- what was linked still is
  down_on : (y : Option ℕ) (above : Option ℕ) (k : ℕ) (l : Link) → slice_get (links_down stages feeds above) k ≡ Some l → slice_get (links_down (stages_with y input stages ++ last ∷ []) (feeds_with y input feeds) above) k ≡ Some l
  down_on None None k l at = get_front feeds (input ∷ []) k l at
  down_on (Some p) None k l at = at
  down_on y (Some q) k l at = by y (slice_get stages q) refl at
    where
      by : (z : Option ℕ) (o : Option Links) → slice_get stages q ≡ o → slice_get (children_in o) k ≡ Some l → slice_get (children_in (slice_get (stages_with z input stages ++ last ∷ []) q)) k ≡ Some l
      by z None is has = absurd cc
      by None (Some s) is has = ap (λ (o : Option Links). slice_get (children_in o) k) (get_front stages (last ∷ []) q s is) ∙ has
      by (Some p) (Some s) is has =
          let r = child_on p input stages q s is in
          ap (λ (o : Option Links). slice_get (children_in o) k) (get_front (with_child p input stages) (last ∷ []) q r.0 r.1)
          ∙ elim (cases_eq p q) [
            | inl same ↦ ap (λ (c : List Link). slice_get c k) (r.2.here same) ∙ get_front s.children (input ∷ []) k l has
            | inr other ↦ ap (λ (c : List Link). slice_get c k) (r.2.apart other) ∙ has
          ]

  -- the new link is the last of those to its place
  down_last : (y : Option ℕ) → ((p : ℕ) → y ≡ Some p → p < length ps) → slice_get (links_down (stages_with y input stages ++ last ∷ []) (feeds_with y input feeds) y) (on_place y ps) ≡ Some input
  down_last None low = get_end feeds (on_place None ps) input (sym roots)
  down_last (Some p) low =
      let less = low p refl in
      let s = get_or stages p last in
      let at = slice_get-get_or stages p last (let n = wired.count in omega (arith, n, less)) in
      let r = child_on p input stages p s at in
      ap (λ (o : Option Links). slice_get (children_in o) (on_place (Some p) ps)) (get_front (with_child p input stages) (last ∷ []) p r.0 r.1)
      ∙ ap (λ (c : List Link). slice_get c (on_place (Some p) ps)) (r.2.here refl)
      ∙ get_end s.children (on_place (Some p) ps) input (sym (serves p s at))

  low_parent : (p : ℕ) → x ≡ Some p → p < length ps
  low_parent p is = forest (length ps) p (get_end ps (length ps) x refl ∙ ap (λ (o : Option ℕ). Some o) is)

  reads_on : (j : ℕ) → Reads (ps ++ x ∷ []) stages_now feeds_now j
  reads_on j parent s at at_s = way (get_either ps j x parent at) (get_either (stages_with x input stages) j last s at_s)
    where
      way : (slice_get ps j ≡ Some parent) ⊎ ((j ≡ length ps) × (parent ≡ x)) → (slice_get (stages_with x input stages) j ≡ Some s) ⊎ ((j ≡ length (stages_with x input stages)) × (s ≡ last))
          → (slice_get (links_down stages_now feeds_now parent) (place_of (ps ++ x ∷ []) j parent) ≡ Some s.input) × (s.samples ≡ is_root parent)
      way (inl there) (inl stage) =
          let k = kept x j s stage in
          let r = wired.inputs j parent k.0 there k.1 in
          let low = slice_get_within ps j parent there in
          let place : place_of (ps ++ x ∷ []) j parent ≡ place_of ps j parent = ap (on_place parent) (take-append-le j ps (x ∷ []) (omega (arith, low))) in
          (ap (slice_get (links_down stages_now feeds_now parent)) place ∙ down_on x parent (place_of ps j parent) s.input (r.0 ∙ ap (λ (l : Link). Some l) (sym k.2)), k.3 ∙ r.1)
      way (inr there) (inr stage) =
          let place : place_of (ps ++ x ∷ []) j parent ≡ on_place x ps = ap (λ (n : ℕ). place_of (ps ++ x ∷ []) n parent) there.0 ∙ ap (λ (l : List (Option ℕ)). on_place parent l) (take_front ps (x ∷ [])) ∙ ap (λ (o : Option ℕ). on_place o ps) there.1 in (
            ap (slice_get (links_down stages_now feeds_now parent)) place ∙ ap (λ (o : Option ℕ). slice_get (links_down stages_now feeds_now o) (on_place x ps)) there.1 ∙ down_last x low_parent ∙ ap (λ (z : Links). Some z.input) (sym stage.1),
            ap (λ (z : Links). z.samples) stage.1 ∙ ap is_root (sym there.1),
          )
      way (inl there) (inr stage) = absurd (let low = slice_get_within ps j parent there in let n = stage.0 in omega (arith, low, n, front_len))
      way (inr there) (inl stage) = absurd (let low = slice_get_within (stages_with x input stages) j s stage in let n = there.0 in omega (arith, low, n, front_len))

  outputs_on : (j : ℕ) (s : Links) → slice_get stages_now j ≡ Some s → slice_get (marks ++ out ∷ []) j ≡ Some s.marks
  outputs_on j s at_s = way (get_either (stages_with x input stages) j last s at_s)
    where
      way : (slice_get (stages_with x input stages) j ≡ Some s) ⊎ ((j ≡ length (stages_with x input stages)) × (s ≡ last)) → slice_get (marks ++ out ∷ []) j ≡ Some s.marks
      way (inl stage) = let k = kept x j s stage in get_front marks (out ∷ []) j s.marks (wired.outputs j k.0 k.1 ∙ ap (λ (l : Link). Some l) (sym k.4))
      way (inr stage) = get_end marks j out (let n = stage.0 in omega (arith, n, front_len, gathers)) ∙ ap (λ (z : Links). Some z.marks) (sym stage.1)

  pub wired_on : Wired (ps ++ x ∷ []) stages_now feeds_now (marks ++ out ∷ [])
  wired_on = record {
    count = let n = front_len in omega (arith, n, length-append (stages_with x input stages) (last ∷ []), length-append ps (x ∷ []));
    inputs = reads_on;
    outputs = outputs_on;
  }

  pub serves_on : Serves (ps ++ x ∷ []) stages_now
  serves_on j s at_s = way (get_either (stages_with x input stages) j last s at_s)
    where
      way : (slice_get (stages_with x input stages) j ≡ Some s) ⊎ ((j ≡ length (stages_with x input stages)) × (s ≡ last)) → length s.children ≡ on_place (Some j) (ps ++ x ∷ [])
      way (inl stage) = let k = kept x j s stage in k.5 ∙ ap (λ (n : ℕ). n + (if same_place x (Some j) then 1 else 0)) (serves j k.0 k.1) ∙ sym (on_more (Some j) ps x)
      way (inr stage) =
          let none = none_on (ps ++ x ∷ []) j (λ i p at. let less = forest i p at in let w = slice_get_within (ps ++ x ∷ []) i (Some p) at in let n = stage.0 in omega (arith, less, w, n, front_len, length-append ps (x ∷ []))) in
          ap (λ (z : Links). length z.children) stage.1 ∙ sym none

  roots_by : (y : Option ℕ) → length (feeds_with y input feeds) ≡ on_place None (ps ++ y ∷ [])
  roots_by None = omega (arith, roots, length-append feeds (input ∷ []), on_more None ps None)
  roots_by (Some p) = omega (arith, roots, on_more None ps (Some p))

  pub roots_on : length feeds_now ≡ on_place None (ps ++ x ∷ [])
  roots_on = roots_by x

-- a forest's first are one
pub forest_front : (parents : List (Option ℕ)) (n : ℕ) → IsForest parents → IsForest (take n parents)
forest_front parents n forest = λ j p at. forest j p (get_take n parents j (Some p) at)

pub wired_next : (rooms : Rooms) (ps : List (Option ℕ)) (x : Option ℕ) (old new : Wires) → IsForest (ps ++ x ∷ []) → AreWired rooms ps old → Grows rooms x old new → AreWired rooms (ps ++ x ∷ []) new
wired_next rooms ps x old new forest are grows =
    let n = are.gathers in
    let w = wired_on ps x forest (all_links old) (map tx_link old.feeds.items) (map rx_link old.marks.items) are.wired are.serves are.roots n grows.input grows.marks in
    let s = serves_on ps x forest (all_links old) (map tx_link old.feeds.items) (map rx_link old.marks.items) are.wired are.serves are.roots n grows.input grows.marks in
    let r = roots_on ps x forest (all_links old) (map tx_link old.feeds.items) (map rx_link old.marks.items) are.wired are.serves are.roots n grows.input grows.marks in
    record {
      wired = wired_as (sym grows.stages) (sym grows.feeds) (sym grows.gathers) w;
      serves = subst (λ (l : List Links). Serves (ps ++ x ∷ []) l) (sym grows.stages) s;
      roots = ap length grows.feeds ∙ r;
      gathers = ap length grows.gathers ∙ omega (arith, n, length-append (map rx_link old.marks.items) (grows.marks ∷ []), length-append ps (x ∷ []));
      none = grows.still_new are.none;
      slots = grows.still_wide are.slots;
    }
  where
    wired_as : {s0 s1 : List Links} {f0 f1 m0 m1 : List Link} → s0 ≡ s1 → f0 ≡ f1 → m0 ≡ m1 → Wired (ps ++ x ∷ []) s0 f0 m0 → Wired (ps ++ x ∷ []) s1 f1 m1
    wired_as {s0} {s1} {f0} {f1} {m0} {m1} a b c w = subst (λ (m : List Link). Wired (ps ++ x ∷ []) s1 f1 m) c (subst (λ (f : List Link). Wired (ps ++ x ∷ []) s1 f m0) b (subst (λ (s : List Links). Wired (ps ++ x ∷ []) s f0 m0) a w))

-- a stage's ends with one more to a child
pub child_joined : (ends : List StageEnds) (p : ℕ) (d new : StageEnds) (link : Link) → p < length ends → ends_links new ≡ record (ends_links (get_or ends p d)) { children = (ends_links (get_or ends p d)).children ++ link ∷ [] }
    → map ends_links (set ends p new) ≡ with_child p link (map ends_links ends)
child_joined [] p d new link low is = absurd (omega (arith, low))
child_joined (e ∷ ends) zero d new link low is = ap (λ l. l ∷ map ends_links ends) is
child_joined (e ∷ ends) (suc p) d new link low is = ap (λ l. ends_links e ∷ l) (child_joined ends p d new link (omega (arith, low)) is)

-- an input that is linked to its parent
pub joined_child : (parent : Option ℕ) (p : ℕ) (rooms : Rooms) (tx : Tx Feed) (rx : Rx Feed) (ends : List StageEnds) (old new : StageEnds) (feeds : List (Tx HalfRun)) → parent ≡ Some p → p < length ends → old ≡ get_or ends p old
    → new.input ≡ old.input → new.marks ≡ old.marks → new.children.items ≡ old.children.items ++ tx ∷ [] → Opens rooms.others tx rx → Joins rooms parent (Packets rx) ends (set ends p new) feeds feeds
joined_child parent p rooms tx rx ends old new feeds is low there input marks children opens = record {
  samples = ap is_root (sym is);
  none = ap length opens.received_none;
  stages = child_joined ends p old new (rx_link rx) low (links_new ∙ ap (λ (e : StageEnds). record (ends_links e) { children = (ends_links e).children ++ rx_link rx ∷ [] }) there) ∙ ap (λ (o : Option ℕ). stages_with o (rx_link rx) (map ends_links ends)) (sym is);
  feeds = ap (λ (o : Option ℕ). feeds_with o (rx_link rx) (map tx_link feeds)) (sym is);
  still_ends = λ news.
      let was : AreNew old = subst AreNew (sym there) (news p old low) in
      All-set AreNew ends p new (record {
        input = ap taken input ∙ was.input;
        children = All-same (λ child. sent child ≡ []) new.children.items (old.children.items ++ tx ∷ []) children (All-push (λ child. sent child ≡ []) old.children.items tx was.children opens.sent_none);
        marks = ap sent marks ∙ was.marks;
      }) news;
  still_feeds = λ news. news;
  wide_ends = λ wides.
      let was : AreWide rooms old = subst (AreWide rooms) (sym there) (wides p old low) in
      All-set (AreWide rooms) ends p new (record {
        children = All-same (λ child. slots child ≡ rooms.others) new.children.items (old.children.items ++ tx ∷ []) children (All-push (λ child. slots child ≡ rooms.others) old.children.items tx was.children opens.room);
        marks = ap slots marks ∙ was.marks;
      }) wides;
  wide_feeds = λ wides. wides;
}
  where
    links_new : ends_links new ≡ record (ends_links old) { children = (ends_links old).children ++ rx_link rx ∷ [] }
    links_new = λ i. record {
      input = input_link (input i);
      samples = reads_samples (input i);
      children = (ap (map tx_link) children ∙ map-append tx_link old.children.items (tx ∷ []) ∙ ap (λ (l : Link). map tx_link old.children.items ++ l ∷ []) opens.one) i;
      marks = tx_link (marks i);
    }

-- the links of one more instance
pub grown : (parent : Option ℕ) (rooms : Rooms) (old new : Wires) (mid : List StageEnds) (e : StageEnds) (rx : Rx Mark) → Joins rooms parent e.input old.ends.items mid old.feeds.items new.feeds.items → new.ends.items ≡ mid ++ e ∷ []
    → new.marks.items ≡ old.marks.items ++ rx ∷ [] → e.children.items ≡ [] → Opens rooms.others e.marks rx → Grows rooms parent old new
grown parent rooms old new mid e rx joins ends marks none opens = record {
  input = input_link e.input;
  marks = rx_link rx;
  stages = ap (map ends_links) ends ∙ map-append ends_links mid (e ∷ []) ∙ (λ i. joins.stages i ++ links_new i ∷ []);
  feeds = joins.feeds;
  gathers = ap (map rx_link) marks ∙ map-append rx_link old.marks.items (rx ∷ []);
  still_new = λ was. record {
    ends = All-same AreNew new.ends.items (mid ++ e ∷ []) ends (All-push AreNew mid e (joins.still_ends was.ends) (record {
      input = joins.none;
      children = All-same (λ child. sent child ≡ []) e.children.items [] none (All-nil (λ child. sent child ≡ []));
      marks = opens.sent_none;
    }));
    feeds = joins.still_feeds was.feeds;
    marks = All-same (λ mark. received mark ≡ []) new.marks.items (old.marks.items ++ rx ∷ []) marks (All-push (λ mark. received mark ≡ []) old.marks.items rx was.marks opens.received_none);
  };
  still_wide = λ was. record {
    ends = All-same (AreWide rooms) new.ends.items (mid ++ e ∷ []) ends (All-push (AreWide rooms) mid e (joins.wide_ends was.ends) (record {
      children = All-same (λ child. slots child ≡ rooms.others) e.children.items [] none (All-nil (λ child. slots child ≡ rooms.others));
      marks = opens.room;
    }));
    feeds = joins.wide_feeds was.feeds;
  };
}
  where
    links_new : ends_links e ≡ record { input = input_link e.input; samples = is_root parent; children = []; marks = rx_link rx }
    links_new = λ i. record { input = input_link e.input; samples = joins.samples i; children = map tx_link (none i); marks = opens.one i }
