-- One change of a tree behind another.
use Rattle.std.proofs.Common.{◌≡◌, ◌≢◌, ◌<◌, ◌≤◌, length, ℕ, suc, Bool, true, false, inl, inr, ◌⊎◌, ◌+◌, List, [], ◌∷◌, ◌++◌, slice_get, Option, Some, None, refl, sym, ◌∙◌, ap, subst, arith, append_assoc, if◌then◌else◌}
use Rattle.std.specs.Prelude.{nat_eq, nat_lt}
use Rattle.std.proofs.lemmas.Bool.{cases_eq, cases_lt}
use Rattle.std.proofs.lemmas.Bool.Decides.{nat_tests}
use Rattle.std.proofs.lemmas.List.{append-nil}
use Rattle.std.proofs.lemmas.Option.{slice_get_within}
use Rattle.la_base.specs.declared.wires.Feed.{Feed}
use Rattle.la_base.specs.declared.wires.Mark.{Mark}
use Rattle.la_base.specs.declared.wires.Mark.TheVariants.{Floor as FloorMark}
use Rattle.la_base.specs.declared.wires.Out.{Out}
use Rattle.decoder_core.specs.Inputs.{Item}
use Rattle.decoder_core.specs.Promises.{IsFloor, KeepsFront}
use Rattle.decoder_core.specs.Trees.{packets_of}
use Rattle.decoder_core.specs.Marks.{shown, FloorsHold}
use Rattle.tree_io.specs.Feeds.{TakesFront, marks_of}
use Rattle.la_base.specs.declared.samples.Run.{Run}
use Rattle.tree_runs.specs.Machines.{Definitions, MovesAt, StepsAt, StepsRunsAt}
use Rattle.tree_runs.specs.Floors.{Handed, alone}
use Rattle.tree_runs.specs.Passing.{Passes, Change, joined, only, up_to, Took, TookFront, same_place, first_on, from_parent, comes, comes_in, Down, Into, IsForest, Hands, Feeds, Consumes, Gives, SomeMark}
use Rattle.tree_runs.specs.Reaching.{Reaches}
use Rattle.tree_runs.proofs.Flooring.{alone-append, handed_cut, handed_nothing, handed_then, handed_weaker, handed_whole, reaches_alone, some_behind}
use Rattle.tree_io.proofs.Taking.{marks-append}
use Rattle.tree_runs.proofs.Lists.{packets-append, shown-append, no_end-append, shown_front, floors-append, marks_from, reaches_all, reaches_weaker, reaches-append, reaches_trans, reaches_packets, reaches_marks}

-- one instance
pub passes_then : {done : Bool} {whole : List Item → List Out} {before mid after : List Item → Type 0} {g1 g2 : List Item} {a1 a2 : List Out} {m1 m2 : List Mark}
    → Passes true whole before mid g1 a1 m1 → Passes done whole mid after g2 a2 m2 → Passes done whole before after (g1 ++ g2) (a1 ++ a2) (m1 ++ m2)
passes_then {done} {whole} {before} {mid} {after} {g1} {g2} {a1} {a2} {m1} {m2} p q = record {
  consumes = λ is input b. subst after (append_assoc input g1 g2) (q.consumes is (input ++ g1) (p.consumes refl input b));
  gives = λ input b.
      ap whole (sym (append_assoc input g1 g2)) ∙ q.gives (input ++ g1) (p.consumes refl input b) ∙ ap (λ (l : List Out). l ++ a2) (p.gives input b) ∙ append_assoc (whole input) a1 a2;
  shows =
      subst (λ (l : List Mark). Reaches done l (marks_of (a1 ++ a2))) (sym (shown-append m1 m2))
      (subst (λ (l : List Mark). Reaches done (shown m1 ++ shown m2) l) (sym (marks-append a1 a2))
      (subst (λ (l : List Mark). Reaches done (shown m1 ++ shown m2) (l ++ marks_of a2)) p.shows (reaches-append done (shown m1) (shown m2) (marks_of a2) q.shows)));
  no_end = no_end-append m1 m2 p.no_end q.no_end;
  floors = λ input more rest b is.
      let whole_first : whole ((input ++ g1) ++ (g2 ++ more)) ≡ whole input ++ (a1 ++ (a2 ++ rest)) =
      ap whole (sym (append_assoc (input ++ g1) g2 more) ∙ ap (λ (l : List Item). l ++ more) (append_assoc input g1 g2)) ∙ is ∙ ap (λ (l : List Out). whole input ++ l) (append_assoc a1 a2 rest) in
      let whole_second : whole (((input ++ g1) ++ g2) ++ more) ≡ whole (input ++ g1) ++ (a2 ++ rest) =
      ap whole (append_assoc (input ++ g1) g2 more) ∙ whole_first ∙ sym (append_assoc (whole input) a1 (a2 ++ rest)) ∙ ap (λ (l : List Out). l ++ (a2 ++ rest)) (sym (p.gives input b)) in
      let first : FloorsHold m1 (marks_of (a1 ++ (a2 ++ rest))) = p.floors input (g2 ++ more) (a2 ++ rest) b whole_first in
      let second : FloorsHold m2 (marks_of (a2 ++ rest)) = q.floors (input ++ g1) more rest (p.consumes refl input b) whole_second in
      let parts : marks_of (a1 ++ (a2 ++ rest)) ≡ shown m1 ++ marks_of (a2 ++ rest) = marks-append a1 (a2 ++ rest) ∙ ap (λ (l : List Mark). l ++ marks_of (a2 ++ rest)) (sym p.shows) in
      subst (λ (l : List Mark). FloorsHold (m1 ++ m2) l) (sym (ap marks_of (append_assoc a1 a2 rest) ∙ parts))
      (floors-append m1 m2 (marks_of (a2 ++ rest)) (subst (λ (l : List Mark). FloorsHold m1 l) parts first) second);
}

pub passes_weaker : {whole : List Item → List Out} {before after : List Item → Type 0} {g : List Item} {a : List Out} {m : List Mark} (done : Bool) → Passes true whole before after g a m → Passes done whole before after g a m
passes_weaker {a = a} {m = m} done p = record {
  consumes = λ is. p.consumes refl;
  gives = p.gives;
  shows = reaches_weaker done (shown m) (marks_of a) p.shows;
  no_end = p.no_end;
  floors = p.floors;
}

-- nothing was given to it
pub passes_nothing : (whole : List Item → List Out) (before after : List Item → Type 0) → ((input : List Item) → before input → after input) → Passes true whole before after [] [] []
passes_nothing whole before after stays = record {
  consumes = λ is input b. subst after (sym (append-nil input)) (stays input b);
  gives = λ input b. ap whole (append-nil input) ∙ sym (append-nil (whole input));
  shows = refl;
  no_end = tt;
  floors = λ input more rest b is. tt;
}

-- places
only_here : {X : Type 0} (i : ℕ) (xs : List X) → only i xs i ≡ xs
only_here i xs = let same : nat_eq i i ≡ true = grind (arith, nat_tests) in ap (λ (b : Bool). if b then xs else []) same

only_elsewhere : {X : Type 0} (i : ℕ) (xs : List X) (j : ℕ) → j ≢ i → only i xs j ≡ []
only_elsewhere i xs j other = let different : nat_eq j i ≡ false = grind (arith, nat_tests) in ap (λ (b : Bool). if b then xs else []) different

-- one list in the place of another
abbrev at_place : {X : Type 0} → ℕ → List X → (ℕ → List X) → ℕ → List X
at_place i xs f j = if nat_eq j i then xs else f j

at_here : {X : Type 0} (i : ℕ) (xs : List X) (f : ℕ → List X) → at_place i xs f i ≡ xs
at_here i xs f = let same : nat_eq i i ≡ true = grind (arith, nat_tests) in ap (λ (b : Bool). if b then xs else f i) same

at_other : {X : Type 0} (i : ℕ) (xs : List X) (f : ℕ → List X) (j : ℕ) → j ≢ i → at_place i xs f j ≡ f j
at_other i xs f j other = let different : nat_eq j i ≡ false = grind (arith, nat_tests) in ap (λ (b : Bool). if b then xs else f j) different

-- marks of an instance, by the marks of all
pub took_front : {done : Bool} {old new : (ℕ → List Mark) → Type 0} {i : ℕ} {marks : List Mark} → TakesFront done old new i marks → TookFront done old new i marks
took_front {done} {old} {new} {i} {marks} f = record {
  taken = f.taken;
  reaches = reach done f.whole;
  some = f.some;
  took = λ before after had adds. f.takes before after had (record {
    here = adds i ∙ ap (λ (l : List Mark). before i ++ l) (only_here i f.taken);
    others = λ j other. adds j ∙ ap (λ (l : List Mark). before j ++ l) (only_elsewhere i f.taken j other) ∙ append-nil (before j);
  });
}
  where
    reach : (b : Bool) → (b ≡ true → f.rest ≡ []) → Reaches b f.taken marks
    reach true whole = sym (append-nil f.taken) ∙ ap (λ (l : List Mark). f.taken ++ l) (sym (whole refl)) ∙ f.front
    reach false whole = (f.rest, f.front)

same_places : (one other : Option ℕ) → same_place one other ≡ true → one ≡ other
same_places None None is = refl
same_places None (Some j) is = absurd cc
same_places (Some i) None is = absurd cc
same_places (Some i) (Some j) is = let same : i ≡ j = grind (arith, nat_tests) in ap (λ (n : ℕ). Some n) same

-- links
from_parent-append : (a b : ℕ → List Out) (parent : Option ℕ) → from_parent (λ j. a j ++ b j) parent ≡ from_parent a parent ++ from_parent b parent
from_parent-append a b None = refl
from_parent-append a b (Some p) = packets-append (a p) (b p)

comes-append : (above : Option ℕ) (xs ys : List Item) (a b : ℕ → List Out) (parent : Option ℕ) → comes above (xs ++ ys) (λ j. a j ++ b j) parent ≡ comes above xs a parent ++ comes above ys b parent
comes-append above xs ys a b parent = by (same_place parent above)
  where
    by : (t : Bool) → (if t then xs ++ ys else from_parent (λ j. a j ++ b j) parent) ≡ (if t then xs else from_parent a parent) ++ (if t then ys else from_parent b parent)
    by true = refl
    by false = from_parent-append a b parent

alone_from-append : (a b : ℕ → List Out) (parent : Option ℕ) → alone (from_parent (λ j. a j ++ b j) parent) ≡ alone (from_parent a parent) ++ alone (from_parent b parent)
alone_from-append a b parent = ap alone (from_parent-append a b parent) ∙ alone-append (from_parent a parent) (from_parent b parent)

comes_in-append : (above : Option ℕ) (xs ys : List (List Item)) (a b : ℕ → List Out) (parent : Option ℕ) → comes_in above (xs ++ ys) (λ j. a j ++ b j) parent ≡ comes_in above xs a parent ++ comes_in above ys b parent
comes_in-append above xs ys a b parent = by (same_place parent above)
  where
    by : (t : Bool) → (if t then xs ++ ys else alone (from_parent (λ j. a j ++ b j) parent)) ≡ (if t then xs else alone (from_parent a parent)) ++ (if t then ys else alone (from_parent b parent))
    by true = refl
    by false = alone_from-append a b parent

pub nothing_more : {X : Type 0} {xs ys : List X} → xs ≡ [] → ys ≡ [] → xs ++ ys ≡ []
nothing_more x y = λ i. x i ++ y i

pub down_then : {done : Bool} {above : Option ℕ} {xs ys : ℕ → List Item} {fs gs : ℕ → List (List Item)} {parents : List (Option ℕ)} {c d : Change} → Down true above xs fs parents c → Down done above ys gs parents d
    → Down done above (λ j. xs j ++ ys j) (λ j. fs j ++ gs j) parents (joined c d)
down_then {done} {above} {xs} {ys} {fs} {gs} {parents} {c} {d} p q = record {
  quiet = λ j low. (nothing_more (p.quiet j low).0 (q.quiet j low).0, nothing_more (p.quiet j low).1 (q.quiet j low).1);
  links = λ j parent at.
      subst (λ (l : List Item). Reaches done (c.grown j ++ d.grown j) l) (sym (comes-append above (xs j) (ys j) c.added d.added parent))
      (subst (λ (l : List Item). Reaches done (c.grown j ++ d.grown j) (l ++ comes above (ys j) d.added parent)) (p.links j parent at)
      (reaches-append done (c.grown j) (d.grown j) (comes above (ys j) d.added parent) (q.links j parent at)));
  fed = λ j parent at.
      subst (λ (l : List (List Item)). Reaches done (c.feeds j ++ d.feeds j) l) (sym (comes_in-append above (fs j) (gs j) c.added d.added parent))
      (subst (λ (l : List (List Item)). Reaches done (c.feeds j ++ d.feeds j) (l ++ comes_in above (gs j) d.added parent)) (p.fed j parent at)
      (reaches-append done (c.feeds j) (d.feeds j) (comes_in above (gs j) d.added parent) (q.fed j parent at)));
}

into_then : {done : Bool} {i : ℕ} {xs ys : List Item} {parents : List (Option ℕ)} {c d : Change} → Into true i xs parents c → Into done i ys parents d → Into done i (xs ++ ys) parents (joined c d)
into_then {done} {i} {xs} {ys} {parents} {c} {d} p q = record {
  quiet = λ j low. (nothing_more (p.quiet j low).0 (q.quiet j low).0, nothing_more (p.quiet j low).1 (q.quiet j low).1);
  here = subst (λ (l : List Item). Reaches done (c.grown i ++ d.grown i) (l ++ ys)) p.here (reaches-append done (c.grown i) (d.grown i) ys q.here);
  links = λ j parent at other.
      subst (λ (l : List Item). Reaches done (c.grown j ++ d.grown j) l) (sym (from_parent-append c.added d.added parent))
      (subst (λ (l : List Item). Reaches done (c.grown j ++ d.grown j) (l ++ from_parent d.added parent)) (p.links j parent at other)
      (reaches-append done (c.grown j) (d.grown j) (from_parent d.added parent) (q.links j parent at other)));
  fed = λ j parent at other.
      subst (λ (l : List (List Item)). Reaches done (c.feeds j ++ d.feeds j) l) (sym (alone_from-append c.added d.added parent))
      (subst (λ (l : List (List Item)). Reaches done (c.feeds j ++ d.feeds j) (l ++ alone (from_parent d.added parent))) (p.fed j parent at other)
      (reaches-append done (c.feeds j) (d.feeds j) (alone (from_parent d.added parent)) (q.fed j parent at other)));
}

-- fewer items, where it was stopped
reaches_comes : (done : Bool) (above : Option ℕ) (xs ys : List Item) (a : ℕ → List Out) (parent : Option ℕ) → (same_place parent above ≡ true → Reaches done xs ys) → Reaches done (comes above xs a parent) (comes above ys a parent)
reaches_comes done above xs ys a parent more = by (same_place parent above) refl
  where
    by : (t : Bool) → same_place parent above ≡ t → Reaches done (if t then xs else from_parent a parent) (if t then ys else from_parent a parent)
    by true is = more is
    by false is = reaches_all done (from_parent a parent)

reaches_comes_in : (done : Bool) (above : Option ℕ) (xs ys : List (List Item)) (a : ℕ → List Out) (parent : Option ℕ) → (same_place parent above ≡ true → Reaches done xs ys) → Reaches done (comes_in above xs a parent) (comes_in above ys a parent)
reaches_comes_in done above xs ys a parent more = by (same_place parent above) refl
  where
    by : (t : Bool) → same_place parent above ≡ t → Reaches done (if t then xs else alone (from_parent a parent)) (if t then ys else alone (from_parent a parent))
    by true is = more is
    by false is = reaches_all done (alone (from_parent a parent))

-- of each instance that stands on `above` a front
abbrev pub Fronts : {X : Type 0} → Bool → Option ℕ → List (Option ℕ) → (ℕ → List X) → (ℕ → List X) → Type 0
Fronts done above parents xs ys = (j : ℕ) (parent : Option ℕ) → slice_get parents j ≡ Some parent → same_place parent above ≡ true → Reaches done (xs j) (ys j)

pub down_reach : {done : Bool} {above : Option ℕ} {xs : ℕ → List Item} {fs : ℕ → List (List Item)} {parents : List (Option ℕ)} {c : Change} (ys : ℕ → List Item) (gs : ℕ → List (List Item))
    → Fronts done above parents xs ys → Fronts done above parents fs gs → Down done above xs fs parents c → Down done above ys gs parents c
down_reach {done} {above} {xs} {fs} {parents} {c} ys gs more further p = record {
  quiet = p.quiet;
  fed = λ j parent at. reaches_trans done (c.feeds j) (comes_in above (fs j) c.added parent) (comes_in above (gs j) c.added parent) (p.fed j parent at) (reaches_comes_in done above (fs j) (gs j) c.added parent (further j parent at));
  links = λ j parent at. reaches_trans done (c.grown j) (comes above (xs j) c.added parent) (comes above (ys j) c.added parent) (p.links j parent at) (reaches_comes done above (xs j) (ys j) c.added parent (more j parent at));
}

down_weaker : {above : Option ℕ} {xs : ℕ → List Item} {fs : ℕ → List (List Item)} {parents : List (Option ℕ)} {c : Change} (done : Bool) → Down true above xs fs parents c → Down done above xs fs parents c
down_weaker {above} {xs} {fs} {parents} {c} done p = record {
  quiet = p.quiet;
  links = λ j parent at. reaches_weaker done (c.grown j) (comes above (xs j) c.added parent) (p.links j parent at);
  fed = λ j parent at. reaches_weaker done (c.feeds j) (comes_in above (fs j) c.added parent) (p.fed j parent at);
}

into_weaker : {i : ℕ} {xs : List Item} {parents : List (Option ℕ)} {c : Change} (done : Bool) → Into true i xs parents c → Into done i xs parents c
into_weaker {i} {xs} {parents} {c} done p = record {
  quiet = p.quiet;
  here = reaches_weaker done (c.grown i) xs p.here;
  links = λ j parent at other. reaches_weaker done (c.grown j) (from_parent c.added parent) (p.links j parent at other);
  fed = λ j parent at other. reaches_weaker done (c.feeds j) (alone (from_parent c.added parent)) (p.fed j parent at other);
}

pub took_then : (old mid new : (ℕ → List Mark) → Type 0) (c d : ℕ → List Mark) → Took old mid c → Took mid new d → Took old new (λ j. c j ++ d j)
took_then old mid new c d p q = λ before after had is.
    q (λ j. before j ++ c j) after (p before (λ j. before j ++ c j) had (λ j. refl)) (λ j. is j ∙ sym (append_assoc (before j) (c j) (d j)))

-- what was taken behind other marks has some where it was stopped
pub some_then : {done : Bool} (c d : Change) → SomeMark done d → SomeMark done (joined c d)
some_then c d some stopped = let s = some stopped in (s.0, some_behind (c.marks s.0) (d.marks s.0) s.1)

module _ {done : Bool} {by : Definitions} {before mid after : ℕ → List Item → Type 0} {parents : List (Option ℕ)} {t0 t1 t2 : (ℕ → List Mark) → Type 0} where
  abbrev pub hands_then : {above : Option ℕ} {xs ys : ℕ → List Item} {fs gs : ℕ → List (List Item)} → Hands true by before mid parents t0 t1 above xs fs → Hands done by mid after parents t1 t2 above ys gs
      → Hands done by before after parents t0 t2 above (λ j. xs j ++ ys j) (λ j. fs j ++ gs j)
  hands_then p q = record {
    change = joined p.change q.change;
    each = λ j. passes_then (p.each j) (q.each j);
    handed = λ j. handed_then (by.whole j) (by.near j) (p.each j) (p.handed j) (q.handed j);
    down = down_then p.down q.down;
    unmarked = λ j low. nothing_more (p.unmarked j low) (q.unmarked j low);
    some = some_then p.change q.change q.some;
    took = took_then t0 t1 t2 p.change.marks q.change.marks p.took q.took;
  }

  pub consumes_then : {i : ℕ} {xs ys : List Item} → Consumes true by before mid parents t0 t1 i xs → Consumes done by mid after parents t1 t2 i ys → Consumes done by before after parents t0 t2 i (xs ++ ys)
  consumes_then {i} p q = record {
    change = joined p.change q.change;
    each = λ j. passes_then (p.each j) (q.each j);
    handed = λ j other. handed_then (by.whole j) (by.near j) (p.each j) (p.handed j other) (q.handed j other);
    own =
        subst (λ (l : List Mark). Reaches done (p.change.marks i ++ q.change.marks i) l) (sym (marks-append (p.change.added i) (q.change.added i)))
        (subst (λ (l : List Mark). Reaches done (p.change.marks i ++ q.change.marks i) (l ++ marks_of (q.change.added i))) p.own (reaches-append done (p.change.marks i) (q.change.marks i) (marks_of (q.change.added i)) q.own));
    into = into_then p.into q.into;
    unmarked = λ j low. nothing_more (p.unmarked j low) (q.unmarked j low);
    some = some_then p.change q.change q.some;
    took = took_then t0 t1 t2 p.change.marks q.change.marks p.took q.took;
  }

  pub gives_then : {i : ℕ} {xs ys : List Out} → Gives true by before mid parents t0 t1 i xs → Gives done by mid after parents t1 t2 i ys → Gives done by before after parents t0 t2 i (xs ++ ys)
  gives_then {i} {xs} {ys} p q = record {
    change = joined p.change q.change;
    others = λ j other. passes_then (p.others j other) (q.others j other);
    handed = λ j other. handed_then (by.whole j) (by.near j) (p.others j other) (p.handed j other) (q.handed j other);
    down = down_reach (λ _. packets_of (xs ++ ys)) (λ _. alone (packets_of (xs ++ ys)))
        (λ j parent at same. reaches_weaker done (packets_of xs ++ packets_of ys) (packets_of (xs ++ ys)) (sym (packets-append xs ys)))
        (λ j parent at same. reaches_weaker done (alone (packets_of xs) ++ alone (packets_of ys)) (alone (packets_of (xs ++ ys))) (sym (ap alone (packets-append xs ys) ∙ alone-append (packets_of xs) (packets_of ys)))) (down_then p.down q.down);
    own =
        subst (λ (l : List Mark). Reaches done (p.change.marks i ++ q.change.marks i) l) (sym (marks-append xs ys))
        (subst (λ (l : List Mark). Reaches done (p.change.marks i ++ q.change.marks i) (l ++ marks_of ys)) p.own (reaches-append done (p.change.marks i) (q.change.marks i) (marks_of ys) q.own));
    stays = λ is input b. q.stays is input (p.stays refl input b);
    unmarked = λ j low. nothing_more (p.unmarked j low) (q.unmarked j low);
    some = some_then p.change q.change q.some;
    took = took_then t0 t1 t2 p.change.marks q.change.marks p.took q.took;
  }

module _ {by : Definitions} {before after : ℕ → List Item → Type 0} {parents : List (Option ℕ)} {old new : (ℕ → List Mark) → Type 0} where
  -- where a mark was taken it may have stopped at it
  pub gives_weaker : {i : ℕ} {xs : List Out} (done : Bool) (p : Gives true by before after parents old new i xs) → (j : ℕ) × (p.change.marks j ≢ []) → Gives done by before after parents old new i xs
  gives_weaker {i} {xs} done p some = record {
    change = p.change;
    others = λ j other. passes_weaker done (p.others j other);
    handed = λ j other. handed_weaker (by.whole j) (by.near j) done (p.handed j other);
    down = down_weaker done p.down;
    own = reaches_weaker done (p.change.marks i) (marks_of xs) p.own;
    stays = λ is. p.stays refl;
    unmarked = p.unmarked;
    some = λ stopped. some;
    took = p.took;
  }

module _ {done : Bool} {by : Definitions} {before after : ℕ → List Item → Type 0} {parents : List (Option ℕ)} {old new : (ℕ → List Mark) → Type 0} where
  abbrev pub hands_reach : {above : Option ℕ} {xs : ℕ → List Item} {fs : ℕ → List (List Item)} (ys : ℕ → List Item) (gs : ℕ → List (List Item)) → Fronts done above parents xs ys → Fronts done above parents fs gs
      → Hands done by before after parents old new above xs fs → Hands done by before after parents old new above ys gs
  hands_reach ys gs more further p = record { change = p.change; each = p.each; handed = p.handed; down = down_reach ys gs more further p.down; unmarked = p.unmarked; some = p.some; took = p.took }

  pub consumes_reach : {i : ℕ} {xs : List Item} (ys : List Item) → Reaches done xs ys → Consumes done by before after parents old new i xs → Consumes done by before after parents old new i ys
  consumes_reach {i} {xs} ys more p = record {
    change = p.change;
    each = p.each;
    handed = p.handed;
    own = p.own;
    into = record { quiet = p.into.quiet; here = reaches_trans done (p.change.grown i) xs ys p.into.here more; links = p.into.links; fed = p.into.fed };
    unmarked = p.unmarked;
    some = p.some;
    took = p.took;
  }

  pub gives_reach : {i : ℕ} {xs : List Out} (ys : List Out) → Reaches done xs ys → Gives done by before after parents old new i xs → Gives done by before after parents old new i ys
  gives_reach {i} {xs} ys more p = record {
    change = p.change;
    others = p.others;
    handed = p.handed;
    down = down_reach (λ _. packets_of ys) (λ _. alone (packets_of ys)) (λ j parent at same. reaches_packets done xs ys more) (λ j parent at same. reaches_alone done (packets_of xs) (packets_of ys) (reaches_packets done xs ys more)) p.down;
    own = reaches_trans done (p.change.marks i) (marks_of xs) (marks_of ys) p.own (reaches_marks done xs ys more);
    stays = p.stays;
    unmarked = p.unmarked;
    some = p.some;
    took = p.took;
  }

  -- outputs with the same packets and the same marks
  pub gives_as : {i : ℕ} {xs : List Out} (ys : List Out) → packets_of xs ≡ packets_of ys → marks_of xs ≡ marks_of ys → Gives done by before after parents old new i xs → Gives done by before after parents old new i ys
  gives_as {i} {xs} ys packets marks p = record {
    change = p.change;
    others = p.others;
    handed = p.handed;
    down = down_reach (λ _. packets_of ys) (λ _. alone (packets_of ys)) (λ j parent at same. reaches_weaker done (packets_of xs) (packets_of ys) packets) (λ j parent at same. reaches_weaker done (alone (packets_of xs)) (alone (packets_of ys)) (ap alone packets)) p.down;
    own = subst (λ (l : List Mark). Reaches done (p.change.marks i) l) marks p.own;
    stays = p.stays;
    unmarked = p.unmarked;
    some = p.some;
    took = p.took;
  }

  -- what one instance that stands on `above` was given
  pub feeds_are_hands : {i : ℕ} {items : List Item} (above parent : Option ℕ) → IsForest parents → slice_get parents i ≡ Some parent → same_place parent above ≡ true
      → Feeds done by before after parents old new i items → Hands done by before after parents old new above (only i items) (only i (items ∷ []))
  feeds_are_hands {i} {items} above parent forest at on p =
      let here : slice_get parents i ≡ Some above = at ∙ ap (λ (o : Option ℕ). Some o) (same_places parent above on) in
      record {
        change = p.change;
        each = p.each;
        handed = p.handed;
        down = record { quiet = λ j low. p.into.quiet j (behind above here j low); links = λ j from is. links above here j from is; fed = λ j from is. fed above here j from is };
        unmarked = λ j low. p.unmarked j (behind above here j low);
        some = p.some;
        took = p.took;
      }
    where
      behind : (above : Option ℕ) → slice_get parents i ≡ Some above → (j : ℕ) → j < first_on above → j < i
      behind None here j low = absurd (omega (arith, low))
      behind (Some k) here j low = let less = forest i k here in omega (arith, low, less)

      none_from : (above : Option ℕ) → slice_get parents i ≡ Some above → from_parent p.change.added above ≡ []
      none_from None here = refl
      none_from (Some k) here = ap packets_of (p.into.quiet k (forest i k here)).1

      some_eq : (a b : Option ℕ) → Some a ≡ Some b → a ≡ b
      some_eq a b e = cc

      not_both : (b : Bool) → b ≡ true → b ≡ false → ⊥
      not_both b yes_is no_is = absurd cc

      reflects : (a b : Option ℕ) → a ≡ b → same_place a b ≡ true
      reflects None None e = refl
      reflects None (Some b) e = absurd cc
      reflects (Some a) None e = absurd cc
      reflects (Some a) (Some b) e = let same : a ≡ b = cc in grind (arith, nat_tests)

      -- only instance i stands on `above`, of those that were given anything
      by_place : {X : Type 0} (given : ℕ → List X) (own : List X) (above : Option ℕ) → slice_get parents i ≡ Some above → Reaches done (given i) own
          → (j : ℕ) (from : Option ℕ) → slice_get parents j ≡ Some from → (others : List X) → (from ≡ above → others ≡ []) → (j ≢ i → Reaches done (given j) others)
          → Reaches done (given j) (if same_place from above then only i own j else others)
      by_place {X} given own above here mine j from is others none theirs = way (same_place from above) refl
        where
          at_i : j ≡ i → Reaches done (given j) (only i own j)
          at_i same = subst (λ (k : ℕ). Reaches done (given k) (only i own k)) (sym same) (subst (λ (l : List X). Reaches done (given i) l) (sym (only_here i own)) mine)

          way : (t : Bool) → same_place from above ≡ t → Reaches done (given j) (if t then only i own j else others)
          way true e = elim (cases_eq j i) [
            | inl same ↦ at_i same
            | inr other ↦ subst (λ (l : List X). Reaches done (given j) l) (none (same_places from above e) ∙ sym (only_elsewhere i own j other)) (theirs other)
          ]
          way false e = elim (cases_eq j i) [
            | inl same ↦
                let from_is : from ≡ above = some_eq from above (sym is ∙ ap (slice_get parents) same ∙ here) in
                absurd (not_both (same_place from above) (reflects from above from_is) e)
            | inr other ↦ theirs other
          ]

      links : (above : Option ℕ) → slice_get parents i ≡ Some above → (j : ℕ) (from : Option ℕ) → slice_get parents j ≡ Some from → Reaches done (p.change.grown j) (comes above (only i items j) p.change.added from)
      links above here j from is =
          by_place p.change.grown items above here p.into.here j from is (from_parent p.change.added from)
          (λ same. ap (from_parent p.change.added) same ∙ none_from above here) (p.into.links j from is)

      fed : (above : Option ℕ) → slice_get parents i ≡ Some above → (j : ℕ) (from : Option ℕ) → slice_get parents j ≡ Some from → Reaches done (p.change.feeds j) (comes_in above (only i (items ∷ []) j) p.change.added from)
      fed above here j from is =
          by_place p.change.feeds (items ∷ []) above here p.one j from is (alone (from_parent p.change.added from))
          (λ same. ap alone (ap (from_parent p.change.added) same ∙ none_from above here)) (p.into.fed j from is)

-- marks alone
abbrev marks_alone : (ℕ → List Mark) → Change
marks_alone marks = record { grown = λ j. []; feeds = λ j. []; added = λ j. []; marks = marks }

from_nothing : (parent : Option ℕ) → [] ≡ from_parent (λ j. []) parent
from_nothing None = refl
from_nothing (Some p) = refl

comes_nothing : (above parent : Option ℕ) → [] ≡ comes above [] (λ j. []) parent
comes_nothing above parent = by (same_place parent above)
  where
    by : (t : Bool) → [] ≡ (if t then [] else from_parent (λ j. []) parent)
    by true = refl
    by false = from_nothing parent

fed_nothing : (above parent : Option ℕ) → [] ≡ comes_in above [] (λ j. []) parent
fed_nothing above parent = by (same_place parent above)
  where
    by : (t : Bool) → [] ≡ (if t then [] else alone (from_parent (λ j. []) parent))
    by true = refl
    by false = ap alone (from_nothing parent)

down_nothing : (above : Option ℕ) (parents : List (Option ℕ)) (marks : ℕ → List Mark) → Down true above (λ j. []) (λ j. []) parents (marks_alone marks)
down_nothing above parents marks = record { quiet = λ j low. (refl, refl); links = λ j parent at. comes_nothing above parent; fed = λ j parent at. fed_nothing above parent }

into_nothing : (i : ℕ) (parents : List (Option ℕ)) (marks : ℕ → List Mark) → Into true i [] parents (marks_alone marks)
into_nothing i parents marks = record { quiet = λ j low. (refl, refl); here = refl; links = λ j parent at other. from_nothing parent; fed = λ j parent at other. ap alone (from_nothing parent) }

pub took_nothing : (old : (ℕ → List Mark) → Type 0) → Took old old (λ j. [])
took_nothing old = λ before after had is. let back : (j : ℕ) → before j ≡ after j = λ j. sym (is j ∙ append-nil (before j)) in subst old (λ i j. back j i) had

module _ (by : Definitions) (now : ℕ → List Item → Type 0) (parents : List (Option ℕ)) (old : (ℕ → List Mark) → Type 0) where
  nothing_at : (j : ℕ) → Passes true (by.whole j) (now j) (now j) [] [] []
  nothing_at j = passes_nothing (by.whole j) (now j) (now j) (λ input b. b)

  pub hands_nothing : (above : Option ℕ) → Hands true by now now parents old old above (λ j. []) (λ j. [])
  hands_nothing above = record {
    change = marks_alone (λ j. []);
    each = nothing_at;
    handed = λ j. handed_nothing (by.whole j) (by.near j);
    down = down_nothing above parents (λ j. []);
    unmarked = λ j low. refl;
    some = λ stopped. absurd cc;
    took = took_nothing old;
  }

  pub consumes_nothing : (i : ℕ) → Consumes true by now now parents old old i []
  consumes_nothing i = record {
    change = marks_alone (λ j. []);
    each = nothing_at;
    handed = λ j other. handed_nothing (by.whole j) (by.near j);
    own = refl;
    into = into_nothing i parents (λ j. []);
    unmarked = λ j low. refl;
    some = λ stopped. absurd cc;
    took = took_nothing old;
  }

  pub gives_nothing : (i : ℕ) → Gives true by now now parents old old i []
  gives_nothing i = record {
    change = marks_alone (λ j. []);
    others = λ j other. nothing_at j;
    handed = λ j other. handed_nothing (by.whole j) (by.near j);
    down = down_nothing (Some i) parents (λ j. []);
    own = refl;
    stays = λ is input b. b;
    unmarked = λ j low. refl;
    some = λ stopped. absurd cc;
    took = took_nothing old;
  }

  -- notes and pieces of instance i, which it has put out, and packets only where nothing stands on it
  pub gives_marks : {done : Bool} {new : (ℕ → List Mark) → Type 0} (i : ℕ) (outs : List Out) → TookFront done old new i (marks_of outs) → ((j : ℕ) → slice_get parents j ≡ Some (Some i) → packets_of outs ≡ []) → Gives done by now now parents old new i outs
  gives_marks {done} {new} i outs front no_packet = record {
    change = marks_alone (only i front.taken);
    others = λ j other. passes_weaker done (subst (λ (l : List Mark). Passes true (by.whole j) (now j) (now j) [] [] l) (sym (only_elsewhere i front.taken j other)) (nothing_at j));
    handed = λ j other. handed_weaker (by.whole j) (by.near j) done (subst (λ (l : List Mark). Handed true (by.whole j) (by.near j) (now j) [] [] l) (sym (only_elsewhere i front.taken j other)) (handed_nothing (by.whole j) (by.near j)));
    down = down_weaker done (down_reach (λ _. packets_of outs) (λ _. alone (packets_of outs)) (λ j parent at same. sym (none_at j parent at same)) (λ j parent at same. sym (ap alone (none_at j parent at same))) (down_nothing (Some i) parents (only i front.taken)));
    own = subst (λ (l : List Mark). Reaches done l (marks_of outs)) (sym (only_here i front.taken)) front.reaches;
    stays = λ is input b. b;
    unmarked = λ j low. let other : j ≢ i = omega (arith, low) in only_elsewhere i front.taken j other;
    some = λ stopped. (i, subst (λ (l : List Mark). l ≢ []) (sym (only_here i front.taken)) (front.some stopped));
    took = front.took;
  }
    where
      none_at : (j : ℕ) (parent : Option ℕ) → slice_get parents j ≡ Some parent → same_place parent (Some i) ≡ true → packets_of outs ≡ []
      none_at j parent at same = no_packet j (at ∙ ap (λ (p : Option ℕ). Some p) (same_places parent (Some i) same))

-- what was consumed, and a floor behind it
module _ {by : Definitions} {before now : ℕ → List Item → Type 0} {parents : List (Option ℕ)} {t0 t1 : (ℕ → List Mark) → Type 0} {i : ℕ} {items : List Item} (done : Bool) (t2 : (ℕ → List Mark) → Type 0) (floor : ℕ)
    (p : Consumes true by before now parents t0 t1 i items) (took : Took t1 t2 (only i (FloorMark floor ∷ []))) (holds : (input : List Item) → now i input → IsFloor (by.whole i) input floor)
    (low : (input : List Item) → now i input → by.near i input ≤ floor) where
  abbrev marked : ℕ → List Mark
  marked = only i (FloorMark floor ∷ [])

  floor_passes : (j : ℕ) → Passes true (by.whole j) (now j) (now j) [] [] (marked j)
  floor_passes j = elim (cases_eq j i) [
    | inl same ↦ subst (λ (k : ℕ). Passes true (by.whole k) (now k) (now k) [] [] (marked k)) (sym same) (subst (λ (l : List Mark). Passes true (by.whole i) (now i) (now i) [] [] l) (sym (only_here i (FloorMark floor ∷ []))) here)
    | inr other ↦ subst (λ (l : List Mark). Passes true (by.whole j) (now j) (now j) [] [] l) (sym (only_elsewhere i (FloorMark floor ∷ []) j other)) (passes_nothing (by.whole j) (now j) (now j) (λ input b. b))
  ]
    where
      none : Passes true (by.whole i) (now i) (now i) [] [] []
      none = passes_nothing (by.whole i) (now i) (now i) (λ input b. b)

      here : Passes true (by.whole i) (now i) (now i) [] [] (FloorMark floor ∷ [])
      here = record {
        consumes = none.consumes;
        gives = none.gives;
        shows = refl;
        no_end = tt;
        floors = λ input more rest b is. (marks_from floor rest (holds input b more rest (ap (λ (l : List Item). by.whole i (l ++ more)) (sym (append-nil input)) ∙ is)), tt);
      }

  abbrev floored_change : Change
  floored_change = record {
    grown = λ j. p.change.grown j ++ [];
    feeds = at_place i (items ∷ []) (λ j. p.change.feeds j ++ []);
    added = λ j. p.change.added j ++ [];
    marks = λ j. p.change.marks j ++ marked j;
  }

  floor_handed : (j : ℕ) → Handed true (by.whole j) (by.near j) (before j) (p.change.grown j ++ []) (floored_change.feeds j) (p.change.marks j ++ marked j)
  floor_handed j = elim (cases_eq j i) [
    | inl same ↦
        subst (λ (k : ℕ). Handed true (by.whole k) (by.near k) (before k) (p.change.grown k ++ []) (floored_change.feeds k) (p.change.marks k ++ marked k)) (sym same)
        (subst (λ (l : List (List Item)). Handed true (by.whole i) (by.near i) (before i) (p.change.grown i ++ []) l (p.change.marks i ++ marked i)) (sym (at_here i (items ∷ []) (λ j. p.change.feeds j ++ [])))
        (subst (λ (l : List Item). Handed true (by.whole i) (by.near i) (before i) l (items ∷ []) (p.change.marks i ++ marked i)) (sym (append-nil (p.change.grown i) ∙ p.into.here)) own))
    | inr other ↦
        subst (λ (l : List (List Item)). Handed true (by.whole j) (by.near j) (before j) (p.change.grown j ++ []) l (p.change.marks j ++ marked j)) (sym (at_other i (items ∷ []) (λ j. p.change.feeds j ++ []) j other))
        (subst (λ (l : List Mark). Handed true (by.whole j) (by.near j) (before j) (p.change.grown j ++ []) (p.change.feeds j ++ []) (p.change.marks j ++ l)) (sym (only_elsewhere i (FloorMark floor ∷ []) j other))
        (handed_then (by.whole j) (by.near j) (p.each j) (p.handed j other) (handed_nothing (by.whole j) (by.near j))))
  ]
    where
      own : Handed true (by.whole i) (by.near i) (before i) items (items ∷ []) (p.change.marks i ++ marked i)
      own =
          handed_whole (by.whole i) (by.near i) items (p.change.added i) floor (p.change.marks i ++ marked i)
          (λ input b. subst (λ (l : List Item). by.whole i (input ++ l) ≡ by.whole i input ++ p.change.added i) p.into.here ((p.each i).gives input b))
          (λ input b. subst (λ (l : List Item). by.near i (input ++ l) ≤ floor) p.into.here (low (input ++ p.change.grown i) ((p.each i).consumes refl input b)))
          ((λ k. p.own k ++ only_here i (FloorMark floor ∷ []) k))

  pub floored : Feeds done by before now parents t0 t2 i items
  floored = record {
    change = floored_change;
    each = λ j. passes_weaker done (passes_then (p.each j) (floor_passes j));
    handed = λ j. handed_weaker (by.whole j) (by.near j) done (floor_handed j);
    into = record {
      quiet = λ j less. let q = p.into.quiet j less in (append-nil (p.change.grown j) ∙ q.0, append-nil (p.change.added j) ∙ q.1);
      here = reaches_weaker done (p.change.grown i ++ []) items (append-nil (p.change.grown i) ∙ p.into.here);
      links = λ j parent at other. reaches_weaker done (p.change.grown j ++ []) (from_parent (λ k. p.change.added k ++ []) parent) (append-nil (p.change.grown j) ∙ p.into.links j parent at other ∙ same_from parent);
      fed = λ j parent at other.
          reaches_weaker done (floored_change.feeds j) (alone (from_parent (λ k. p.change.added k ++ []) parent))
          (at_other i (items ∷ []) (λ j. p.change.feeds j ++ []) j other ∙ append-nil (p.change.feeds j) ∙ p.into.fed j parent at other ∙ ap alone (same_from parent));
    };
    one = reaches_weaker done (floored_change.feeds i) (items ∷ []) (at_here i (items ∷ []) (λ j. p.change.feeds j ++ []));
    unmarked = λ j less. let other : j ≢ i = omega (arith, less) in nothing_more (p.unmarked j less) (only_elsewhere i (FloorMark floor ∷ []) j other);
    some = λ stopped. (i, some_behind (p.change.marks i) (marked i) some);
    took = took_then t0 t1 t2 p.change.marks marked p.took took;
  }
    where
      same_from : (parent : Option ℕ) → from_parent p.change.added parent ≡ from_parent (λ k. p.change.added k ++ []) parent
      same_from None = refl
      same_from (Some k) = ap packets_of (sym (append-nil (p.change.added k)))

      one : (x : Mark) → x ∷ [] ≢ []
      one x e = cc

      some : marked i ≢ []
      some = subst (λ (l : List Mark). l ≢ []) (sym (only_here i (FloorMark floor ∷ []))) (one (FloorMark floor))

-- where it was stopped before the floor
module _ {by : Definitions} {before after : ℕ → List Item → Type 0} {parents : List (Option ℕ)} {old new : (ℕ → List Mark) → Type 0} {i : ℕ} {items : List Item} (keeps : KeepsFront (by.whole i))
    (p : Consumes false by before after parents old new i items) where
  abbrev cut_change : Change
  cut_change = record { grown = p.change.grown; feeds = at_place i (items ∷ []) p.change.feeds; added = p.change.added; marks = p.change.marks }

  cut_handed : (j : ℕ) → Handed false (by.whole j) (by.near j) (before j) (p.change.grown j) (cut_change.feeds j) (p.change.marks j)
  cut_handed j = elim (cases_eq j i) [
    | inl same ↦
        subst (λ (k : ℕ). Handed false (by.whole k) (by.near k) (before k) (p.change.grown k) (cut_change.feeds k) (p.change.marks k)) (sym same)
        (subst (λ (l : List (List Item)). Handed false (by.whole i) (by.near i) (before i) (p.change.grown i) l (p.change.marks i)) (sym (at_here i (items ∷ []) p.change.feeds)) own)
    | inr other ↦
        subst (λ (l : List (List Item)). Handed false (by.whole j) (by.near j) (before j) (p.change.grown j) l (p.change.marks j)) (sym (at_other i (items ∷ []) p.change.feeds j other)) (p.handed j other)
  ]
    where
      own : Handed false (by.whole i) (by.near i) (before i) (p.change.grown i) (items ∷ []) (p.change.marks i)
      own = handed_cut (by.whole i) (by.near i) (p.change.grown i) items (p.change.added i) (p.change.marks i) keeps p.into.here ((p.each i).gives) p.own

  pub cut_off : Feeds false by before after parents old new i items
  cut_off = record {
    change = cut_change;
    each = p.each;
    handed = cut_handed;
    into = record {
      quiet = p.into.quiet;
      here = p.into.here;
      links = p.into.links;
      fed = λ j parent at other. subst (λ (l : List (List Item)). Reaches false l (alone (from_parent p.change.added parent))) (sym (at_other i (items ∷ []) p.change.feeds j other)) (p.into.fed j parent at other);
    };
    one = reaches_weaker false (cut_change.feeds i) (items ∷ []) (at_here i (items ∷ []) p.change.feeds);
    unmarked = p.unmarked;
    some = p.some;
    took = p.took;
  }

-- a packet of instance i that was handed on
module _ {done : Bool} {by : Definitions} {before after : ℕ → List Item → Type 0} {parents : List (Option ℕ)} {old new : (ℕ → List Mark) → Type 0} where
  pub gives_packet : (i : ℕ) (out : Out) {items : ℕ → List Item} {feeds : ℕ → List (List Item)} → ((j : ℕ) → items j ≡ packets_of (out ∷ [])) → ((j : ℕ) → feeds j ≡ alone (packets_of (out ∷ []))) → marks_of (out ∷ []) ≡ []
      → Hands done by before after parents old new (Some i) items feeds → Gives done by before after parents old new i (out ∷ [])
  gives_packet i out {items} {feeds} is fed_is no_mark p =
      let low : i < suc i = omega arith in
      record {
        change = p.change;
        others = λ j other. p.each j;
        handed = λ j other. p.handed j;
        down = down_reach (λ _. packets_of (out ∷ [])) (λ _. alone (packets_of (out ∷ []))) (λ j parent at same. reaches_weaker done (items j) (packets_of (out ∷ [])) (is j)) (λ j parent at same. reaches_weaker done (feeds j) (alone (packets_of (out ∷ []))) (fed_is j)) p.down;
        own = reaches_weaker done (p.change.marks i) (marks_of (out ∷ [])) (p.unmarked i low ∙ sym no_mark);
        stays = λ is input b. subst (λ (l : List Item). after i l) (append-nil input) (subst (λ (l : List Item). after i (input ++ l)) (p.down.quiet i low).0 ((p.each i).consumes is input b));
        unmarked = λ j less. p.unmarked j (omega (arith, less));
        some = p.some;
        took = p.took;
      }

-- a step, and steps over runs
pub step_moves : {i : ℕ} {whole : ℕ → List Item → List Out} {before after : ℕ → List Item → Type 0} {feed : Feed} {left : Option Feed} {outs : List Out} → (s : StepsAt i whole before after feed left outs) → MovesAt i whole before after s.here.front outs
step_moves s = record { consumes = s.here.consumes; gives = s.here.gives; others = s.others }

pub runs_move : {i : ℕ} {whole : ℕ → List Item → List Out} {before after : ℕ → List Item → Type 0} {samples : List ℕ} {rest : Option Run} {outs : List Out} → (s : StepsRunsAt i whole before after samples rest outs) → MovesAt i whole before after s.here.front outs
runs_move s = record { consumes = s.here.consumes; gives = s.here.gives; others = s.others }

-- what instance i consumed, and then its outputs
module _ {done : Bool} {by : Definitions} {before mid after : ℕ → List Item → Type 0} {parents : List (Option ℕ)} {old new : (ℕ → List Mark) → Type 0} {i : ℕ} {front : List Item} {outs : List Out}
    (forest : IsForest parents) (s : MovesAt i by.whole before mid front outs) (p : Gives done by mid after parents old new i outs) where
  abbrev c : Change
  c = p.change

  abbrev stepped_change : Change
  stepped_change = record { grown = at_place i front c.grown; feeds = c.feeds; added = at_place i outs c.added; marks = c.marks }

  here : Passes done (by.whole i) (before i) (after i) front outs (c.marks i)
  here =
      let own = shown_front done (c.marks i) outs p.own in
      record {
        consumes = λ is input b. p.stays is (input ++ front) (s.consumes input b);
        gives = s.gives;
        shows = own.0;
        no_end = own.1;
        floors = λ input more rest b is. own.2 (marks_of (outs ++ rest));
      }

  other : (j : ℕ) → j ≢ i → Passes done (by.whole j) (before j) (after j) (c.grown j) (c.added j) (c.marks j)
  other j different =
      let q = p.others j different in
      record {
        consumes = λ is input b. q.consumes is input (s.others j different input b);
        gives = λ input b. q.gives input (s.others j different input b);
        shows = q.shows;
        no_end = q.no_end;
        floors = λ input more rest b is. q.floors input more rest (s.others j different input b) is;
      }

  each : (j : ℕ) → Passes done (by.whole j) (before j) (after j) (at_place i front c.grown j) (at_place i outs c.added j) (c.marks j)
  each j = elim (cases_eq j i) [
    | inl same ↦
        subst (λ (k : ℕ). Passes done (by.whole k) (before k) (after k) (at_place i front c.grown k) (at_place i outs c.added k) (c.marks k)) (sym same)
        (subst (λ (l : List Item). Passes done (by.whole i) (before i) (after i) l (at_place i outs c.added i) (c.marks i)) (sym (at_here i front c.grown))
        (subst (λ (l : List Out). Passes done (by.whole i) (before i) (after i) front l (c.marks i)) (sym (at_here i outs c.added)) here))
    | inr different ↦
        subst (λ (l : List Item). Passes done (by.whole j) (before j) (after j) l (at_place i outs c.added j) (c.marks j)) (sym (at_other i front c.grown j different))
        (subst (λ (l : List Out). Passes done (by.whole j) (before j) (after j) (c.grown j) l (c.marks j)) (sym (at_other i outs c.added j different)) (other j different))
  ]

  -- what comes to the others: from instance i its outputs
  come : (parent : Option ℕ) → comes (Some i) (packets_of outs) c.added parent ≡ from_parent (at_place i outs c.added) parent
  come None = refl
  come (Some k) = by_test (nat_eq k i)
    where
      by_test : (t : Bool) → (if t then packets_of outs else packets_of (c.added k)) ≡ packets_of (if t then outs else c.added k)
      by_test true = refl
      by_test false = refl

  come_in : (parent : Option ℕ) → comes_in (Some i) (alone (packets_of outs)) c.added parent ≡ alone (from_parent (at_place i outs c.added) parent)
  come_in None = refl
  come_in (Some k) = by_test (nat_eq k i)
    where
      by_test : (t : Bool) → (if t then alone (packets_of outs) else alone (packets_of (c.added k))) ≡ alone (packets_of (if t then outs else c.added k))
      by_test true = refl
      by_test false = refl

  pub stepped : Consumes done by before after parents old new i front
  stepped = record {
    change = stepped_change;
    each = each;
    handed = λ j different.
        let h = p.handed j different in
        subst (λ (l : List Item). Handed done (by.whole j) (by.near j) (before j) l (c.feeds j) (c.marks j)) (sym (at_other i front c.grown j different))
        (record { cut = h.cut; front = λ input b. h.front input (s.others j different input b) });
    own = subst (λ (l : List Out). Reaches done (c.marks i) (marks_of l)) (sym (at_here i outs c.added)) p.own;
    into = record {
      quiet = λ j low.
          let different : j ≢ i = omega (arith, low) in
          let q = p.down.quiet j (omega (arith, low)) in
          (at_other i front c.grown j different ∙ q.0, at_other i outs c.added j different ∙ q.1);
      here = reaches_weaker done (at_place i front c.grown i) front (at_here i front c.grown);
      links = λ j parent at different.
          subst (λ (l : List Item). Reaches done l (from_parent (at_place i outs c.added) parent)) (sym (at_other i front c.grown j different))
          (subst (λ (l : List Item). Reaches done (c.grown j) l) (come parent) (p.down.links j parent at));
      fed = λ j parent at different. subst (λ (l : List (List Item)). Reaches done (c.feeds j) l) (come_in parent) (p.down.fed j parent at);
    };
    unmarked = p.unmarked;
    some = p.some;
    took = p.took;
  }

-- places one after another
pub up_to_none : {X : Type 0} (xs : List X) (j : ℕ) → up_to 0 xs j ≡ []
up_to_none xs j = let no : nat_lt j 0 ≡ false = grind (arith, nat_tests) in ap (λ (b : Bool). if b then xs else []) no

pub up_to_next : {X : Type 0} (place : ℕ) (xs : List X) (j : ℕ) → up_to place xs j ++ only place xs j ≡ up_to (place + 1) xs j
up_to_next place xs j = elim (cases_lt j place) [
  | inl less ↦
      let now : nat_lt j place ≡ true = grind (arith, nat_tests) in
      let next : nat_lt j (place + 1) ≡ true = grind (arith, nat_tests) in
      let other : nat_eq j place ≡ false = grind (arith, nat_tests) in
      (λ i. (if now i then xs else []) ++ (if other i then xs else [])) ∙ append-nil xs ∙ sym (ap (λ (b : Bool). if b then xs else []) next)
  | inr more ↦
      let now : nat_lt j place ≡ false = grind (arith, nat_tests) in
      let same : nat_lt j (place + 1) ≡ nat_eq j place = last (cases_eq j place) more in
      (λ i. (if now i then xs else []) ++ (if nat_eq j place then xs else [])) ∙ sym (ap (λ (b : Bool). if b then xs else []) same)
]
  where
    last : (j ≡ place) ⊎ (j ≢ place) → place ≤ j → nat_lt j (place + 1) ≡ nat_eq j place
    last (inl same) more =
        let a : nat_lt j (place + 1) ≡ true = grind (arith, nat_tests) in
        let b : nat_eq j place ≡ true = grind (arith, nat_tests) in
        a ∙ sym b
    last (inr other) more =
        let a : nat_lt j (place + 1) ≡ false = grind (arith, nat_tests) in
        let b : nat_eq j place ≡ false = grind (arith, nat_tests) in
        a ∙ sym b

pub up_to_front : {X : Type 0} (place : ℕ) (xs : List X) (j : ℕ) → Reaches false (up_to place xs j) xs
up_to_front place xs j = by (nat_lt j place)
  where
    by : (t : Bool) → Reaches false (if t then xs else []) xs
    by true = reaches_all false xs
    by false = (xs, refl)

pub up_to_all : {X : Type 0} (place : ℕ) (xs : List X) (j : ℕ) → j < place → up_to place xs j ≡ xs
up_to_all place xs j less = let all : nat_lt j place ≡ true = grind (arith, nat_tests) in ap (λ (b : Bool). if b then xs else []) all

-- one more instance, and the way on from there
module _ {done : Bool} {by : Definitions} {before mid after : ℕ → List Item → Type 0} {parents : List (Option ℕ)} {t0 t1 t2 : (ℕ → List Mark) → Type 0} where
  pub hands_next : {above : Option ℕ} (place : ℕ) (xs : List Item) (fs : List (List Item)) → Hands true by before mid parents t0 t1 above (up_to place xs) (up_to place fs)
      → Hands done by mid after parents t1 t2 above (only place xs) (only place fs) → Hands done by before after parents t0 t2 above (up_to (place + 1) xs) (up_to (place + 1) fs)
  hands_next {above} place xs fs p q =
      hands_reach (up_to (place + 1) xs) (up_to (place + 1) fs)
      (λ j parent at on. reaches_weaker done (up_to place xs j ++ only place xs j) (up_to (place + 1) xs j) (up_to_next place xs j))
      (λ j parent at on. reaches_weaker done (up_to place fs j ++ only place fs j) (up_to (place + 1) fs j) (up_to_next place fs j)) (hands_then p q)

-- no instance yet
pub hands_none : (by : Definitions) (now : ℕ → List Item → Type 0) (parents : List (Option ℕ)) (old : (ℕ → List Mark) → Type 0) (above : Option ℕ) (xs : List Item) (fs : List (List Item)) → Hands true by now now parents old old above (up_to 0 xs) (up_to 0 fs)
hands_none by now parents old above xs fs = hands_reach (up_to 0 xs) (up_to 0 fs) (λ j parent at on. sym (up_to_none xs j)) (λ j parent at on. sym (up_to_none fs j)) (hands_nothing by now parents old above)

-- those before a place, where it was stopped; and all
module _ {by : Definitions} {before after : ℕ → List Item → Type 0} {parents : List (Option ℕ)} {old new : (ℕ → List Mark) → Type 0} {above : Option ℕ} (place : ℕ) (xs : List Item) (fs : List (List Item)) where
  pub hands_front : Hands false by before after parents old new above (up_to place xs) (up_to place fs) → Hands false by before after parents old new above (λ _. xs) (λ _. fs)
  hands_front p = hands_reach (λ _. xs) (λ _. fs) (λ j parent at on. up_to_front place xs j) (λ j parent at on. up_to_front place fs j) p

  pub hands_all : length parents ≤ place → Hands true by before after parents old new above (up_to place xs) (up_to place fs) → Hands true by before after parents old new above (λ _. xs) (λ _. fs)
  hands_all most p =
      hands_reach (λ _. xs) (λ _. fs)
      (λ j parent at on. let within = slice_get_within parents j parent at in up_to_all place xs j (omega (arith, within, most)))
      (λ j parent at on. let within = slice_get_within parents j parent at in up_to_all place fs j (omega (arith, within, most))) p

-- an instance that doesn't stand on `above` gets nothing
pub hands_not : {by : Definitions} {now : ℕ → List Item → Type 0} {parents : List (Option ℕ)} {old : (ℕ → List Mark) → Type 0} (above parent : Option ℕ) (i : ℕ) (xs : List Item) (fs : List (List Item)) → slice_get parents i ≡ Some parent → same_place parent above ≡ false
    → Hands true by now now parents old old above (only i xs) (only i fs)
hands_not {by} {now} {parents} {old} above parent i xs fs at off =
    hands_reach (only i xs) (only i fs) (λ j from is on. sym (only_elsewhere i xs j (other j from is on))) (λ j from is on. sym (only_elsewhere i fs j (other j from is on))) (hands_nothing by now parents old above)
  where
    apart : (b : Bool) → b ≡ true → b ≡ false → ⊥
    apart b yes_is no_is = absurd cc

    some_eq : (a b : Option ℕ) → Some a ≡ Some b → a ≡ b
    some_eq a b e = cc

    other : (j : ℕ) (from : Option ℕ) → slice_get parents j ≡ Some from → same_place from above ≡ true → j ≢ i
    other j from is on same = apart (same_place parent above) (ap (λ (o : Option ℕ). same_place o above) (some_eq parent from (sym at ∙ ap (slice_get parents) (sym same) ∙ is)) ∙ on) off
