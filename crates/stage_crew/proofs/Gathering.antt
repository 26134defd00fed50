-- Marks that were gathered and taken.
use Rattle.std.proofs.Common.{◌≡◌, ◌≢◌, ◌<◌, ◌+◌, ℕ, Bool, true, false, not, Vec, Global, map, List, [], ◌∷◌, ◌++◌, set, length, take, drop, take-append-drop, get_or, slice_get, Some, Result, inl, inr, refl, sym, ◌∙◌, ap, subst, arith, append_assoc, if◌then◌else◌}
use Rattle.std.specs.Prelude.{nat_eq}
use Rattle.std.specs.Result.{is_ok}
use Rattle.std.proofs.lemmas.Bool.Decides.{nat_tests}
use Rattle.std.proofs.lemmas.List.{append-nil, take_more, length-set}
use Rattle.std.proofs.lemmas.Option.{slice_get_within}
use Rattle.la_base.specs.declared.wires.Mark.{Mark}
use Rattle.la_base.specs.declared.wires.Mark.TheVariants.{Note as NoteMark, Piece as PieceMark, Floor as FloorMark, End as EndMark}
use Rattle.tree_io.specs.Feeds.{TakesMark}
use Rattle.tree_io.specs.declared.feeds.MarkTake.{Ghosts as TakeGhosts}
use Rattle.tree_runs.specs.Passing.{Took, only}
use Rattle.tree_runs.specs.Reaching.{Reaches}
use Rattle.tree_runs.proofs.Lists.{reaches-append, reaches_weaker}
use Rattle.tree_runs.proofs.Joining.{took_then, took_nothing}
use Rattle.tree_runs.proofs.Running.{took_same}
use Rattle.stage_ring.specs.Link.{received}
use Rattle.stage_ring.specs.declared.ends.Rx.{Rx}
use Rattle.stage_crew.specs.Driving.{EndsWith}
use Rattle.tree_io.specs.Feeds.{real}
use Rattle.tree_io.proofs.Taking.{real-append}
use Rattle.stage_crew.specs.Gathering.{Fronts, Gathers, GathersFrom, Overs, TakesOne, TakesUntil}
use Rattle.stage_crew.specs.declared.gatherer.Gatherer.{Gatherer}
use Rattle.stage_crew.proofs.Handing.{get_set}
use Rattle.stage_crew.proofs.Taking.{takes_none, takes_one, takes_then}

only_here : {X : Type 0} (i : ℕ) (xs : List X) → only i xs i ≡ xs
only_here i xs = let same : nat_eq i i ≡ true = grind (arith, nat_tests) in ap (λ (b : Bool). if b then xs else []) same

only_elsewhere : {X : Type 0} (i : ℕ) (xs : List X) (j : ℕ) → j ≢ i → only i xs j ≡ []
only_elsewhere i xs j other = let different : nat_eq j i ≡ false = grind (arith, nat_tests) in ap (λ (b : Bool). if b then xs else []) different

only_nothing : (i j : ℕ) (xs : List Mark) → xs ≡ [] → [] ≡ only i xs j
only_nothing i j xs none = by (nat_eq j i)
  where
    by : (b : Bool) → [] ≡ (if b then xs else [])
    by true = sym none
    by false = refl

-- nothing was taken
pub took_none : (old : (ℕ → List Mark) → Type 0) (i : ℕ) → Took old old (only i [])
took_none old i = took_same old old (λ j. []) (only i []) (λ j. only_nothing i j [] refl) (took_nothing old)

-- marks more of an instance
pub took_more : (old mid new : (ℕ → List Mark) → Type 0) (i : ℕ) (xs ys zs : List Mark) → Took old mid (only i xs) → Took mid new (only i ys) → xs ++ ys ≡ zs → Took old new (only i zs)
took_more old mid new i xs ys zs p q is = took_same old new (λ j. only i xs j ++ only i ys j) (only i zs) both (took_then old mid new (only i xs) (only i ys) p q)
  where
    both : (j : ℕ) → only i xs j ++ only i ys j ≡ only i zs j
    both j = by (nat_eq j i)
      where
        by : (b : Bool) → (if b then xs else []) ++ (if b then ys else []) ≡ (if b then zs else [])
        by true = is
        by false = refl

front_of : {X : Type 0} (xs ys : List X) (zs : List X) → Reaches false xs ys → Reaches false xs (ys ++ zs)
front_of xs ys zs front = (front.0 ++ zs, sym (append_assoc xs front.0 zs) ∙ ap (λ l. l ++ zs) front.1)

-- what was gathered of one instance
module _ (stopped now : Bool) (stays : stopped ≡ true → now ≡ true) (taken : ℕ → List Mark) (olds : List (List Mark)) (i : ℕ) (old new came some : List Mark)
    (at : slice_get olds i ≡ Some old) (is : new ≡ old ++ came) (front : Reaches (not now) some (real came)) (none : stopped ≡ true → some ≡ []) where
  fronts_more : Fronts (not stopped) taken olds → Fronts (not now) (λ j. taken j ++ only i some j) (set olds i new)
  fronts_more f j marks there = elim (get_set olds i j new marks there) [
    | inl same ↦
        subst (λ (k : ℕ). Reaches (not now) (taken k ++ only i some k) (real marks)) (sym same.0)
        (subst (λ (l : List Mark). Reaches (not now) (taken i ++ l) (real marks)) (sym (only_here i some))
        (subst (λ (l : List Mark). Reaches (not now) (taken i ++ some) l) (sym (ap real (same.1 ∙ is) ∙ real-append old came))
        (by stopped now refl refl (f i old at))))
    | inr other ↦
        subst (λ (l : List Mark). Reaches (not now) (taken j ++ l) (real marks)) (sym (only_elsewhere i some j other.0))
        (subst (λ (l : List Mark). Reaches (not now) l (real marks)) (sym (append-nil (taken j))) (weaker stopped now refl refl (taken j) (real marks) (f j marks other.1)))
  ]
    where
      contra : {Z : Type 0} → true ≡ false → Z
      contra e = absurd cc

      weaker : (s n : Bool) → s ≡ stopped → n ≡ now → (xs ys : List Mark) → Reaches (not s) xs ys → Reaches (not n) xs ys
      weaker true true a b xs ys r = r
      weaker true false a b xs ys r = contra (sym (stays (sym a)) ∙ sym b)
      weaker false true a b xs ys r = reaches_weaker false xs ys r
      weaker false false a b xs ys r = r

      by : (s n : Bool) → s ≡ stopped → n ≡ now → Reaches (not s) (taken i) (real old) → Reaches (not n) (taken i ++ some) (real old ++ real came)
      by true true a b r = subst (λ (l : List Mark). Reaches false l (real old ++ real came)) (sym (ap (λ (l : List Mark). taken i ++ l) (none (sym a)) ∙ append-nil (taken i))) (front_of (taken i) (real old) (real came) r)
      by true false a b r = contra (sym (stays (sym a)) ∙ sym b)
      by false true a b r =
          subst (λ (l : List Mark). Reaches false (l ++ some) (real old ++ real came)) (sym r) (reaches-append false (real old) some (real came) (subst (λ (n : Bool). Reaches (not n) some (real came)) (sym b) front))
      by false false a b r =
          subst (λ (l : List Mark). Reaches true (l ++ some) (real old ++ real came)) (sym r) (reaches-append true (real old) some (real came) (subst (λ (n : Bool). Reaches (not n) some (real came)) (sym b) front))

-- a flag was set where the end came last
overs_more : (flags : List Bool) (olds : List (List Mark)) (i : ℕ) (old new came : List Mark) (over : Bool) → new ≡ old ++ came → (over ≡ true → EndsWith EndMark came) → Overs flags olds → Overs (set flags i over) (set olds i new)
overs_more flags olds i old new came over is ends o j marks there flag = elim (get_set olds i j new marks there) [
  | inl same ↦ elim (get_set flags i j over true flag) [
    | inl set_here ↦ let e = ends (sym set_here.1) in (old ++ e.0, same.1 ∙ is ∙ ap (λ (l : List Mark). old ++ l) e.1 ∙ sym (append_assoc old e.0 (EndMark ∷ [])))
    | inr elsewhere ↦ absurd (elsewhere.0 same.0)
  ]
  | inr other ↦ elim (get_set flags i j over true flag) [
    | inl set_here ↦ absurd (other.0 set_here.0)
    | inr elsewhere ↦ o j marks other.1 elsewhere.1
  ]
]

-- a mark was taken
pub taken_one : (old new : (ℕ → List Mark) → Type 0) (i : ℕ) (mark : Mark) → TakesMark old new i mark → Took old new (only i (mark ∷ []))
taken_one old new i mark takes before after had is =
    takes before after had (record {
      here = is i ∙ ap (λ (l : List Mark). before i ++ l) (only_here i (mark ∷ []));
      others = λ j other. is j ∙ ap (λ (l : List Mark). before j ++ l) (only_elsewhere i (mark ∷ []) j other) ∙ append-nil (before j);
    })

-- a front of marks was taken, up to the one at which it was stopped
module _ {A O : Type 0} (g : TakeGhosts A O) where
  pub gathers_none : (now : A) (state : Gatherer) (gathered : List (List Mark)) → Gathers g now now state state gathered gathered
  gathers_none now state gathered = record {
    change = λ j. [];
    took = took_nothing (g.took now);
    fronts = λ taken f j marks there. subst (λ (l : List Mark). Reaches (not state.stopped) l (real marks)) (sym (append-nil (taken j))) (f j marks there);
    overs = λ o. o;
    count = refl;
    others = λ j more. refl;
    takes = takes_none g state.stopped now;
  }

  -- what takes the marks was told of a pause
  pub gathers_paused : {R E : Type 0} {old new : A} (s t : Gatherer) (result : Result R E) (gathered : List (List Mark)) → s.stopped ≡ false → t.stopped ≡ not (is_ok result) → t.over ≡ s.over → ((marks : ℕ → List Mark) → g.took old marks → g.took new marks) → TakesOne g old new result
      → Gathers g old new s t gathered gathered
  gathers_paused {old = old} {new = new} s t result gathered going stops over paused takes = record {
    change = λ j. [];
    took = λ before after had is. paused after (took_nothing (g.took old) before after had is);
    fronts = λ taken f j marks there.
        weaker t.stopped (taken j ++ []) (real marks) (append-nil (taken j) ∙ subst (λ (b : Bool). Reaches (not b) (taken j) (real marks)) going (f j marks there));
    overs = λ o. subst (λ (flags : List Bool). Overs flags gathered) (sym over) o;
    count = refl;
    others = λ j more. refl;
    takes = subst (λ (b : Bool). TakesUntil g b t.stopped old new) (sym going) (subst (λ (b : Bool). TakesUntil g false b old new) (sym stops) (takes_one g result takes));
  }
    where
      weaker : (b : Bool) (xs ys : List Mark) → xs ≡ ys → Reaches (not b) xs ys
      weaker true xs ys is = ([], append-nil xs ∙ is)
      weaker false xs ys is = is

  pub gathers_then : {a b c : A} {s0 s1 s2 : Gatherer} {g0 g1 g2 : List (List Mark)} → Gathers g a b s0 s1 g0 g1 → Gathers g b c s1 s2 g1 g2 → Gathers g a c s0 s2 g0 g2
  gathers_then {a} {b} {c} {s2 = s2} p q = record {
    change = λ j. p.change j ++ q.change j;
    took = took_then (g.took a) (g.took b) (g.took c) p.change q.change p.took q.took;
    fronts = λ taken f j marks there. subst (λ (l : List Mark). Reaches (not s2.stopped) l (real marks)) (append_assoc (taken j) (p.change j) (q.change j)) (q.fronts (λ i. taken i ++ p.change i) (p.fronts taken f) j marks there);
    overs = λ o. q.overs (p.overs o);
    count = q.count ∙ p.count;
    others = λ j more. (λ i. p.others j more i ++ q.others j (omega (arith, p.count, more)) i);
    takes = takes_then g p.takes q.takes;
  }

  -- marks of one instance
  pub gathered_one : {old_take new_take : A} (s t : Gatherer) (stopped over : Bool) (olds news : List (List Mark)) (i : ℕ) (old new came some : List Mark)
      → t.stopped ≡ stopped → t.over ≡ set s.over i over → slice_get olds i ≡ Some old → news ≡ set olds i new → new ≡ old ++ came
      → Took (g.took old_take) (g.took new_take) (only i some) → Reaches (not stopped) some (real came) → (s.stopped ≡ true → some ≡ []) → (over ≡ true → EndsWith EndMark came) → TakesUntil g s.stopped stopped old_take new_take
      → Gathers g old_take new_take s t olds news
  gathered_one {old_take} {new_take} s t stopped over olds news i old new came some stopped_is over_is at set_is is took front none ends takes = record {
    change = only i some;
    took = took;
    fronts = λ taken f.
        subst (λ (l : List (List Mark)). Fronts (not t.stopped) (λ j. taken j ++ only i some j) l) (sym set_is)
        (subst (λ (b : Bool). Fronts (not b) (λ j. taken j ++ only i some j) (set olds i new)) (sym stopped_is) (fronts_more s.stopped stopped takes.stays taken olds i old new came some at is front none f));
    overs = λ o. subst (λ (l : List (List Mark)). Overs t.over l) (sym set_is) (subst (λ (l : List Bool). Overs l (set olds i new)) (sym over_is) (overs_more s.over olds i old new came over is ends o));
    count = ap length set_is ∙ length-set olds i new;
    others = λ j more. let within = slice_get_within olds i old at in only_elsewhere i some j (λ same. absurd (omega (arith, same, within, more)));
    takes = subst (λ (b : Bool). TakesUntil g s.stopped b old_take new_take) (sym stopped_is) takes;
  }

  -- from links
  pub from_none : (now : A) (state : Gatherer) (marks : Vec (Rx Mark) Global) → GathersFrom g now now state state marks marks
  from_none now state marks = record { gathers = gathers_none now state (map received marks.items); links = refl; count = refl }

  pub from_then : {a b c : A} {s0 s1 s2 : Gatherer} {m0 m1 m2 : Vec (Rx Mark) Global} → GathersFrom g a b s0 s1 m0 m1 → GathersFrom g b c s1 s2 m1 m2 → GathersFrom g a c s0 s2 m0 m2
  from_then p q = record { gathers = gathers_then p.gathers q.gathers; links = q.links ∙ p.links; count = q.count ∙ p.count }
