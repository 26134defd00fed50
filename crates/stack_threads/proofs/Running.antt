-- A run of a tree of stages, from its calls.
use Rattle.std.proofs.Common.{◌≡◌, ◌<◌, ℕ, zero, suc, Bool, List, [], ◌∷◌, ◌++◌, map, length, slice_get, Option, Some, None, refl, sym, ◌∙◌, ap, subst, arith, if◌then◌else◌}
use Rattle.std.specs.Prelude.{nat_lt}
use Rattle.std.specs.List.{All, AllZip}
use Rattle.std.proofs.Math.Path.{transport}
use Rattle.std.proofs.lemmas.List.{length-map}
use Rattle.std.proofs.lemmas.Option.{same_Some, slice_get_within}
use Rattle.std.proofs.lemmas.Slice.Zip.{AllZip-long}
use Rattle.la_base.specs.declared.samples.Run.{Run}
use Rattle.la_base.specs.declared.wires.Feed.{Feed}
use Rattle.la_base.specs.declared.wires.Mark.{Mark}
use Rattle.la_base.specs.declared.wires.Mark.TheVariants.{End as EndMark}
use Rattle.decoder_core.specs.Inputs.{Item}
use Rattle.decoder_core.specs.Promises.{KeepsFront}
use Rattle.decoder_core.specs.declared.end.RunEnd.{RunEnd}
use Rattle.decoder_core.specs.declared.machine.Machine.{Ghosts as MachineGhosts}
use Rattle.tree_runs.specs.Machines.{Stand, defined}
use Rattle.tree_runs.specs.Passing.{IsForest}
use Rattle.stack_laws.specs.Keeping.{Keeps}
use Rattle.stack_laws.specs.Laws.{IsLawful}
use Rattle.stack_laws.specs.Moves.{Sending, View}
use Rattle.stack_laws.specs.Rests.{near_behind, whole_behind}
use Rattle.stack_laws.specs.Settling.{MachinesTell, SettledEndsFit}
use Rattle.stack_laws.proofs.Rests.{nothing_behind}
use Rattle.stage_ring.specs.Link.{received, rx_link, sent, tx_link}
use Rattle.stage_ring.specs.declared.ends.Rx.{Rx}
use Rattle.stage_ring.specs.declared.ends.Tx.{Tx}
use Rattle.stage_run.specs.Stages.{Links, PartsMean, all_sent, blank, is_over, links, parts_links}
use Rattle.stage_run.specs.declared.input.HalfRun.{HalfRun}
use Rattle.stage_run.specs.declared.stage.Parts.{Parts}
use Rattle.stage_run.specs.declared.stage.Stage.{Stage}
use Rattle.stage_crew.specs.Crew.{Each, Ends}
use Rattle.stage_crew.specs.Driving.{Drove, Fresh}
use Rattle.stage_crew.specs.Staged.{StageGoesOn}
use Rattle.stack_threads.specs.Runs.{RunsBy}
use Rattle.stack_threads.specs.Stages.{AllOver, HasEnds, IsOpened, Parted}
use Rattle.stack_threads.specs.Ties.{Alike, Given, Sent, SameEnds, Tied, given_by, got_on, heard_by, sent_on}
use Rattle.stack_threads.specs.Trees.{Wired, children_in, on_place, place_of}
use Rattle.stack_threads.specs.Wires.{AreWired, all_links, ends_links}
use Rattle.stack_threads.specs.declared.wiring.StageEnds.{StageEnds}
use Rattle.stack_threads.specs.declared.rooms.Rooms.{Rooms}
use Rattle.stack_threads.specs.declared.wiring.Wires.{Wires}
use Rattle.stack_threads.proofs.Opening.{zip_at}
use Rattle.stack_threads.proofs.Settling.{MadeOf, blank_keeps, tells_run}
use Rattle.stack_threads.proofs.Tying.{alike_links, get_first, wired_same}

module _ {A : Type 0} (R : A → A → Type 0) where
  each_at : (xs ys : List A) → Each R xs ys → (j : ℕ) (y : A) → slice_get ys j ≡ Some y → (x : A) × (slice_get xs j ≡ Some x) × R x y
  each_at [] [] e j y at = absurd cc
  each_at [] (b ∷ ys) e j y at = absurd e
  each_at (a ∷ xs) [] e j y at = absurd e
  each_at (a ∷ xs) (b ∷ ys) e zero y at = (a, refl, subst (λ z. R a z) (same_Some b y at) e.0)
  each_at (a ∷ xs) (b ∷ ys) e (suc j) y at = each_at xs ys e.1 j y at

  pub each_len : (xs ys : List A) → Each R xs ys → length ys ≡ length xs
  each_len [] [] e = refl
  each_len [] (b ∷ ys) e = absurd e
  each_len (a ∷ xs) [] e = absurd e
  each_len (a ∷ xs) (b ∷ ys) e = ap suc (each_len xs ys e.1)

-- new links are fresh ones
pub fresh : (feeds : List (Tx HalfRun)) (marks : List (Rx Mark)) → All (λ feed. sent feed ≡ []) feeds → All (λ mark. received mark ≡ []) marks → Fresh feeds marks
fresh feeds marks none_sent none_received = record { feeds_fresh = λ k s at. one sent feeds none_sent k s at; marks_fresh = λ k m at. one received marks none_received k m at }
  where
    one : {X Y : Type 0} (f : X → List Y) (xs : List X) → All (λ x. f x ≡ []) xs → (k : ℕ) (y : List Y) → slice_get (map f xs) k ≡ Some y → y ≡ []
    one f [] none k y at = absurd cc
    one f (x ∷ xs) none zero y at = sym (same_Some (f x) y at) ∙ none 0 x (omega arith)
    one f (x ∷ xs) none (suc k) y at = one f xs (λ i d low. none (suc i) d (omega (arith, low))) k y at

-- what was sent is the same
same_sents : {T : Type 0} (olds news : List (Tx T)) → map sent_on news ≡ map sent_on olds → map sent news ≡ map sent olds
same_sents {T} olds news same = sym (parts news) ∙ ap (map (λ (s : Sent T). s.items)) same ∙ parts olds
  where
    parts : (xs : List (Tx T)) → map (λ (s : Sent T). s.items) (map sent_on xs) ≡ map sent xs
    parts [] = refl
    parts (x ∷ xs) = ap (λ l. sent x ∷ l) (parts xs)

module _ {M S : Type 0} (m : MachineGhosts M S) where
  -- parts of which the same was sent and received have the same
  part_alike : (start : List Item) (old new : Parts M) (view : View) → Alike old new → PartsMean m start old view → PartsMean m start new view
  part_alike start old new view alike means = record {
    received = means.received ∙ sym alike.came;
    stands = subst (λ (one : M). m.consumed one (start ++ view.consumed)) (sym alike.machine) means.stands;
    children = means.children ∙ sym (by old.children.items) ∙ ap (λ (g : Given). map (λ (s : Sent Feed). all_sent s.items) g.children) (sym alike.given) ∙ by new.children.items;
    marks = means.marks ∙ ap (λ (g : Given). all_sent g.marks.items) (sym alike.given);
    closed = means.closed;
  }
    where
      by : (items : List (Tx Feed)) → map (λ (s : Sent Feed). all_sent s.items) (map sent_on items) ≡ map (λ child. all_sent (sent child)) items
      by [] = refl
      by (x ∷ items) = ap (λ (l : List (Sending Feed)). all_sent (sent x) ∷ l) (by items)

  abbrev pub RanOut : Stage M → Stage M → Type 0
  RanOut = Ends (StageGoesOn m) (λ stage. is_over stage)

  pub all_over : (xs ys : List (Stage M)) → Each RanOut xs ys → AllOver ys
  all_over [] [] e = tt
  all_over [] (b ∷ ys) e = absurd e
  all_over (a ∷ xs) [] e = absurd e
  all_over (a ∷ xs) (b ∷ ys) e = (e.0.is_over, all_over xs ys e.1)

  module _ (prefix : (one : M) → KeepsFront (m.outputs (m.setup one)))
      (machines : List M) (wires : Wires) (opened ran : List (Stage M)) (parted : List (Parts M))
      (opens : AllZip (IsOpened m) machines opened) (has : AllZip HasEnds wires.ends.items opened) (goes : Each RanOut opened ran) (takes : AllZip (Parted m) ran parted) where
    pub parted_len : length parted ≡ length machines
    parted_len = AllZip-long (Parted m) ran parted takes ∙ each_len RanOut opened ran goes ∙ AllZip-long (IsOpened m) machines opened opens

    -- the links of the parts are those that were made
    pub parted_links : map parts_links parted ≡ all_links wires
    parted_links = by_parts ran parted takes ∙ by_runs opened ran goes ∙ by_ends wires.ends.items opened has
      where
        by_parts : (xs : List (Stage M)) (ys : List (Parts M)) → AllZip (Parted m) xs ys → map parts_links ys ≡ map links xs
        by_parts [] [] e = refl
        by_parts [] (b ∷ ys) e = absurd e
        by_parts (a ∷ xs) [] e = absurd e
        by_parts (a ∷ xs) (b ∷ ys) e = λ i. e.0.same_links i ∷ by_parts xs ys e.1 i

        by_runs : (xs ys : List (Stage M)) → Each RanOut xs ys → map links ys ≡ map links xs
        by_runs [] [] e = refl
        by_runs [] (b ∷ ys) e = absurd e
        by_runs (a ∷ xs) [] e = absurd e
        by_runs (a ∷ xs) (b ∷ ys) e = λ i. e.0.goes.same_links i ∷ by_runs xs ys e.1 i

        by_ends : (xs : List StageEnds) (ys : List (Stage M)) → AllZip HasEnds xs ys → map links ys ≡ map ends_links xs
        by_ends [] [] e = refl
        by_ends [] (b ∷ ys) e = absurd e
        by_ends (a ∷ xs) [] e = absurd e
        by_ends (a ∷ xs) (b ∷ ys) e = λ i. e.0 i ∷ by_ends xs ys e.1 i

    -- a machine that was opened, ran out and was taken apart
    made_of : (machine : M) (s r : Stage M) (old new : Parts M) → IsOpened m machine s → RanOut s r → Parted m r old → Alike old new → MadeOf m machine new
    made_of machine s r old new opens goes takes alike = record {
      setup = ap m.setup alike.machine ∙ takes.setup ∙ goes.goes.setup ∙ opens.setup;
      means = λ start stands.
          let count = length (links s).children in
          let first = blank_keeps (whole_behind (m.outputs (m.setup s.machine)) start) (near_behind (λ input. m.near (m.setup s.machine) input 0) start) (nothing_behind (m.outputs (m.setup s.machine)) (prefix s.machine) start) count in
          let now = goes.goes.keeps start (blank count) (opens.means start stands) first in (
            now.0,
            part_alike start old new now.0 alike (takes.means start now.0 now.1),
            subst (λ (setup : S). Keeps (whole_behind (m.outputs setup) start) (near_behind (λ input. m.near setup input 0) start) now.0) (goes.goes.setup ∙ opens.setup) now.2,
          );
    }

    module _ (parents : List (Option ℕ)) (forest : IsForest parents) (each : length machines ≡ length parents) (rooms : Rooms) (wired : AreWired rooms parents wires)
        (parts : List (Parts M)) (alike : AllZip Alike parted parts)
        (feeds : List (Tx HalfRun)) (same_feeds : map tx_link feeds ≡ map tx_link wires.feeds.items)
        (marks : List (Rx Mark)) (same_marks : map rx_link marks ≡ map rx_link wires.marks.items)
        (tied : (j : ℕ) → j < length parents → Tied parents (map heard_by parts) (map given_by parts) (map sent_on feeds) (map got_on marks) j)
        {gave_old gave_new : List (List Run) → Type 0} {took_old took_new : (ℕ → List Mark) → Type 0} {at_end : Bool} {result : RunEnd}
        (d : Drove gave_old gave_new took_old took_new at_end result (map sent feeds) (map received marks))
        (lawful : IsLawful parents (defined m.outputs m.near (map m.setup machines))) (fit : SettledEndsFit) (tell : MachinesTell m.outputs m.near (map m.setup machines) parents) where
      all_same : map parts_links parts ≡ all_links wires
      all_same = alike_links parted parts alike ∙ parted_links

      as_many : length parts ≡ length parents
      as_many = AllZip-long Alike parted parts alike ∙ parted_len ∙ each

      from_machine : (j : ℕ) (p : Parts M) → slice_get parts j ≡ Some p → (machine : M) × (slice_get machines j ≡ Some machine) × MadeOf m machine p
      from_machine j p at =
          let old = zip_at Alike parted parts alike j p at in
          let r = zip_at (Parted m) ran parted takes j old.0 old.1 in
          let s = each_at RanOut opened ran goes j r.0 r.1 in
          let machine = zip_at (IsOpened m) machines opened opens j s.0 s.1 in
          (machine.0, machine.1, made_of machine.0 s.0 r.0 old.0 p machine.2 s.2 r.2 old.2)

      links_at : (j : ℕ) (p : Parts M) → slice_get parts j ≡ Some p → slice_get (all_links wires) j ≡ Some (parts_links p)
      links_at j p at = ap (λ (l : List Links). slice_get l j) (sym all_same) ∙ on parts j p at
        where
          on : (ps : List (Parts M)) (k : ℕ) (q : Parts M) → slice_get ps k ≡ Some q → slice_get (map parts_links ps) k ≡ Some (parts_links q)
          on [] k q is = absurd cc
          on (x ∷ ps) zero q is = ap (λ (z : Parts M). Some (parts_links z)) (same_Some x q is)
          on (x ∷ ps) (suc k) q is = on ps k q is

      served : (j : ℕ) (p : Parts M) → slice_get parts j ≡ Some p → length p.children.items ≡ on_place (Some j) parents
      served j p at = sym (length-map p.children.items tx_link) ∙ wired.serves j (parts_links p) (links_at j p at)

      some_links : (j : ℕ) → j < length parents → (l : Links) × (slice_get (all_links wires) j ≡ Some l)
      some_links j low = let l = get_first ends_links wires.ends.items j (let n = wired.wired.count in omega (arith, n, low, length-map wires.ends.items ends_links)) in l

      root_at : (j : ℕ) → slice_get parents j ≡ Some None → place_of parents j None < length feeds
      root_at j at =
          let l = some_links j (slice_get_within parents j None at) in
          let r = (wired.wired.inputs j None l.0 at l.1).0 in
          omega (arith, slice_get_within (map tx_link wires.feeds.items) (place_of parents j None) l.0.input r, ap length same_feeds, length-map feeds tx_link)

      child_at : (j p : ℕ) → slice_get parents j ≡ Some (Some p) → (above : Parts M) → slice_get parts p ≡ Some above → place_of parents j (Some p) < length above.children.items
      child_at j p at above at_p =
          let l = some_links j (slice_get_within parents j (Some p) at) in
          let r = (wired.wired.inputs j (Some p) l.0 at l.1).0 in
          let q : slice_get (map tx_link above.children.items) (place_of parents j (Some p)) ≡ Some l.0.input = ap (λ (o : Option Links). slice_get (children_in o) (place_of parents j (Some p))) (sym (links_at p above at_p)) ∙ r in
          omega (arith, slice_get_within (map tx_link above.children.items) (place_of parents j (Some p)) l.0.input q, length-map above.children.items tx_link)

      gathers : length marks ≡ length parents
      gathers = let n = wired.gathers in omega (arith, n, ap length same_marks, length-map marks rx_link)

      pub runs_by : RunsBy m.outputs m.near (map m.setup machines) parents (Stand m.consumed machines) gave_old gave_new took_old took_new at_end result
      runs_by = record {
        lists = d.lists;
        marks = λ j. d.taken j ++ (if nat_lt j d.ends then EndMark ∷ [] else []);
        gave = d.gave;
        took = d.took;
        told = λ samples stood j low.
            tells_run m machines parents forest each parts as_many from_machine served feeds marks gathers tied root_at child_at d lawful fit tell samples stood j low;
      }

-- the parts are wired as the links were made
pub wired_parts : {M : Type 0} (rooms : Rooms) (parents : List (Option ℕ)) (wires : Wires) (parted now : List (Parts M)) (feeds_ran feeds : List (Tx HalfRun)) (marks_ran marks : List (Rx Mark)) → AreWired rooms parents wires → map parts_links parted ≡ all_links wires → now ≡ parted
    → feeds ≡ feeds_ran → map tx_link feeds_ran ≡ map tx_link wires.feeds.items → marks ≡ marks_ran → map rx_link marks_ran ≡ map rx_link wires.marks.items → Wired parents (map parts_links now) (map tx_link feeds) (map rx_link marks)
wired_parts rooms parents wires parted now feeds_ran feeds marks_ran marks wired all is_now is_feeds same_feeds is_marks same_marks = wired_same (ap (map parts_links) is_now ∙ all) (ap (map tx_link) is_feeds ∙ same_feeds) (ap (map rx_link) is_marks ∙ same_marks) wired.wired

-- a driver did the same on the same ends
pub drove_same : {gave_old gave_new : List (List Run) → Type 0} {took_old took_new : (ℕ → List Mark) → Type 0} {at_end : Bool} {result : RunEnd} {s0 s1 : List (List HalfRun)} {m0 m1 : List (List Mark)}
    → s1 ≡ s0 → m1 ≡ m0 → Drove gave_old gave_new took_old took_new at_end result s0 m0 → Drove gave_old gave_new took_old took_new at_end result s1 m1
drove_same {gave_old} {gave_new} {took_old} {took_new} {at_end} {result} a b d = transport (λ i. Drove gave_old gave_new took_old took_new at_end result (sym a i) (sym b i)) d

-- the same of ends that were tied since
pub drove_tied : {gave_old gave_new : List (List Run) → Type 0} {took_old took_new : (ℕ → List Mark) → Type 0} {at_end : Bool} {result : RunEnd} (feeds_old feeds_new : List (Tx HalfRun)) (marks_old marks_new : List (Rx Mark))
    → SameEnds feeds_old feeds_new marks_old marks_new → Drove gave_old gave_new took_old took_new at_end result (map sent feeds_old) (map received marks_old)
    → Drove gave_old gave_new took_old took_new at_end result (map sent feeds_new) (map received marks_new)
drove_tied feeds_old feeds_new marks_old marks_new same d = drove_same (same_sents feeds_old feeds_new same.feeds.0) same.marks.0 d
