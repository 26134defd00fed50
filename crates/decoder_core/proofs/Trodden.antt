-- Steps over runs: one behind another, and the walk of a driver.
use Rattle.std.proofs.Common.{◌≡◌, ◌+◌, ◌-◌, ◌^◌, ◌≤◌, ◌<◌, ◌++◌, [], ℕ, zero, suc, List, Bool, true, false, Option, None, Some, length, map, take, get_or, refl, sym, ◌∙◌, ap, subst, arith, append_assoc, length-append, not}
use Rattle.std.proofs.lemmas.List.{append-nil, length-map, map-append, nil_from_length, take_all}
use Rattle.la_base.specs.Runs.{samples_of}
use Rattle.la_base.specs.Samples.{samples}
use Rattle.la_base.specs.declared.samples.Run.{Run}
use Rattle.la_base.specs.declared.wires.Feed.TheVariants.{Run as RunFeed}
use Rattle.la_base.specs.declared.wires.Out.{Out}
use Rattle.la_base.proofs.RunLemmas.{count_more, samples_len}
use Rattle.wait_cond.specs.Waiting.{Waits, alts_of, consumed_by, rest_len, wait_from}
use Rattle.wait_cond.specs.Walks.{Walks, walk_from}
use Rattle.wait_cond.specs.declared.alt.Alt.{Alt}
use Rattle.wait_cond.specs.declared.pair.Pair.{Pair}
use Rattle.wait_cond.specs.declared.scan.Waiter.{Waiter}
use Rattle.wait_cond.specs.declared.walk.Walk.{Walk}
use Rattle.decoder_core.specs.Driving.{Drives, Passes, Steps, StepsRuns}
use Rattle.decoder_core.specs.Inputs.{Item, Sample, counted_samples, left_feed, left_items}
use Rattle.decoder_core.specs.Treading.{OnWalk, SaysAlts}
use Rattle.decoder_core.specs.Striding.{Strides}
use Rattle.decoder_core.specs.Promises.{IsQuiet}
use Rattle.decoder_core.proofs.Counting.{counted_more_samples}
use Rattle.decoder_core.proofs.Driven.{list_len, through}

pub is_false : (t : Bool) → not t ≡ true → t ≡ false
is_false true is = cc
is_false false is = refl

pub is_true : (t : Bool) → not t ≡ false → t ≡ true
is_true true is = refl
is_true false is = cc

-- the samples of some runs are at least those of the last of them
pub samples_behind : (runs : List Run) (count : ℕ) (run : Run) → run ≡ get_or runs (count - 1) run → count ≤ length runs → 0 < length (samples_of (take count runs)) → run.len ≤ length (samples_of (take count runs))
samples_behind runs zero run is within some = absurd (omega (arith, some))
samples_behind runs (suc k) run is within some =
    let one : k + 1 ≡ suc k = omega arith in
    let place : suc k - 1 ≡ k = omega arith in
    let more = count_more runs k run (omega (arith, within)) (subst (λ (n : ℕ). run ≡ get_or runs n run) place is) in
    let all = ap (λ (n : ℕ). length (samples_of (take n runs))) one in
    omega (arith, more, all)

module _ {before middle after : List Item → Type 0} {outputs : List Item → List Out} where
  -- one behind another
  pub runs_then : {xs ys : List ℕ} {rest : Option Run} {one two : List Out} → StepsRuns before middle outputs xs None one → StepsRuns middle after outputs ys rest two → StepsRuns before after outputs (xs ++ ys) rest (one ++ two)
  runs_then {xs} {ys} {rest} {one} {two} a b = record {
    front = a.front ++ b.front;
    split = map-append Sample xs ys ∙ ap (λ (l : List Item). l ++ map Sample ys) (a.split ∙ append-nil a.front) ∙ ap (λ (l : List Item). a.front ++ l) b.split
        ∙ sym (append_assoc a.front b.front _);
    consumes = λ input h. subst after (append_assoc input a.front b.front) (b.consumes (input ++ a.front) (a.consumes input h));
    gives = λ input h. ap outputs (sym (append_assoc input a.front b.front)) ∙ b.gives (input ++ a.front) (a.consumes input h) ∙ ap (λ (l : List Out). l ++ two) (a.gives input h)
        ∙ append_assoc (outputs input) one two;
  }

  -- the same behind a step over no samples
  pub runs_behind : {xs : List ℕ} {ys : List ℕ} {first rest : Option Run} {one two : List Out} → xs ≡ [] → StepsRuns before middle outputs xs first one → StepsRuns middle after outputs ys rest two → StepsRuns before after outputs ys rest two
  runs_behind {xs} {ys} {first} none a b =
      let front : a.front ≡ [] = nil_from_length a.front (omega (arith, ap (λ (l : List Item). length l) (sym a.split ∙ ap (λ (l : List ℕ). map Sample l) none), length-append a.front (left_items (left_feed first)))) in
      let goes = λ (input : List Item) (h : before input). subst middle (ap (λ (l : List Item). input ++ l) front ∙ append-nil input) (a.consumes input h) in
      record {
        front = b.front;
        split = b.split;
        consumes = λ input h. b.consumes input (goes input h);
        gives = λ input h. b.gives input (goes input h);
      }

module _ {before after : List Item → Type 0} {outputs : List Item → List Out} where
  -- what is passed, and a step
  pub passes_runs : {more : List ℕ} → Passes before after outputs more → StepsRuns before after outputs more None []
  passes_runs {more} p = record {
    front = map Sample more;
    split = sym (append-nil (map Sample more));
    consumes = λ input h. (p input h).0;
    gives = λ input h. (p input h).1 ∙ sym (append-nil (outputs input));
  }

  pub step_runs : {run : Run} {rest : Option Run} {into : List Out} → Steps before after outputs (RunFeed run) (left_feed rest) into → StepsRuns before after outputs (samples run) rest into
  step_runs s = record { front = s.front; split = s.split; consumes = s.consumes; gives = s.gives }

-- the walk of a driver is a step over the samples that it consumed
module _ {L S : Type 0} (setup : L → S) (outs : S → List ℕ → List Out) (stands : L → List ℕ → Type 0) (alts : L → List Alt) (machine new : L) (waiter later : Waiter) (asked : List Alt) (next : Walk) (more : List ℕ) (into : List Out)
    (on : (input : List Item) → Drives stands alts machine waiter input → OnWalk (outs (setup machine)) stands asked new next (counted_samples input) (counted_samples input ++ more) into)
    (ends : (input : List Item) → Drives stands alts machine waiter input → (list : List ℕ) → Walks asked next list → Waits later list) (there : wait_from later ≡ walk_from next)
    (asks : (input : List Item) → Drives stands alts machine waiter input → alts_of later ≡ alts new) where
  counted : (input : List Item) → Drives stands alts machine waiter input → counted_samples (input ++ map Sample more) ≡ counted_samples input ++ more
  counted input d =
      let o = on input d in
      let room : length more ≤ 2 ^ 60 - length (counted_samples input) = omega (arith, o.waits.count, length-append (counted_samples input) more) in
      counted_more_samples input more ∙ ap (λ (l : List ℕ). counted_samples input ++ l) (take_all (2 ^ 60 - length (counted_samples input)) more room)

  walked_on : StepsRuns (Drives stands alts machine waiter) (Drives stands alts new later) (λ input. outs (setup machine) (counted_samples input)) more None into
  walked_on = record {
    front = map Sample more;
    split = sym (append-nil (map Sample more));
    consumes = λ input d.
        let o = on input d in
        let is = sym (counted input d) in
        record {
          waits = subst (λ (l : List ℕ). Waits later l) is (ends input d (counted_samples input ++ more) o.waits);
          machine_stands = subst (λ (n : ℕ). stands new (take n (counted_samples (input ++ map Sample more)))) (sym there) (subst (λ (l : List ℕ). stands new (take (walk_from next) l)) is o.machine_stands);
          cond = asks input d;
        };
    gives = λ input d. ap (outs (setup machine)) (counted input d) ∙ (on input d).gives;
  }

module _ {L S : Type 0} (setup : L → S) (outs : S → List ℕ → List Out) (stands : L → List ℕ → Type 0) (alts : L → List Alt) (machine new : L) (waiter later : Waiter) (walk next : Walk) (more : List ℕ) (into : List Out)
    (begins : (list : List ℕ) → Waits waiter list → Walks (alts_of waiter) walk list) (from : walk_from walk ≡ wait_from waiter) (there : wait_from later ≡ walk_from next) where
  -- where it began
  walk_begins : (input : List Item) → Drives stands alts machine waiter input → Walks (alts machine) walk (counted_samples input)
  walk_begins input d = subst (λ (l : List Alt). Walks l walk (counted_samples input)) d.cond (begins (counted_samples input) d.waits)

  walk_stands : (input : List Item) → Drives stands alts machine waiter input → stands machine (take (walk_from walk) (counted_samples input))
  walk_stands input d = subst (λ (n : ℕ). stands machine (take n (counted_samples input))) (sym from) d.machine_stands

  -- by masks
  pub walk_steps : (pair : Pair) → SaysAlts pair (alts_of waiter)
      → (SaysAlts pair (alts machine) → (list : List ℕ) → Walks (alts machine) walk list → stands machine (take (walk_from walk) list) → OnWalk (outs (setup machine)) stands (alts machine) new next list (list ++ more) into)
      → ((list : List ℕ) → Walks (alts_of waiter) next list → Waits later list) → (alts_of waiter ≡ alts machine → alts_of later ≡ alts new)
      → StepsRuns (Drives stands alts machine waiter) (Drives stands alts new later) (λ input. outs (setup machine) (counted_samples input)) more None into
  walk_steps pair says treads ends asks =
      walked_on setup outs stands alts machine new waiter later (alts machine) next more into
      (λ input d. treads (subst (λ (l : List Alt). SaysAlts pair l) d.cond says) (counted_samples input) (walk_begins input d) (walk_stands input d))
      (λ input d list on. ends list (subst (λ (l : List Alt). Walks l next list) (sym d.cond) on)) there (λ input d. asks d.cond)

  -- over stops of waits for a time
  pub timed_steps : Strides (outs (setup machine)) stands alts machine new walk next [] into more → ((list : List ℕ) → Walks (alts new) next list → Waits later list) → alts_of later ≡ alts new
      → StepsRuns (Drives stands alts machine waiter) (Drives stands alts new later) (λ input. outs (setup machine) (counted_samples input)) more None into
  timed_steps strides ends asks =
      walked_on setup outs stands alts machine new waiter later (alts new) next more into
      (λ input d. strides (counted_samples input) (counted_samples input)
      (record { waits = walk_begins input d; machine_stands = walk_stands input d; gives = sym (append-nil (outs (setup machine) (counted_samples input))) }))
      (λ input d list on. ends list on) there (λ input d. asks)

-- nothing was consumed
pub rests_runs : {before : List Item → Type 0} {outputs : List Item → List Out} {samples : List ℕ} {rest : Option Run} → map Sample samples ≡ left_items (left_feed rest) → StepsRuns before before outputs samples rest []
rests_runs {before} {outputs} is = record {
  front = [];
  split = is;
  consumes = λ input h. subst before (sym (append-nil input)) h;
  gives = λ input h. ap outputs (append-nil input) ∙ sym (append-nil (outputs input));
}

-- runs over which a waiter passes
module _ {L S : Type 0} (setup : L → S) (outs : S → List ℕ → List Out) (stands : L → List ℕ → Type 0) (alts : L → List Alt)
    (quiet : (machine : L) → IsQuiet (outs (setup machine)) (stands machine) (alts machine)) (machine : L) (waiter later : Waiter) (more : List ℕ) where
  pub passes_over : ((list : List ℕ) → Waits waiter list → Waits later (list ++ more)) → consumed_by later ≡ consumed_by waiter + length more → wait_from later ≡ wait_from waiter → alts_of later ≡ alts_of waiter
      → Passes (Drives stands alts machine waiter) (Drives stands alts machine later) (λ input. outs (setup machine) (counted_samples input)) more
  passes_over waits count from same input d =
      let len = list_len setup outs stands alts quiet machine waiter input d in
      let room : length more ≤ 2 ^ 60 - length (counted_samples input) = omega (arith, len, count, later.few) in
      through setup outs stands alts quiet machine waiter input d later more (map Sample more)
      (counted_more_samples input more ∙ ap (λ (l : List ℕ). counted_samples input ++ l) (take_all (2 ^ 60 - length (counted_samples input)) more room)) (waits (counted_samples input) d.waits) from same

-- how many items are left of a run
pub left_count : (rest : Option Run) → length (left_items (left_feed rest)) ≡ rest_len rest
left_count None = refl
left_count (Some run) = length-map (samples run) Sample ∙ samples_len run
