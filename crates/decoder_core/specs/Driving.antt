-- What one step of a machine does, and what a driver stands for.
use Rattle.std.specs.Prelude.{ℕ, ◌≡◌, ◌<◌, List, [], ◌∷◌, ◌++◌, length, take, map, Option, IfSome}
use Rattle.la_base.specs.declared.samples.Run.{Run}
use Rattle.la_base.specs.declared.wires.Feed.{Feed}
use Rattle.la_base.specs.declared.wires.Out.{Out}
use Rattle.wait_cond.specs.declared.alt.Alt.{Alt}
use Rattle.wait_cond.specs.declared.scan.Waiter.{Waiter}
use Rattle.wait_cond.specs.Stops.{NoneMet}
use Rattle.wait_cond.specs.Waiting.{Waits, SameNumbers, wait_from, alts_of}
use Rattle.decoder_core.specs.Inputs.{Item, Sample, items_of, left_feed, left_items}
use Rattle.decoder_core.specs.Inputs.{counted_samples}

-- a front of the feed was consumed, which isn't empty where the feed isn't; the outputs grew by
-- those that were put out, and what is answered is the rest, which isn't empty. `before` and
-- `after` say of which inputs the machine stood and stands
pub record Steps (before after : List Item → Type 0) (outputs : List Item → List Out) (feed : Feed)
    (left : Option Feed) (into : List Out) : Type 0 where
  pub front : List Item
  pub split : items_of feed ≡ front ++ left_items left
  pub some : 0 < length (items_of feed) → 0 < length front
  pub more : IfSome left (λ rest. 0 < length (items_of rest))
  pub consumes : (input : List Item) → before input → after (input ++ front)
  pub gives : (input : List Item) → before input → outputs (input ++ front) ≡ outputs input ++ into

-- samples were consumed, but for what is left of the last run; the outputs grew by those that were
-- put out
pub record StepsRuns (before after : List Item → Type 0) (outputs : List Item → List Out)
    (samples : List ℕ) (rest : Option Run) (into : List Out) : Type 0 where
  pub front : List Item
  pub split : map Sample samples ≡ front ++ left_items (left_feed rest)
  pub consumes : (input : List Item) → before input → after (input ++ front)
  pub gives : (input : List Item) → before input → outputs (input ++ front) ≡ outputs input ++ into

-- where runs that were taken have samples, fewer are left of the last one
abbrev pub LeavesFewer : List ℕ → Option Run → Type 0
LeavesFewer samples rest =
    0 < length samples → length (left_items (left_feed rest)) < length samples

-- a step goes on to the first stop or to the end of the feed: before the last item of what was
-- consumed there is no stop, and where anything is left that item is one. `before` says of which
-- inputs the machine stood, and `sleeps` of which items behind an input none is a stop
pub record StopsFirst (before : List Item → Type 0) (sleeps : List Item → List Item → Type 0)
    (feed : Feed) (left : Option Feed) : Type 0 where
  pub front : List Item
  pub split : items_of feed ≡ front ++ left_items left
  pub none : (input earlier : List Item) (last : Item) → before input → front ≡ earlier ++ last ∷ []
      → sleeps input earlier
  pub stop : 0 < length (left_items left) → (input : List Item) → before input
      → ¬ sleeps input front

-- a step goes on at least to the first stop: where anything is left, a stop was among what was
-- consumed
pub record ReachesStop (before : List Item → Type 0) (sleeps : List Item → List Item → Type 0)
    (feed : Feed) (left : Option Feed) : Type 0 where
  pub front : List Item
  pub split : items_of feed ≡ front ++ left_items left
  pub stop : 0 < length (left_items left) → (input : List Item) → before input
      → ¬ sleeps input front

-- samples were consumed, and give nothing
abbrev pub Passes : (List Item → Type 0) → (List Item → Type 0) → (List Item → List Out) → List ℕ
    → Type 0
Passes before after outputs more =
    (input : List Item) → before input
    → after (input ++ map Sample more) × (outputs (input ++ map Sample more) ≡ outputs input)

-- a driver has consumed this input: its waiter stands for the samples that count, and its machine
-- for those up to its last stop
pub record Drives {L : Type 0} (stands : L → List ℕ → Type 0) (alts : L → List Alt) (machine : L)
    (waiter : Waiter) (input : List Item) : Type 0 where
  pub waits : Waits waiter (counted_samples input)
  pub machine_stands : stands machine (take (wait_from waiter) (counted_samples input))
  pub cond : alts_of waiter ≡ alts machine

-- behind an input that a driver has consumed, no sample of these items that counts is a stop of its
-- wait
abbrev pub Sleeps : {L : Type 0} → (L → List Alt) → L → Waiter → List Item → List Item → Type 0
Sleeps alts machine waiter input more =
    NoneMet (counted_samples (input ++ more)) (alts machine) (wait_from waiter)
    (length (counted_samples (input ++ more)))

-- two drivers hold the same: equal machines, and waiters with equal numbers and alternatives
pub record SameState {L : Type 0} (one other : L) (waiter other_waiter : Waiter) : Type 0 where
  pub machine : one ≡ other
  pub numbers : SameNumbers waiter other_waiter
  pub alts : alts_of waiter ≡ alts_of other_waiter
