-- How much is left to do before and after an act.
use Rattle.std.proofs.Common.{◌≡◌, ℕ, zero, suc, ◌+◌, ◌*◌, ◌≤◌, ◌<◌, Bool, true, false, List, [], ◌∷◌, ◌++◌, map, take, drop, length, Option, Some, None, refl, sym, ◌∙◌, ap, arith, length-append}
use Rattle.std.specs.Prelude.{IfSome}
use Rattle.std.proofs.lemmas.List.{length-map}
use Rattle.la_base.specs.Samples.{samples}
use Rattle.la_base.specs.Runs.{samples_of}
use Rattle.la_base.specs.declared.samples.Run.{Run}
use Rattle.la_base.specs.declared.wires.Feed.{Feed}
use Rattle.la_base.proofs.RunLemmas.{samples_len}
use Rattle.decoder_core.specs.Driving.{LeavesFewer}
use Rattle.decoder_core.specs.Inputs.{Item, Sample, items_of, left_feed, left_items}
use Rattle.stage_run.specs.Acts.{Working}
use Rattle.stage_run.specs.Boxes.{left_in}
use Rattle.stage_run.specs.Rows.{with_left}
use Rattle.stage_run.specs.Stages.{left_of, owed}
use Rattle.stage_run.specs.declared.stage.Stage.{Stage}

-- runs have samples
pub some_taken : (w : List Run) (n : ℕ) → 0 < length w → 0 < n → 0 < length (samples_of (take n w))
some_taken [] n some more = absurd (omega (arith, some))
some_taken (run ∷ w) zero some more = absurd (omega (arith, more))
some_taken (run ∷ w) (suc n) some more = let both = length-append (samples run) (samples_of (take n w)) in let len = samples_len run in omega (arith, both, len, run.not_empty)

-- where fewer are left, some were consumed
pub front_some : (samples : List ℕ) (rest : Option Run) (front : List Item) → map Sample samples ≡ front ++ left_items (left_feed rest) → 0 < length samples → LeavesFewer samples rest → 0 < length front
front_some samples rest front split some fewer =
    let same = ap (λ (l : List Item). length l) split in
    let len = length-map samples Sample in
    let both = length-append front (left_items (left_feed rest)) in
    let less = fewer some in
    omega (arith, same, len, both, less)

-- runs of which some were consumed
pub runs_less : (old now front : List Item) (n : ℕ) → old ≡ front ++ now → 0 < length front → length now + n < length old + n
runs_less old now front n split some = let all = ap (λ (l : List Item). length l) split in let both = length-append front now in omega (arith, all, both, some)

-- the first of some feeds, which was consumed, or a part of it
pub feeds_less : (w now : List Feed) (feed : Feed) (left : Option Feed) (front old new : List Item) → w ≡ feed ∷ drop 1 w → now ≡ with_left left (drop 1 w) → old ≡ front ++ new → items_of feed ≡ front ++ left_items left
    → (0 < length (items_of feed) → 0 < length front) → IfSome left (λ rest. 0 < length (items_of rest)) → length new + length now < length old + length w
feeds_less w now feed None front old new first is all split some more =
    let a = ap (λ (l : List Feed). length l) first in
    let b = ap (λ (l : List Feed). length l) is in
    let c = ap (λ (l : List Item). length l) all in
    let d = length-append front new in
    omega (arith, a, b, c, d)
feeds_less w now feed (Some rest) front old new first is all split some more =
    let a = ap (λ (l : List Feed). length l) first in
    let b = ap (λ (l : List Feed). length l) is in
    let c = ap (λ (l : List Item). length l) all in
    let d = length-append front new in
    let e = ap (λ (l : List Item). length l) split in
    let f = length-append front (items_of rest) in
    let g = some (omega (arith, e, f, more)) in
    omega (arith, a, b, c, d, g)

pub owed_few : (done : Bool) (n : ℕ) → owed done n ≤ n
owed_few true n = omega arith
owed_few false n = omega arith

module _ {M : Type 0} where
  -- some of what was received was consumed
  pub less_stepped : (old new : Stage M) → left_in new.inbox < left_in old.inbox → new.closed ≡ old.closed → new.floor_sent ≡ false → left_of new < left_of old
  less_stepped old new less closed told =
      let a = owed_few old.floor_sent 2 in
      let b = ap (λ (t : Bool). owed t 2) told in
      let c = ap (λ (t : Bool). owed t 1) closed in
      omega (arith, less, a, b, c)

  -- a floor was told
  pub less_told : (old new : Stage M) → new.inbox ≡ old.inbox → new.closed ≡ old.closed → old.floor_sent ≡ false → new.floor_sent ≡ true → left_of new < left_of old
  less_told old new input closed untold told =
      let a = ap left_in input in
      let b = ap (λ (t : Bool). owed t 2) untold in
      let c = ap (λ (t : Bool). owed t 2) told in
      let d = ap (λ (t : Bool). owed t 1) closed in
      omega (arith, a, b, c, d)

  -- the end was made
  pub less_closed : (old new : Stage M) → new.inbox ≡ old.inbox → new.floor_sent ≡ old.floor_sent → old.closed ≡ false → new.closed ≡ true → left_of new < left_of old
  less_closed old new input told was closed =
      let a = ap left_in input in
      let b = ap (λ (t : Bool). owed t 2) told in
      let c = ap (λ (t : Bool). owed t 1) was in
      let d = ap (λ (t : Bool). owed t 1) closed in
      omega (arith, a, b, c, d)

-- one more act
pub working_more : (worked : Bool) (first before now : ℕ) → Working worked first before → now < before → now < first
working_more true first before now had less = omega (arith, had, less)
working_more false first before now had less = omega (arith, had, less)

pub working_same : (worked : Bool) (first before now : ℕ) → Working worked first before → now ≡ before → Working worked first now
working_same true first before now had same = omega (arith, had, same)
working_same false first before now had same = same ∙ had
