-- What the feed over a capture has given.
use Rattle.std.proofs.Common.{◌≡◌, ◌≢◌, ◌≤◌, ◌+◌, ◌^◌, not, ℕ, Bool, true, false, List, [], ◌++◌, length, length-append, Option, Some, None, Result, Ok, Err, refl, sym, ◌∙◌, ap, subst, append_assoc, arith}
use Rattle.std.proofs.lemmas.List.{append-nil}
use Rattle.std.proofs.Math.Path.{transport}
use Rattle.std.proofs.KnownBytes.{Consumes-nil, Consumes-trans}
use Rattle.la_base.proofs.RunLemmas.{samples_append}
use Rattle.la_base.specs.Runs.{samples_of}
use Rattle.la_base.specs.declared.samples.Run.{Run}
use Rattle.la_io.specs.Capture.{Told}
use Rattle.la_io.specs.declared.fault.CaptureError.{CaptureError}
use Rattle.la_io.specs.declared.fault.CaptureError.TheVariants.{Fault as FaultError, Read as ReadError, NoMemory as NoMemoryError}
use Rattle.capture_any.specs.Captures.{ToldAt}
use Rattle.capture_any.specs.Listings.{Lists, ReadCause}
use Rattle.capture_any.specs.Reading.{Stands, form_of, given_by, is_open_of, pins_of}
use Rattle.la_io.specs.Reading.{CaptureCause}
use Rattle.capture_any.specs.Taking.{GaveMore, Gives, open_behind}
use Rattle.capture_any.specs.declared.capture.Capture.{Capture}
use Rattle.capture_any.specs.declared.end.ListingEnd.{ListingEnd}
use Rattle.capture_any.specs.declared.form.Form.{Form}
use Rattle.capture_any.specs.declared.end.ListingEnd.TheVariants.{Done, Read, Write, Fault, NoMemory}
use Rattle.capture_any.proofs.ListingLemmas.{Gave, IsFront, SameCapture, gave_more, gave_nothing, lists_cut, lists_done, lists_fault, lists_no_memory, lists_read, lists_write}
use Rattle.capture_any.proofs.Telling.{later_on, later_still}
use Rattle.decode_job.specs.Feeding.{Caused, GaveRuns, Given, ended}
use Rattle.decode_job.specs.declared.capture_feed.CaptureFeed.{CaptureFeed}

-- no samples were given
pub gave_no_more : (capture : Capture) (left : Option (List ℕ)) → GaveMore capture capture left left []
gave_no_more capture left = record {
  bytes = [];
  consumed = Consumes-nil left;
  answers = λ before early given at stands. (
    early,
    later_still early,
    at,
    subst (λ (l : List ℕ). Stands capture l early (given ++ [])) (sym (append-nil before)) (subst (Stands capture before early) (sym (append-nil given)) stands),
  );
}

-- samples were given behind others
pub gave_on : (old mid new : Capture) (left_old left_mid left_new : Option (List ℕ)) (some more : List ℕ) → GaveMore old mid left_old left_mid some → GaveMore mid new left_mid left_new more → GaveMore old new left_old left_new (some ++ more)
gave_on old mid new left_old left_mid left_new some more first second = record {
  bytes = first.bytes ++ second.bytes;
  consumed = Consumes-trans left_old left_mid left_new first.bytes second.bytes first.consumed second.consumed;
  answers = λ before early given at stands.
      let one = first.answers before early given at stands in
      let two = second.answers (before ++ first.bytes) one.0 (given ++ some) one.2 one.3 in (
        two.0,
        later_on early one.0 two.0 first.bytes second.bytes one.1 two.1,
        two.2,
        subst (λ (l : List ℕ). Stands new l two.0 (given ++ (some ++ more))) (append_assoc before first.bytes second.bytes) (subst (Stands new ((before ++ first.bytes) ++ second.bytes) two.0) (append_assoc given some more) two.3),
      );
}

-- an answer that ends the capture: all that its bytes settle was given
module _ (first old new : Capture) (left_first left_old left_new : Option (List ℕ)) (runs : List Run) (samples : List ℕ) (form : form_of new ≡ form_of first) (pins : pins_of new ≡ pins_of first) (gave : GaveMore first old left_first left_old samples) where
  abbrev Ends : ListingEnd → Type 0
  Ends end = (before : List ℕ) (told : Told) → ToldAt told left_first → Stands first before told [] → Lists (form_of first) (pins_of first) (λ settled. settled ≡ samples) (λ settled. settled ≡ samples) before told left_first left_new end

  same : SameCapture first new
  same = record { form = form; pins = pins }

  so_far : (before : List ℕ) (told : Told) → ToldAt told left_first → Stands first before told [] → Gave old before told left_first left_old samples
  so_far before told at stands = gave_more first old before told left_first left_first left_old [] samples (gave_nothing first before told left_first at stands) gave

  pub answer_ends : (answer : Result Bool CaptureError) (end : ListingEnd) → Gives old new left_old left_new runs answer → ended answer ≡ Some end → Ends end
  answer_ends (Ok true) end gives is before told at stands = absurd cc
  answer_ends (Ok false) end gives is before told at stands =
      let same_end : Done ≡ end = cc in
      subst (Lists (form_of first) (pins_of first) (λ settled. settled ≡ samples) (λ settled. settled ≡ samples) before told left_first left_new) same_end
      (lists_done first new same (λ settled. settled ≡ samples) (λ settled. settled ≡ samples) before told left_first left_new samples old left_old (so_far before told at stands) gives refl)
  answer_ends (Err (FaultError fault)) end gives is before told at stands =
      let same_end : Fault fault ≡ end = cc in
      subst (Lists (form_of first) (pins_of first) (λ settled. settled ≡ samples) (λ settled. settled ≡ samples) before told left_first left_new) same_end
      (lists_fault first new same (λ settled. settled ≡ samples) (λ settled. settled ≡ samples) before told left_first left_new samples old left_old (so_far before told at stands) fault gives refl)
  answer_ends (Err ReadError) end gives is before told at stands =
      let same_end : Read ≡ end = cc in
      subst (Lists (form_of first) (pins_of first) (λ settled. settled ≡ samples) (λ settled. settled ≡ samples) before told left_first left_new) same_end
      (lists_read first new same (λ settled. settled ≡ samples) (λ settled. settled ≡ samples) before told left_first left_new samples old left_old (so_far before told at stands) gives refl)
  answer_ends (Err NoMemoryError) end gives is before told at stands =
      let same_end : NoMemory ≡ end = cc in
      subst (Lists (form_of first) (pins_of first) (λ settled. settled ≡ samples) (λ settled. settled ≡ samples) before told left_first left_new) same_end
      (lists_no_memory first new same (λ settled. settled ≡ samples) (λ settled. settled ≡ samples) before told left_first left_new samples old left_old (so_far before told at stands) gives refl)

-- the cause of an answer is the cause of its end
pub answer_cause : (answer : Result Bool CaptureError) (end : ListingEnd) (before now : ℕ) → CaptureCause before now answer → ended answer ≡ Some end → ReadCause before now end × (end ≢ Write)
answer_cause (Ok true) end before now cause is = absurd cc
answer_cause (Ok false) end before now cause is = let e : Done ≡ end = cc in subst (λ (x : ListingEnd). ReadCause before now x × (x ≢ Write)) e (cause, λ no. cc)
answer_cause (Err (FaultError fault)) end before now cause is = let e : Fault fault ≡ end = cc in subst (λ (x : ListingEnd). ReadCause before now x × (x ≢ Write)) e (cause, λ no. cc)
answer_cause (Err ReadError) end before now cause is = let e : Read ≡ end = cc in subst (λ (x : ListingEnd). ReadCause before now x × (x ≢ Write)) e (cause, λ no. cc)
answer_cause (Err NoMemoryError) end before now cause is =
    let e : NoMemory ≡ end = cc in
    let least : before ≤ now = omega (arith, cause) in
    subst (λ (x : ListingEnd). ReadCause before now x × (x ≢ Write)) e (least, λ no. cc)

-- an answer that has no end gives more
pub answer_more : (answer : Result Bool CaptureError) → ended answer ≡ None → answer ≡ Ok true
answer_more (Ok true) is = refl
answer_more (Ok false) is = absurd cc
answer_more (Err (FaultError fault)) is = absurd cc
answer_more (Err ReadError) is = absurd cc
answer_more (Err NoMemoryError) is = absurd cc

-- and one that has an end closes the capture
pub answer_closes : (answer : Result Bool CaptureError) (end : ListingEnd) → ended answer ≡ Some end → open_behind answer ≡ false
answer_closes (Ok true) end is = absurd cc
answer_closes (Ok false) end is = refl
answer_closes (Err error) end is = refl

-- a feed that has given nothing
pub feed_starts : {S : Type 0} (left : S → Option (List ℕ)) (faults : S → ℕ) (feed : CaptureFeed S) → is_open_of feed.capture.now ≡ true → feed.source.ghost_name ≡ feed.first_source.value.ghost_name
    → feed.first_capture.value.now ≡ feed.capture.now → feed.first_source.value.now ≡ feed.source.now → GaveRuns left faults feed []
feed_starts {S} left faults feed is_open same_source capture source = record {
  same_source = same_source;
  form = sym (ap form_of capture);
  pins = sym (ap pins_of capture);
  count = λ o. omega arith;
  few = omega arith;
  given = subst (λ (b : Bool). Given left faults b feed.end feed.first_capture.value.now feed.capture.now feed.first_source.value.now feed.source.now []) (sym is_open)
      (transport (λ i. GaveMore (sym capture i) feed.capture.now (left (sym source i)) (left feed.source.now) []) (gave_no_more feed.capture.now (left feed.source.now)));
  cause = subst (λ (b : Bool). Caused left faults b feed.end feed.first_source.value.now feed.source.now) (sym is_open) (sym (ap faults source));
}

-- one more call: runs, or the end
module _ {S : Type 0} (left : S → Option (List ℕ)) (faults : S → ℕ) (old new : CaptureFeed S)
    (same_capture : new.first_capture.value.now ≡ old.first_capture.value.now) (same_from : new.first_source.value.now ≡ old.first_source.value.now)
    (same_source : new.source.ghost_name ≡ old.source.ghost_name) (same_name : new.first_source.value.ghost_name ≡ old.first_source.value.ghost_name)
    (form : form_of new.capture.now ≡ form_of old.capture.now) (pins : pins_of new.capture.now ≡ pins_of old.capture.now) (was_open : is_open_of old.capture.now ≡ true)
    (before : List Run) (gave : GaveRuns left faults old before) where
  abbrev from : Capture
  from = old.first_capture.value.now

  abbrev source_from : S
  source_from = old.first_source.value.now

  gave_so_far : GaveMore from old.capture.now (left source_from) (left old.source.now) (samples_of before)
  gave_so_far = subst (λ (b : Bool). Given left faults b old.end from old.capture.now source_from old.source.now (samples_of before)) was_open gave.given

  failed_so_far : faults old.source.now ≡ faults source_from
  failed_so_far = subst (λ (b : Bool). Caused left faults b old.end source_from old.source.now) was_open gave.cause

  name_stays : new.source.ghost_name ≡ new.first_source.value.ghost_name
  name_stays = same_source ∙ gave.same_source ∙ sym same_name

  form_stays : form_of new.capture.now ≡ form_of new.first_capture.value.now
  form_stays = form ∙ gave.form ∙ sym (ap form_of same_capture)

  pins_stay : pins_of new.capture.now ≡ pins_of new.first_capture.value.now
  pins_stay = pins ∙ gave.pins ∙ sym (ap pins_of same_capture)

  -- runs were given
  pub feed_on : is_open_of new.capture.now ≡ true → Gives old.capture.now new.capture.now (left old.source.now) (left new.source.now) new.runs (Ok true) → faults new.source.now ≡ faults old.source.now
      → given_by old.capture.now + length (samples_of new.runs) ≤ given_by new.capture.now → given_by new.capture.now ≤ 2 ^ 60 → GaveRuns left faults new (before ++ new.runs)
  feed_on is_open gives cause counts few =
      let joined : samples_of (before ++ new.runs) ≡ samples_of before ++ samples_of new.runs = samples_append before new.runs in
      let len : length (samples_of (before ++ new.runs)) ≡ length (samples_of before) + length (samples_of new.runs) = ap length joined ∙ length-append (samples_of before) (samples_of new.runs) in
      let had = gave.count was_open in
      let all = gave_on from old.capture.now new.capture.now (left source_from) (left old.source.now) (left new.source.now) (samples_of before) (samples_of new.runs) gave_so_far gives in
      record {
        same_source = name_stays;
        form = form_stays;
        pins = pins_stay;
        count = λ o. omega (arith, len, had, counts);
        few = omega (arith, len, had, counts, few);
        given = subst (λ (b : Bool). Given left faults b new.end new.first_capture.value.now new.capture.now new.first_source.value.now new.source.now (samples_of (before ++ new.runs))) (sym is_open)
            (transport (λ i. GaveMore (sym same_capture i) new.capture.now (left (sym same_from i)) (left new.source.now) (sym joined i)) all);
        cause = subst (λ (b : Bool). Caused left faults b new.end new.first_source.value.now new.source.now) (sym is_open) (cause ∙ failed_so_far ∙ sym (ap faults same_from));
      }

  -- nothing was at hand
  pub feed_stays : is_open_of new.capture.now ≡ true → GaveMore old.capture.now new.capture.now (left old.source.now) (left new.source.now) [] → faults new.source.now ≡ faults old.source.now
      → given_by old.capture.now ≤ given_by new.capture.now → GaveRuns left faults new before
  feed_stays is_open gives cause stays =
      let had = gave.count was_open in
      let all = subst (λ (l : List ℕ). GaveMore from new.capture.now (left source_from) (left new.source.now) l) (append-nil (samples_of before))
      (gave_on from old.capture.now new.capture.now (left source_from) (left old.source.now) (left new.source.now) (samples_of before) [] gave_so_far gives) in
      record {
        same_source = name_stays;
        form = form_stays;
        pins = pins_stay;
        count = λ o. omega (arith, had, stays);
        few = gave.few;
        given = subst (λ (b : Bool). Given left faults b new.end new.first_capture.value.now new.capture.now new.first_source.value.now new.source.now (samples_of before)) (sym is_open)
            (transport (λ i. GaveMore (sym same_capture i) new.capture.now (left (sym same_from i)) (left new.source.now) (samples_of before)) all);
        cause = subst (λ (b : Bool). Caused left faults b new.end new.first_source.value.now new.source.now) (sym is_open) (cause ∙ failed_so_far ∙ sym (ap faults same_from));
      }

  -- the capture came to its end
  pub feed_ends : new.runs ≡ [] → (runs : List Run) (answer : Result Bool CaptureError) → ended answer ≡ Some new.end → is_open_of new.capture.now ≡ false → Gives old.capture.now new.capture.now (left old.source.now) (left new.source.now) runs answer
      → CaptureCause (faults old.source.now) (faults new.source.now) answer → GaveRuns left faults new before
  feed_ends none runs answer is closed gives cause =
      let ends = answer_ends from old.capture.now new.capture.now (left source_from) (left old.source.now) (left new.source.now) runs (samples_of before) (form ∙ gave.form) (pins ∙ gave.pins) gave_so_far answer new.end gives is in
      let why = answer_cause answer new.end (faults old.source.now) (faults new.source.now) cause is in
      record {
        same_source = name_stays;
        form = form_stays;
        pins = pins_stay;
        count = λ o. absurd (both o closed);
        few = gave.few;
        given = subst (λ (b : Bool). Given left faults b new.end new.first_capture.value.now new.capture.now new.first_source.value.now new.source.now (samples_of before)) (sym closed)
            (transport (λ i. Given left faults false new.end (sym same_capture i) new.capture.now (sym same_from i) new.source.now (samples_of before)) ends);
        cause = subst (λ (b : Bool). Caused left faults b new.end new.first_source.value.now new.source.now) (sym closed)
            (transport (λ i. ReadCause (faults (sym same_from i)) (faults new.source.now) new.end × (new.end ≢ Write)) (subst (λ (n : ℕ). ReadCause n (faults new.source.now) new.end × (new.end ≢ Write)) failed_so_far why));
      }
    where
      both : is_open_of new.capture.now ≡ true → is_open_of new.capture.now ≡ false → ⊥
      both opened shut = absurd cc

-- want of memory leaves what a failed write leaves: a front
pub as_cut : (form : Form) (pins : List ℕ) (Whole Front : List ℕ → Type 0) (before : List ℕ) (early : Told) (left_old left_new : Option (List ℕ)) (end : ListingEnd) → IsFront end → Lists form pins Whole Front before early left_old left_new Write
    → Lists form pins Whole Front before early left_old left_new end
as_cut form pins Whole Front before early left_old left_new Done is lists = absurd is
as_cut form pins Whole Front before early left_old left_new Read is lists = absurd is
as_cut form pins Whole Front before early left_old left_new (Fault fault) is lists = absurd is
as_cut form pins Whole Front before early left_old left_new Write is lists = lists
as_cut form pins Whole Front before early left_old left_new NoMemory is lists = record {
  bytes = lists.bytes;
  told = lists.told;
  later = lists.later;
  taken = lists.taken;
  at_end = lists.at_end;
  says = lists.says;
}

-- whatever the end is, the count of the source's failures never falls
pub cause_rises : (end : ListingEnd) (before now : ℕ) → ReadCause before now end → before ≤ now
cause_rises Done before now cause = omega (arith, cause)
cause_rises Read before now cause = cause.0
cause_rises Write before now cause = cause
cause_rises (Fault fault) before now cause = omega (arith, cause)
cause_rises NoMemory before now cause = cause

-- what a feed over this capture and source gave, when it is let go
module _ {S : Type 0} (left : S → Option (List ℕ)) (faults : S → ℕ) (feed : CaptureFeed S) (runs : List Run) (gave : GaveRuns left faults feed runs)
    (capture : Capture) (is_capture : feed.first_capture.value.now ≡ capture) (source : S) (is_source : feed.first_source.value.now ≡ source) (last : S) (is_last : feed.source.now ≡ last) where
  -- at its end: all that the bytes settle, and how the capture ended
  abbrev pub Whole : Type 0
  Whole = (before : List ℕ) (told : Told) → ToldAt told (left source) → Stands capture before told []
      → Lists (form_of capture) (pins_of capture) (λ settled. settled ≡ samples_of runs) (λ settled. settled ≡ samples_of runs) before told (left source) (left last) feed.end

  pub feed_whole : is_open_of feed.capture.now ≡ false → Whole
  feed_whole closed =
      transport (λ i. (before : List ℕ) (told : Told) → ToldAt told (left (is_source i)) → Stands (is_capture i) before told []
      → Lists (form_of (is_capture i)) (pins_of (is_capture i)) (λ settled. settled ≡ samples_of runs) (λ settled. settled ≡ samples_of runs) before told (left (is_source i)) (left (is_last i)) feed.end)
      (subst (λ (b : Bool). Given left faults b feed.end feed.first_capture.value.now feed.capture.now feed.first_source.value.now feed.source.now (samples_of runs)) closed gave.given)

  pub feed_cause : is_open_of feed.capture.now ≡ false → ReadCause (faults source) (faults last) feed.end × (feed.end ≢ Write)
  feed_cause closed =
      transport (λ i. ReadCause (faults (is_source i)) (faults (is_last i)) feed.end × (feed.end ≢ Write))
      (subst (λ (b : Bool). Caused left faults b feed.end feed.first_source.value.now feed.source.now) closed gave.cause)

  -- wherever it was stopped: of what its bytes settle, these samples and maybe more
  module _ (All Front : List ℕ → Type 0) (fronts : (rest : List ℕ) → (not (is_open_of feed.capture.now) ≡ true → rest ≡ []) → Front (samples_of runs ++ rest)) (end : ListingEnd) (is_front : IsFront end) where
    abbrev Cut : Capture → S → S → Type 0
    Cut first from to = (before : List ℕ) (told : Told) → ToldAt told (left from) → Stands first before told [] → Lists (form_of first) (pins_of first) All Front before told (left from) (left to) end

    all_front : not (is_open_of feed.capture.now) ≡ true → (given : List ℕ) → given ≡ samples_of runs → Front given
    all_front closed given is = subst Front (append-nil (samples_of runs) ∙ sym is) (fronts [] (λ _. refl))

    stopped_at : (b : Bool) → is_open_of feed.capture.now ≡ b → Given left faults b feed.end feed.first_capture.value.now feed.capture.now feed.first_source.value.now feed.source.now (samples_of runs) → Cut feed.first_capture.value.now feed.first_source.value.now feed.source.now
    stopped_at true is given before told at stands =
        let first = feed.first_capture.value.now in
        let from = left feed.first_source.value.now in
        as_cut (form_of first) (pins_of first) All Front before told from (left feed.source.now) end is_front
        (lists_write first feed.capture.now (record { form = gave.form; pins = gave.pins }) All Front before told from (left feed.source.now) (samples_of runs)
        (gave_more first feed.capture.now before told from from (left feed.source.now) [] (samples_of runs) (gave_nothing first before told from at stands) given) (λ rest. fronts rest (λ closed. absurd (opened is closed))))
      where
        opened : is_open_of feed.capture.now ≡ true → not (is_open_of feed.capture.now) ≡ true → ⊥
        opened is closed = cc
    stopped_at false is given before told at stands =
        let first = feed.first_capture.value.now in
        let closed : not (is_open_of feed.capture.now) ≡ true = ap not is in
        lists_cut (form_of first) (pins_of first) (λ settled. settled ≡ samples_of runs) (λ settled. settled ≡ samples_of runs) before told (left feed.first_source.value.now) (left feed.source.now)
        Front (all_front closed) (all_front closed) feed.end (given before told at stands) All end is_front

    pub feed_stopped : Cut capture source last
    feed_stopped = transport (λ i. Cut (is_capture i) (is_source i) (is_last i)) (stopped_at (is_open_of feed.capture.now) refl gave.given)

  pub feed_failed : faults source ≤ faults last
  feed_failed = transport (λ i. faults (is_source i) ≤ faults (is_last i)) (by (is_open_of feed.capture.now) gave.cause)
    where
      by : (b : Bool) → Caused left faults b feed.end feed.first_source.value.now feed.source.now → faults feed.first_source.value.now ≤ faults feed.source.now
      by true same = omega (arith, same)
      by false cause = cause_rises feed.end (faults feed.first_source.value.now) (faults feed.source.now) cause.0

-- what isn't open is closed
pub closed_at_end : (b : Bool) → not b ≡ true → b ≡ false
closed_at_end true is = absurd cc
closed_at_end false is = refl
