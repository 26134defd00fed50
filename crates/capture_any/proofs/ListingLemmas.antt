-- What an end of a listing says, from what the reader answered.
use Rattle.std.proofs.Common.{◌≡◌, ℕ, List, [], ◌++◌, take, length, Option, Some, None, Ok, Err, refl, sym, ◌∙◌, ap, subst, append_assoc, arith}
use Rattle.std.proofs.lemmas.List.{append-nil}
use Rattle.std.proofs.KnownBytes.{Consumes-nil, Consumes-trans}
use Rattle.std.specs.Io.KnownBytes.{Consumes}
use Rattle.la_base.specs.Samples.{samples}
use Rattle.la_base.specs.declared.samples.Run.{Run}
use Rattle.la_io.specs.declared.fault.CaptureError.TheVariants.{Fault as FaultError, Read as ReadError, NoMemory as NoMemoryError}
use Rattle.la_io.specs.declared.fault.CaptureFault.{CaptureFault}
use Rattle.la_io.specs.Capture.{Told, Cut, Ending, Captured, Ends}
use Rattle.capture_any.specs.Captures.{capture_of, Later, ToldAt, WantsMemoryAt}
use Rattle.capture_any.proofs.Telling.{later_on, later_still}
use Rattle.capture_any.specs.Listings.{SettledFront, OfAll, OfFewer, Says, Lists}
use Rattle.std.proofs.Math.Path.{transport}
use Rattle.capture_any.specs.declared.form.Form.{Form}
use Rattle.capture_any.specs.Reading.{Stands, Next, form_of, pins_of, capture_by}
use Rattle.capture_any.specs.Taking.{GaveHeld, GaveMore}
use Rattle.capture_any.specs.declared.capture.Capture.{Capture}
use Rattle.capture_any.specs.declared.end.ListingEnd.{ListingEnd}
use Rattle.capture_any.specs.declared.end.ListingEnd.TheVariants.{Done, Read, Write, Fault, NoMemory}
use Rattle.capture_any.proofs.CaptureLaws.{given_is_front}

-- behind the bytes `before` the reader has taken bytes, and given these samples in all
pub record Gave (capture : Capture) (before : List ℕ) (then : Told) (left_old left_now : Option (List ℕ)) (given : List ℕ) : Type 0 where
  pub bytes : List ℕ
  pub told : Told
  pub later : Later then bytes told
  pub taken : Consumes left_old left_now bytes
  pub at_end : ToldAt told left_now
  pub stands : Stands capture (before ++ bytes) told given

-- nothing was taken yet
pub gave_nothing : (capture : Capture) (before : List ℕ) (told : Told) (left : Option (List ℕ)) → ToldAt told left → Stands capture before told [] → Gave capture before told left left []
gave_nothing capture before told left at stands = record {
  bytes = [];
  told = told;
  later = later_still told;
  taken = Consumes-nil left;
  at_end = at;
  stands = subst (λ (l : List ℕ). Stands capture l told []) (sym (append-nil before)) stands;
}

-- a run was given
pub gave_run : (old new : Capture) (before : List ℕ) (then : Told) (left_old left_now left_new : Option (List ℕ)) (given : List ℕ) (run : Run) → Gave old before then left_old left_now given
    → Next old new left_now left_new (Ok (Some run)) → Gave new before then left_old left_new (given ++ samples run)
gave_run old new before then left_old left_now left_new given run so_far next =
    let answer = next.answers (before ++ so_far.bytes) so_far.told given so_far.at_end so_far.stands in
    record {
      bytes = so_far.bytes ++ next.bytes;
      told = answer.told;
      later = later_on then so_far.told answer.told so_far.bytes next.bytes so_far.later answer.later;
      taken = Consumes-trans left_old left_now left_new so_far.bytes next.bytes so_far.taken next.consumed;
      at_end = answer.at_end;
      stands = subst (λ (l : List ℕ). Stands new l answer.told (given ++ samples run)) (append_assoc before so_far.bytes next.bytes) answer.answers;
    }

-- samples were given
pub gave_more : (old new : Capture) (before : List ℕ) (then : Told) (left_old left_now left_new : Option (List ℕ)) (given more : List ℕ) → Gave old before then left_old left_now given
    → GaveMore old new left_now left_new more → Gave new before then left_old left_new (given ++ more)
gave_more old new before then left_old left_now left_new given more so_far next =
    let answer = next.answers (before ++ so_far.bytes) so_far.told given so_far.at_end so_far.stands in
    record {
      bytes = so_far.bytes ++ next.bytes;
      told = answer.0;
      later = later_on then so_far.told answer.0 so_far.bytes next.bytes so_far.later answer.1;
      taken = Consumes-trans left_old left_now left_new so_far.bytes next.bytes so_far.taken next.consumed;
      at_end = answer.2;
      stands = subst (λ (l : List ℕ). Stands new l answer.0 (given ++ more)) (append_assoc before so_far.bytes next.bytes) answer.3;
    }

-- samples were given of what was read already
pub gave_held : (old new : Capture) (before : List ℕ) (then : Told) (left_old left_now : Option (List ℕ)) (given more : List ℕ) → Gave old before then left_old left_now given → GaveHeld old new more
    → Gave new before then left_old left_now (given ++ more)
gave_held old new before then left_old left_now given more so_far held = record {
  bytes = so_far.bytes;
  told = so_far.told;
  later = so_far.later;
  taken = so_far.taken;
  at_end = so_far.at_end;
  stands = held (before ++ so_far.bytes) so_far.told given so_far.stands;
}

-- form and pins are the same
pub record SameCapture (first now : Capture) : Type 0 where
  pub form : form_of now ≡ form_of first
  pub pins : pins_of now ≡ pins_of first

pub same_still : (capture : Capture) → SameCapture capture capture
same_still capture = record {
  form = refl;
  pins = refl;
}

pub same_on : (first now next : Capture) → SameCapture first now → form_of next ≡ form_of now → pins_of next ≡ pins_of now → SameCapture first next
same_on first now next same form pins = record {
  form = form ∙ same.form;
  pins = pins ∙ same.pins;
}

-- an end that leaves a front
abbrev pub IsFront : ListingEnd → Type 0
IsFront Done = ⊥
IsFront Read = ⊥
IsFront Write = Unit {0}
IsFront (Fault fault) = ⊥
IsFront NoMemory = Unit {0}

module _ (first new : Capture) (same : SameCapture first new) (Whole Front : List ℕ → Type 0) (before : List ℕ) (then : Told) (left_old left_new : Option (List ℕ)) (given : List ℕ) where
  -- a front was written of what those samples list that were given, and more
  pub lists_write : Gave new before then left_old left_new given → ((rest : List ℕ) → Front (given ++ rest)) → Lists (form_of first) (pins_of first) Whole Front before then left_old left_new Write
  lists_write now front =
      let all = before ++ now.bytes in
      let settled = given_is_front new all now.told given now.stands in
      let is : (capture_by first all now.told).settled ≡ given ++ settled.0 = (λ i. (capture_of (sym same.form i) (sym same.pins i) all now.told).settled) ∙ settled.1 in
      record {
        bytes = now.bytes;
        told = now.told;
        later = now.later;
        taken = now.taken;
        at_end = now.at_end;
        says = OfAll (subst Front (sym is) (front settled.0));
      }

  module _ (old : Capture) (left_now : Option (List ℕ)) (so_far : Gave old before then left_old left_now given) where
    -- what was taken in all
    module _ (bytes : List ℕ) (consumed : Consumes left_now left_new bytes) where
      abbrev all : List ℕ
      all = so_far.bytes ++ bytes

      all_taken : Consumes left_old left_new all
      all_taken = Consumes-trans left_old left_now left_new so_far.bytes bytes so_far.taken consumed

      all_later : (now : Told) → Later so_far.told bytes now → Later then all now
      all_later now later = later_on then so_far.told now so_far.bytes bytes so_far.later later

      all_ends : (told : Told) (how : Ending) → Ends (capture_by new (before ++ so_far.bytes ++ bytes) told) given how → Ends (capture_by first (before ++ all) told) given how
      all_ends told how ends =
          subst (λ (c : Captured). Ends c given how) (λ i. capture_of (same.form i) (same.pins i) (append_assoc before so_far.bytes bytes i) told) ends

    -- the capture ended, and the listing is whole
    pub lists_done : Next old new left_now left_new (Ok None) → Whole given → Lists (form_of first) (pins_of first) Whole Front before then left_old left_new Done
    lists_done next whole =
        let answer = next.answers (before ++ so_far.bytes) so_far.told given so_far.at_end so_far.stands in
        let ends = all_ends next.bytes next.consumed answer.told _ answer.answers.1 in
        record {
          bytes = so_far.bytes ++ next.bytes;
          told = answer.told;
          later = all_later next.bytes next.consumed answer.told answer.later;
          taken = all_taken next.bytes next.consumed;
          at_end = answer.at_end;
          says = (answer.answers.0, ends.ending, subst Whole (sym ends.settled) whole);
        }

    -- the capture has a fault, and the listing of what came before it is whole
    pub lists_fault : (fault : CaptureFault) → Next old new left_now left_new (Err (FaultError fault)) → Whole given → Lists (form_of first) (pins_of first) Whole Front before then left_old left_new (Fault fault)
    lists_fault fault next whole =
        let answer = next.answers (before ++ so_far.bytes) so_far.told given so_far.at_end so_far.stands in
        let ends = all_ends next.bytes next.consumed answer.told _ answer.answers in
        record {
          bytes = so_far.bytes ++ next.bytes;
          told = answer.told;
          later = later_on then so_far.told answer.told so_far.bytes next.bytes so_far.later answer.later;
          taken = all_taken next.bytes next.consumed;
          at_end = answer.at_end;
          says = (ends.ending, subst Whole (sym ends.settled) whole);
        }

    -- the source failed, and the listing of what came before is whole
    pub lists_read : Next old new left_now left_new (Err ReadError) → Whole given → Lists (form_of first) (pins_of first) Whole Front before then left_old left_new Read
    lists_read next whole =
        let answer = next.answers (before ++ so_far.bytes) so_far.told given so_far.at_end so_far.stands in
        let ends = all_ends next.bytes next.consumed answer.told _ answer.answers.1 in
        record {
          bytes = so_far.bytes ++ next.bytes;
          told = answer.told;
          later = all_later next.bytes next.consumed answer.told answer.later;
          taken = all_taken next.bytes next.consumed;
          at_end = answer.at_end;
          says = (answer.answers.0, subst Whole (sym ends.settled) whole);
        }

    -- there was no memory to read on, and a front of the listing of what came before is written
    pub lists_no_memory : Next old new left_now left_new (Err NoMemoryError) → Front given → Lists (form_of first) (pins_of first) Whole Front before then left_old left_new NoMemory
    lists_no_memory next front =
        let answer = next.answers (before ++ so_far.bytes) so_far.told given so_far.at_end so_far.stands in
        let joined = append_assoc before so_far.bytes next.bytes in
        let is : given ≡ (capture_by first (take answer.answers.0 (before ++ (so_far.bytes ++ next.bytes))) Cut).settled =
        answer.answers.3 ∙ (λ i. (capture_of (same.form i) (same.pins i) (take answer.answers.0 (joined i)) Cut).settled) in
        record {
          bytes = so_far.bytes ++ next.bytes;
          told = answer.told;
          later = all_later next.bytes next.consumed answer.told answer.later;
          taken = all_taken next.bytes next.consumed;
          at_end = answer.at_end;
          says = OfFewer answer.answers.0 (omega (arith, answer.answers.1, ap length joined)) (transport (λ i. WantsMemoryAt (same.form i) (joined i) answer.answers.0) answer.answers.2) (subst Front is front);
        }

module _ (form : Form) (pins : List ℕ) (Whole Front : List ℕ → Type 0) (before : List ℕ) (then : Told) (left_old left_new : Option (List ℕ)) where
  module _ (More : List ℕ → Type 0) (on : (given : List ℕ) → Front given → More given) where
    front_on : (bytes : List ℕ) (told : Told) → SettledFront form pins Front bytes told → SettledFront form pins More bytes told
    front_on bytes told (OfAll front) = OfAll (on _ front)
    front_on bytes told (OfFewer count less wants front) = OfFewer count less wants (on _ front)

    -- what was written is written otherwise, whole where it was whole and a front where it was a front
    pub lists_on : (All : List ℕ → Type 0) → ((given : List ℕ) → Whole given → All given) → (end : ListingEnd) → Lists form pins Whole Front before then left_old left_new end → Lists form pins All More before then left_old left_new end
    lists_on All all_on end lists = record {
      bytes = lists.bytes;
      told = lists.told;
      later = lists.later;
      taken = lists.taken;
      at_end = lists.at_end;
      says = says_on end lists.says;
    } where
      says_on : (end : ListingEnd) → Says form pins Whole Front (before ++ lists.bytes) lists.told end → Says form pins All More (before ++ lists.bytes) lists.told end
      says_on Done s = (s.0, s.1, all_on _ s.2)
      says_on Read s = (s.0, all_on _ s.1)
      says_on Write s = front_on (before ++ lists.bytes) lists.told s
      says_on (Fault fault) s = (s.0, all_on _ s.1)
      says_on NoMemory s = front_on (before ++ lists.bytes) lists.told s

    module _ (cut : (given : List ℕ) → Whole given → More given) (end : ListingEnd) (lists : Lists form pins Whole Front before then left_old left_new end) where
      cut_says : (end : ListingEnd) → Says form pins Whole Front (before ++ lists.bytes) lists.told end → SettledFront form pins More (before ++ lists.bytes) lists.told
      cut_says Done s = OfAll (cut _ s.2)
      cut_says Read s = OfAll (cut _ s.1)
      cut_says Write s = front_on (before ++ lists.bytes) lists.told s
      cut_says (Fault fault) s = OfAll (cut _ s.1)
      cut_says NoMemory s = front_on (before ++ lists.bytes) lists.told s

      -- whatever came, a front of it is written
      pub lists_cut : (All : List ℕ → Type 0) → (last : ListingEnd) → IsFront last → Lists form pins All More before then left_old left_new last
      lists_cut All Done is = absurd is
      lists_cut All Read is = absurd is
      lists_cut All (Fault fault) is = absurd is
      lists_cut All Write is = record {
        bytes = lists.bytes;
        told = lists.told;
        later = lists.later;
        taken = lists.taken;
        at_end = lists.at_end;
        says = cut_says end lists.says;
      }
      lists_cut All NoMemory is = record {
        bytes = lists.bytes;
        told = lists.told;
        later = lists.later;
        taken = lists.taken;
        at_end = lists.at_end;
        says = cut_says end lists.says;
      }
