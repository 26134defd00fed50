-- One token of a capture, and its end.
use Rattle.la_base.specs.Samples.{samples}
use Rattle.la_base.specs.declared.samples.Run.{Run}
use Rattle.capture_vcd.proofs.Running.{samples_are}
use Rattle.std.proofs.lemmas.List.{length-replicate}
use Rattle.std.proofs.Common.{◌≡◌, arith, length, length-append, ℕ, ◌^◌, ◌≤◌, ◌<◌, List, [], ◌∷◌, ◌++◌, map, refl, sym, ◌∙◌, ap, subst, append_assoc, Option, Err, Bool, true, false}
use Rattle.text_parts.specs.Places.{Placed}
use Rattle.la_io.specs.declared.fault.CaptureFault.{CaptureFault}
use Rattle.la_io.specs.Capture.{Told, AtEnd, Cut, Ending, Clean, Faulty, Open, Captured, Ends}
use Rattle.byte_feed.specs.Tokens.{tokens_of}
use Rattle.byte_feed.specs.Reader.{Answers, Stands, ended_of, taken_of, text_of}
use Rattle.byte_feed.specs.Feeding.{told_of}
use Rattle.byte_feed.specs.declared.tokens.Tokens.{Tokens}
use Rattle.byte_feed.specs.declared.fault.FeedFault.{FeedFault}
use Rattle.byte_feed.specs.declared.fault.FeedFault.TheVariants.{Read, TooLong, Bytes, Spent}
use Rattle.la_io.specs.declared.fault.CaptureFault.TheVariants as fault
use Rattle.la_io.specs.declared.fault.CaptureError.{CaptureError}
use Rattle.capture_vcd.specs.Body.{Channel}
use Rattle.capture_vcd.specs.Slots.{level_of}
use Rattle.capture_vcd.specs.Vcd.{vcd_capture}
use Rattle.byte_feed.specs.Errors.{error_of}
use Rattle.capture_vcd.specs.Running.{BodyEnds, BodyFaulty, BodySettled, BodyStands, Flushes, SameForm, channels_in, down_in, given_in, held_in, last_of, start_of, waiting, word_in}
use Rattle.la_io.specs.Reading.{run_samples, Behind}
use Rattle.capture_vcd.specs.declared.body.Body.{Body}
use Rattle.capture_vcd.specs.declared.place.Place.{Place}
use Rattle.la_base.specs.declared.samples.Rate.{Rate}
use Rattle.std.specs.declared.vec.Vec.{Vec}
use Rattle.std.specs.declared.alloc.Global.{Global}
use Rattle.std.proofs.lemmas.Bool.{false≢true}
use Rattle.capture_vcd.specs.declared.reader.Phase.{Phase}
use Rattle.capture_vcd.specs.declared.reader.Phase.TheVariants.{Fresh, Running, Ended, Refused}
use Rattle.capture_vcd.proofs.Waiting.{flush_form, none_waits, run_is, settles}
use Rattle.capture_vcd.specs.Reader.{Going, HeadRead, Kept, SameReader, StandsAs, StepAnswers, given_at, kept_by, kept_in, pins_in, vcd_down}
use Rattle.capture_vcd.specs.Stepping.{is_going}
use Rattle.capture_vcd.specs.declared.reader.VcdReader.{VcdReader}
use Rattle.capture_vcd.proofs.Following.{body_cut, body_feed}
use Rattle.capture_vcd.proofs.Reading.{capture_is, given_first, head_is}

pub tokens_on : (tokens : Tokens) (bytes : List ℕ) (told : Told) (head items : List Placed) (at : ℕ) (text : List ℕ) → text ≡ text_of tokens → Stands tokens bytes told ((head ++ items) ++ (at, text_of tokens) ∷ [])
    → Stands tokens bytes told (head ++ (items ++ (at, text) ∷ []))
tokens_on tokens bytes told head items at text is st =
    subst (λ (l : List Placed). Stands tokens bytes told l) (append_assoc head items ((at, text) ∷ [])) (subst (λ (t : List ℕ). Stands tokens bytes told ((head ++ items) ++ (at, t) ∷ [])) (sym is) st)

-- the header stays read where a token changes nothing of its channels
pub head_on : (old new : Body) (pins : List ℕ) (names : List (List ℕ)) (places : List Place) (rate : Rate) (head : List Placed) → SameForm old new
    → HeadRead (down_in old) pins (channels_in old) (kept_by names places rate old.codes.items) head → HeadRead (down_in new) pins (channels_in new) (kept_by names places rate new.codes.items) head
head_on old new pins names places rate head form h =
    subst (λ (d : ℕ). HeadRead d pins (channels_in new) (kept_by names places rate new.codes.items) head) (sym form.down)
    (subst (λ (ch : List Channel). HeadRead (down_in old) pins ch (kept_by names places rate new.codes.items) head) (sym form.channels)
    (subst (λ (cs : Vec (Vec ℕ Global) Global). HeadRead (down_in old) pins (channels_in old) (kept_by names places rate cs.items) head) (sym form.codes) h))

-- the end that was told stays told
pub told_end : (ended : Bool) (told : Told) → told ≡ told_of ended → told ≡ AtEnd → ended ≡ true
told_end true told is e = refl
told_end false told is e = cc

pub told_still : (was is : Bool) (early told : Told) → early ≡ told_of was → told ≡ told_of is → (was ≡ true → is ≡ true) → early ≡ AtEnd → told ≡ AtEnd
told_still was is early told one two stays e = two ∙ ap told_of (stays (told_end was early one e))

module _ (down : ℕ) (pins : List ℕ) (channels : List Channel) (kept : Kept) (head : List Placed) (h : HeadRead down pins channels kept head) where
  pub fault_ends : (tokens : Tokens) (bytes : List ℕ) (told : Told) (items : List Placed) (given : List ℕ) (why : CaptureFault) → Stands tokens bytes told (head ++ items) → taken_of tokens ≤ 2 ^ 60 → BodyFaulty down channels items given why
      → Ends (vcd_capture down pins bytes told) given (Faulty why)
  fault_ends tokens bytes told items given why st few faulty =
      let first = given_first tokens bytes told (head ++ items) st few in
      let is = first.1 ∙ ap (λ (l : List Placed). record { items = l; ending = first.0.ending }) (append_assoc head items first.0.items) in
      subst (λ (c : Captured). Ends c given (Faulty why)) (sym (capture_is down pins channels kept head h bytes told (items ++ first.0.items) first.0.ending is)) (faulty (head_is down pins channels kept head h) first.0.ending first.0.items)

  pub clean_ends : (bytes : List ℕ) (items : List Placed) (given : List ℕ) (how : Ending) → tokens_of bytes AtEnd ≡ record { items = head ++ items; ending = Clean } → BodyEnds down channels items given how → Ends (vcd_capture down pins bytes AtEnd) given how
  clean_ends bytes items given how is ends =
      subst (λ (c : Captured). Ends c given how) (sym (capture_is down pins channels kept head h bytes AtEnd items Clean is)) (ends (head_is down pins channels kept head h))

-- its tokens have a fault
module _ (new : VcdReader) (some : 0 < vcd_down new) (left : Option (List ℕ)) (bytes more : List ℕ) (head items : List Placed) (given : List ℕ)
    (h : HeadRead (vcd_down new) (pins_in new) (channels_in new.body) (kept_in new) head) (st : BodySettled new.body items given) (was : Bool) (early : Told) (early_is : early ≡ told_of was)
    (none : was ≡ true → more ≡ []) (stays : was ≡ true → ended_of new.tokens ≡ true) where
  abbrev pub FaultSays : CaptureError → Type 0
  FaultSays why = Behind left bytes early more (λ all told. StepAnswers new all told given (Err why))

  not_ended : ended_of new.tokens ≡ false → early ≡ AtEnd → Cut ≡ AtEnd
  not_ended e at = absurd (false≢true (sym e ∙ stays (told_end was early early_is at)))

  nothing : early ≡ AtEnd → more ≡ []
  nothing at = none (told_end was early early_is at)

  pub feed_ends : (why : FeedFault) → Answers new.tokens left (bytes ++ more) (head ++ items) (Err why) → FaultSays (error_of why)
  feed_ends Read is = record {
    told = Cut;
    none = nothing;
    still = not_ended is.0;
    at_end = λ e. cc;
    says = (
      refl,
      subst (λ (c : Captured). Ends c given Open) (sym (capture_is (vcd_down new) (pins_in new) (channels_in new.body) (kept_in new) head h (bytes ++ more) Cut items Open is.1))
          (body_cut (vcd_down new) some (channels_in new.body) (map level_of new.body.slots.items) st.open_is (start_of new.body.span) (last_of new.body.span) items given st.stands (head_is (vcd_down new) (pins_in new) (channels_in new.body) (kept_in new) head h)),
    );
  }
  feed_ends (TooLong at) is = record {
    told = is.0;
    none = nothing;
    still = told_still was (ended_of new.tokens) early is.0 early_is is.2 stays;
    at_end = is.1;
    says = subst (λ (c : Captured). Ends c given (Faulty (fault.TooLong at))) (sym (capture_is (vcd_down new) (pins_in new) (channels_in new.body) (kept_in new) head h (bytes ++ more) is.0 items (Faulty (fault.TooLong at)) is.3))
        (body_feed (vcd_down new) some (channels_in new.body) (map level_of new.body.slots.items) st.open_is (start_of new.body.span) (last_of new.body.span) items given st.stands (head_is (vcd_down new) (pins_in new) (channels_in new.body) (kept_in new) head h) (fault.TooLong at));
  }
  feed_ends Bytes is = record {
    told = Cut;
    none = nothing;
    still = not_ended is.0;
    at_end = λ e. cc;
    says = subst (λ (c : Captured). Ends c given (Faulty fault.Bytes)) (sym (capture_is (vcd_down new) (pins_in new) (channels_in new.body) (kept_in new) head h (bytes ++ more) Cut items (Faulty fault.Bytes) is.1))
        (body_feed (vcd_down new) some (channels_in new.body) (map level_of new.body.slots.items) st.open_is (start_of new.body.span) (last_of new.body.span) items given st.stands (head_is (vcd_down new) (pins_in new) (channels_in new.body) (kept_in new) head h) fault.Bytes);
  }
  feed_ends Spent is = absurd is

  pub feed_error : (why : FeedFault) (e : CaptureError) → e ≡ error_of why → Answers new.tokens left (bytes ++ more) (head ++ items) (Err why) → FaultSays e
  feed_error why e is r = subst FaultSays (sym is) (feed_ends why r)

-- a run has a sample
pub given_some : (given : List ℕ) (run : Run) → 1 ≤ run.len → 0 < length (given ++ samples run)
given_some given run some = omega (arith, some, length-append given (samples run), ap length (samples_are run), length-replicate run.len run.value)

-- how many samples it gave, while it reads the body
pub given_is : (phase : Phase) (body : Body) → is_going phase ≡ true → given_at phase body ≡ given_in body
given_is Fresh body is = refl
given_is Running body is = refl
given_is Ended body is = absurd (false≢true is)
given_is (Refused fault) body is = absurd (false≢true is)

-- it reads the body
pub going_as : (phase : Phase) (reader : VcdReader) (bytes : List ℕ) (told : Told) (given : List ℕ) → is_going phase ≡ true → StandsAs phase reader bytes told given → Going reader bytes told given
going_as Fresh reader bytes told given is st = st.going
going_as Running reader bytes told given is st = st.going
going_as Ended reader bytes told given is st = absurd (false≢true is)
going_as (Refused fault) reader bytes told given is st = absurd (false≢true is)

-- a fault behind the samples that were held back
pub faulty_behind : (old new : Body) (run : Option Run) (items : List Placed) (given : List ℕ) (fault : CaptureFault) → Flushes old new run → BodyFaulty (down_in old) (channels_in old) items (given ++ waiting old) fault
    → BodyFaulty (down_in new) (channels_in new) items (given ++ run_samples run) fault
faulty_behind old new run items given fault flush faulty =
    let form = flush_form old new run flush in
    subst (λ (d : ℕ). BodyFaulty d (channels_in new) items (given ++ run_samples run) fault) (sym form.down)
    (subst (λ (ch : List Channel). BodyFaulty (down_in old) ch items (given ++ run_samples run) fault) (sym form.channels)
    (subst (λ (l : List ℕ). BodyFaulty (down_in old) (channels_in old) items (given ++ l) fault) (sym (run_is (held_in old) (word_in old) run flush.gave)) faulty))

-- the samples that were held back were given
pub flushed_stands : (old new : Body) (run : Option Run) (items : List Placed) (given : List ℕ) → Flushes old new run → BodyStands old items given → BodyStands new items (given ++ run_samples run)
flushed_stands old new run items given flush st = none_waits new items (given ++ run_samples run) flush.none (settles old new run items given flush st)

-- what stays, stays
pub same_on : (old mid new : VcdReader) → SameReader old mid → SameReader mid new → SameReader old new
same_on old mid new one two = record { names = two.names ∙ one.names; rate = two.rate ∙ one.rate; pins = two.pins ∙ one.pins; down = two.down ∙ one.down }
