-- The head of a file, from the tokens of its header.
use Rattle.std.proofs.Common.{◌≡◌, ◌≢◌, ℕ, ◌*◌, ◌^◌, ◌≤◌, List, [], ◌++◌, map, refl, sym, ◌∙◌, ap, subst, Option, Some, None, Bool, true, false, Result, Ok, Err}
use Rattle.std.proofs.lemmas.List.{append-nil}
use Rattle.std.specs.Io.KnownBytes.{IsAtEnd}
use Rattle.std.specs.declared.vec.Vec.{Vec}
use Rattle.std.specs.declared.alloc.Global.{Global}
use Rattle.text_parts.specs.Places.{Placed}
use Rattle.la_io.specs.declared.fault.CaptureFault.{CaptureFault}
use Rattle.la_io.specs.declared.fault.CaptureFault.TheVariants as fault
use Rattle.la_io.specs.declared.fault.CaptureError.{CaptureError}
use Rattle.la_io.specs.declared.fault.CaptureError.TheVariants as error
use Rattle.la_io.specs.Capture.{Told, AtEnd, Cut, Head, Good, Bad, Unread, Ending, Clean, Faulty, Open}
use Rattle.byte_feed.specs.Tokens.{tokens_of}
use Rattle.byte_feed.specs.Parts.{Fed, behind}
use Rattle.byte_feed.specs.Reader.{Answers, Stands, is_spent, taken_of}
use Rattle.byte_feed.specs.declared.tokens.Tokens.{Tokens}
use Rattle.byte_feed.specs.declared.fault.FeedFault.{FeedFault}
use Rattle.byte_feed.specs.declared.fault.FeedFault.TheVariants.{Read, TooLong, Bytes, Spent}
use Rattle.rate_math.specs.Scale.{in_second}
use Rattle.capture_vcd.specs.Header as header
use Rattle.capture_vcd.specs.Header.{Declared, Section, channels_of, declared_by, header_from}
use Rattle.capture_vcd.specs.Vcd.{bits_in, capture_by, chosen, cut_head, declared_in, head_by, head_in, scale_in, tokens_give, vcd_capture, whole_head}
use Rattle.byte_feed.specs.Errors.{error_of}
use Rattle.capture_vcd.specs.Gathering.{HeaderFaulty, PartsAt, PartsDone, TokenSays, scale_pair}
use Rattle.capture_vcd.specs.Opening.{HeadSays, Whole}
use Rattle.capture_vcd.specs.declared.reader.Phase.{Phase}
use Rattle.capture_vcd.specs.Reader.{HeadRead, Opened, StandsAs, kept_in, pins_in, vcd_down}
use Rattle.la_io.specs.Reading.{CaptureCause}
use Rattle.capture_vcd.specs.Stepping.{Makes}
use Rattle.capture_vcd.specs.Running.{channels_in}
use Rattle.capture_vcd.specs.Places.{channel_at}
use Rattle.capture_vcd.specs.declared.reader.VcdReader.{VcdReader}
use Rattle.capture_vcd.specs.declared.header.Header.{Header}
use Rattle.capture_vcd.specs.declared.place.Place.{Place}
use Rattle.capture_vcd.specs.declared.scale.Scale.{Scale}
use Rattle.capture_vcd.specs.declared.section.Word.{Word}
use Rattle.capture_vcd.specs.declared.section.Kind.{Kind}
use Rattle.capture_vcd.proofs.Headers.{header_whole}
use Rattle.capture_vcd.proofs.Reading.{given_first}

capture_head : (down : ℕ) (pins : List ℕ) (how : Ending) (body : Option (List Placed)) (declared : List Declared) (head : Head) → (capture_by down pins how body declared head).head ≡ head
capture_head down pins how body declared (Good names num den) = refl
capture_head down pins how body declared (Bad why) = refl
capture_head down pins how body declared Unread = refl

module _ (down : ℕ) (pins : List ℕ) (bytes : List ℕ) (told : Told) where
  abbrev at : Ending → header.Cut → Head
  at how cut = head_by down how cut (declared_in cut)

  head_at : (fed : Fed) → tokens_of bytes told ≡ fed → (vcd_capture down pins bytes told).head ≡ at fed.ending (header_from None fed.items)
  unfolding vcd_capture
  head_at fed is =
      ap (λ (f : Fed). (tokens_give down pins f).head) is
      ∙ capture_head down pins fed.ending (header_from None fed.items).body (declared_in (header_from None fed.items)).0 (at fed.ending (header_from None fed.items))

  -- a section has a fault
  pub faulty_head : (items : List Placed) (rest : Fed) (why : CaptureFault) → tokens_of bytes told ≡ behind items rest → HeaderFaulty items why → (vcd_capture down pins bytes told).head ≡ Bad why
  faulty_head items rest why is faulty =
      let cut = header_from None (items ++ rest.items) in
      head_at (behind items rest) is ∙ ap (λ (o : Option CaptureFault). head_in down rest.ending cut.body (declared_in cut).0 o) (faulty rest.items)

  module _ (names : List (List ℕ)) (places : List Place) (codes : List (Vec ℕ Global)) (scale : Option Scale) (items : List Placed) where
    -- the tokens end in the header
    pub cut_head_is : (kind : Kind) (place : ℕ) (words : List Word) → PartsAt kind place words names places codes scale items → (how : Ending) → tokens_of bytes told ≡ record { items = items; ending = how } → (vcd_capture down pins bytes told).head ≡ cut_head how
    cut_head_is kind place words p how is =
        let cut_is : header_from None items ≡ record { sections = p.sections; body = None } = ap (λ (l : List Placed). header_from None l) (sym (append-nil items)) ∙ p.goes [] ∙ ap (λ (l : List Section). record { sections = l; body = None }) (append-nil p.sections) in
        head_at (record { items = items; ending = how }) is ∙ ap (λ (c : header.Cut). at how c) cut_is ∙ ap (λ (r : List Declared × Option CaptureFault). head_in down how None r.0 r.1) p.read

    -- the header is whole
    pub whole_head_is : (p : PartsDone names places codes scale items) (rest : Fed) → tokens_of bytes told ≡ behind items rest → (vcd_capture down pins bytes told).head ≡ whole_head down (channels_of p.declared) (scale_in None p.declared)
    whole_head_is p rest is =
        head_at (behind items rest) is
        ∙ ap (λ (c : header.Cut). at rest.ending c) (header_whole None items rest.items [] (ap (λ (c : header.Cut). c.body) p.whole) ∙ ap (λ (c : header.Cut). record { sections = c.sections; body = Some rest.items }) p.whole)
        ∙ ap (λ (r : List Declared × Option CaptureFault). head_in down rest.ending (Some rest.items) r.0 r.1) p.read

-- behind one more token
module _ (tokens : Tokens) (header : Header) (left : Option (List ℕ)) (bytes : List ℕ) where
  pub token_says : (told : Told) (items : List Placed) → (told ≡ AtEnd → IsAtEnd left) → Stands tokens bytes told items → taken_of tokens ≤ 2 ^ 60 → (result : Result Bool CaptureError) → TokenSays header items result → HeadSays tokens header left bytes result
  token_says told items at_end stands few (Ok true) done = record { told = told; items = items; at_end = at_end; stands = stands; few = few; done = done }
  token_says told items at_end stands few (Ok false) begun = record { told = told; items = items; at_end = at_end; stands = stands; begun = begun }
  token_says told items at_end stands few (Err (error.Fault why)) faulty =
      let first = given_first tokens bytes told items stands few in
      (told, at_end, λ down pins. faulty_head down pins bytes told items first.0 why first.1 faulty)
  token_says told items at_end stands few (Err error.Read) says = absurd says
  token_says told items at_end stands few (Err error.NoMemory) says = tt

  -- the tokens end, or they have a fault
  module _ (items : List Placed) (p : PartsAt header.kind header.at header.words.items header.names header.places.items header.codes.items header.scale items) where
    ends : (told : Told) (how : Ending) → tokens_of bytes told ≡ record { items = items; ending = how } → (down : ℕ) (pins : List ℕ) → (vcd_capture down pins bytes told).head ≡ cut_head how
    ends told how is down pins = cut_head_is down pins bytes told header.names header.places.items header.codes.items header.scale items header.kind header.at header.words.items p how is

    pub end_says : IsAtEnd left → tokens_of bytes AtEnd ≡ record { items = items; ending = Clean } → HeadSays tokens header left bytes (Err (error.Fault fault.NoDefinitions))
    end_says at_end is = (AtEnd, (λ e. at_end), ends AtEnd Clean is)

    fault_says : (why : FeedFault) → Answers tokens left bytes items (Err why) → HeadSays tokens header left bytes (Err (error_of why))
    fault_says Read r = ends Cut Open r.1
    fault_says (TooLong place) r = (r.0, r.1, ends r.0 (Faulty (fault.TooLong place)) r.3)
    fault_says Bytes r = (Cut, (λ e. cc), ends Cut (Faulty fault.Bytes) r.1)
    fault_says Spent r = absurd r

    pub error_says : (why : FeedFault) (e : CaptureError) → e ≡ error_of why → Answers tokens left bytes items (Err why) → HeadSays tokens header left bytes (Err e)
    error_says why e is r = subst (λ (x : CaptureError). HeadSays tokens header left bytes (Err x)) (sym is) (fault_says why r)

-- an answer that no failed read gives
pub no_read_cause : {T : Type 0} (before now : ℕ) (r : Result T CaptureError) → now ≡ before → r ≢ Err error.Read → CaptureCause before now r
no_read_cause before now (Ok x) same never = same
no_read_cause before now (Err (error.Fault why)) same never = same
no_read_cause before now (Err error.Read) same never = absurd (never refl)
no_read_cause before now (Err error.NoMemory) same never = same

-- a header that couldn't be read
pub opening_fails : (down : ℕ) (tokens : Tokens) (header : Header) (left : Option (List ℕ)) (bytes : List ℕ) (why : CaptureError) → HeadSays tokens header left bytes (Err why) → Opened down bytes left (Err why)
opening_fails down tokens header left bytes (error.Fault why) says = (says.0, says.1, says.2 down [])
opening_fails down tokens header left bytes error.Read says = says down []
opening_fails down tokens header left bytes error.NoMemory says = tt

-- a header that was read
pub opening_goes : (down : ℕ) (tokens : Tokens) (header : Header) (left : Option (List ℕ)) (bytes : List ℕ) (result : Result VcdReader CaptureError) → Makes tokens header down result → is_spent tokens ≡ false → Whole tokens header left bytes → Opened down bytes left result
opening_goes down tokens header left bytes (Err why) makes fresh whole =
    let first = given_first tokens bytes whole.told whole.items whole.stands whole.few in
    let done = whole.done in
    subst (λ (x : CaptureError). Opened down bytes left (Err x)) (sym makes.1) (
      whole.told,
      whole.at_end,
      whole_head_is down [] bytes whole.told header.names header.places.items header.codes.items header.scale whole.items done first.0 first.1
          ∙ ap (λ (s : Option (ℕ × ℕ)). whole_head down (channels_of done.declared) s) (sym done.kept.scale_is ∙ ap scale_pair makes.0),
    )
opening_goes down tokens header left bytes (Ok reader) (scale, scale_is, tokens_is, body, codes_is, no_channels, names_is, places_is, num_is, den_is, phase_is, new) fresh whole =
    let first = given_first tokens bytes whole.told whole.items whole.stands whole.few in
    let done = whole.done in
    let is : scale_in None done.declared ≡ Some (scale.count, in_second scale.unit) = sym done.kept.scale_is ∙ ap scale_pair scale_is in
    let names : reader.names ≡ channels_of done.declared = names_is ∙ done.kept.names_are in
    let read : HeadRead (vcd_down reader) (pins_in reader) (channels_in reader.body) (kept_in reader) whole.items = record {
      sections = done.sections;
      whole = done.whole;
      declared = done.declared;
      read = done.read;
      scale = (scale.count, in_second scale.unit);
      scale_is = is;
      channels_are = no_channels ∙ sym (ap (λ (p : List ℕ). chosen (bits_in done.declared) p) new.no_pins);
      names_are = names;
      bits_are = (λ i. map (channel_at (codes_is i).items) (places_is i).items) ∙ done.kept.bits_are;
      num_is = num_is;
      den_is = den_is ∙ ap (λ (n : ℕ). scale.count * n) (sym new.down_is);
    } in (
      whole.told,
      whole.at_end,
      subst (λ (p : Phase). StandsAs p reader bytes whole.told []) (sym phase_is) (record {
        going = record {
          head = whole.items;
          items = [];
          header = read;
          fresh = ap is_spent tokens_is ∙ fresh;
          tokens = subst (λ (l : List Placed). Stands reader.tokens bytes whole.told l) (sym (append-nil whole.items)) (subst (λ (t : Tokens). Stands t bytes whole.told whole.items) (sym tokens_is) whole.stands);
          few = subst (λ (t : Tokens). taken_of t ≤ 2 ^ 60) (sym tokens_is) whole.few;
          body = body;
        };
        none = refl;
        unread = refl;
      }),
      whole_head_is down [] bytes whole.told header.names header.places.items header.codes.items header.scale whole.items done first.0 first.1
          ∙ ap (λ (s : Option (ℕ × ℕ)). whole_head down (channels_of done.declared) s) is
          ∙ (λ i. Good (sym names i) (sym num_is i) (sym den_is i)),
    )
