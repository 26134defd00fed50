-- What a longer input keeps of a front that is cut.
use Rattle.std.proofs.Common.{◌≡◌, ℕ, ◌+◌, ◌-◌, ◌*◌, ◌/◌, ◌≤◌, ◌<◌, ◌⊎◌, inl, inr, List, [], ◌++◌, refl, sym, ◌∙◌, ap, subst, arith, append_assoc, Option, Some, None}
use Rattle.std.proofs.Math.Nat.{mul-div-le, mul-le-mul_left, mod-add-div'}
use Rattle.std.proofs.lemmas.Bool.{cases_lt}
use Rattle.std.proofs.lemmas.List.{append-nil}
use Rattle.text_parts.specs.Places.{Placed}
use Rattle.la_io.specs.declared.fault.CaptureFault.{CaptureFault}
use Rattle.la_io.specs.Capture.{Cut, Head, Good, Bad, Unread, Ending, Clean, Faulty, Open, Captured}
use Rattle.byte_feed.specs.Tokens.{tokens_of}
use Rattle.byte_feed.specs.Parts.{Fed}
use Rattle.byte_feed.specs.Laws.{Extends}
use Rattle.byte_feed.proofs.Longer.{tokens_extend}
use Rattle.capture_vcd.specs.Header.{Declared, Section, channels_of, declared_by, header_from}
use Rattle.capture_vcd.specs.Header as header
use Rattle.capture_vcd.specs.Body.{Channel, Event, Statement, event_of, first_time, last_time, samples_before}
use Rattle.capture_vcd.specs.Within.{Free, hanging, statements_from, within_behind}
use Rattle.capture_vcd.specs.Vcd.{bits_in, body_by, body_ending, capture_by, chosen, count_by, head_in, scale_in, settled_by, tokens_give, vcd_capture, whole_head}
use Rattle.text_parts.specs.Reading.{read_front}
use Rattle.capture_vcd.specs.Within.{statements_read}
use Rattle.capture_vcd.specs.Laws.{GoesOn, LongerGoesOn, PinsLeaveTheEnding, PinsLeaveTheHead}
use Rattle.capture_vcd.proofs.Headers.{header_more, header_whole}
use Rattle.text_parts.proofs.FrontLemmas.{front_keeps, front_none, front_some}
use Rattle.capture_vcd.proofs.Bodies.{first_stays, front_rises, statements_more, words_longer}
use Rattle.capture_vcd.proofs.Grammar.{capture_read, tokens_read, tokens_same}

goes_same : (down : ℕ) (front whole : Captured) → whole ≡ front → GoesOn down front whole
goes_same down front whole same = record {
  settled = λ some. ([], ap (λ (c : Captured). c.settled) same ∙ sym (append-nil front.settled));
  fault = λ fault e. same;
  good = λ names num den e. ap (λ (c : Captured). c.head) same ∙ e;
  bad = λ fault e. ap (λ (c : Captured). c.head) same ∙ e;
}

module _ (down : ℕ) (some : 0 < down) where
  below_next : (m : ℕ) → m < down * (m / down) + down
  below_next m = let e : down * (m / down) ≡ m / down * down = grind arith in omega (arith, e, mod-add-div' m down)

  div_below : (m n : ℕ) → m < down * n + down → m / down ≤ n
  div_below m n less = by_place (cases_lt n (m / down)) where
    by_place : (n < m / down) ⊎ (m / down ≤ n) → m / down ≤ n
    by_place (inr within) = within
    by_place (inl above) =
        let more : down * (n + 1) ≤ down * (m / down) = mul-le-mul_left down (omega (arith, above)) in
        let e : down * (n + 1) ≡ down * n + down = grind arith in
        absurd (omega (arith, more, e, mul-div-le m down, less))

  -- no fewer samples with a later time, however it ends
  pub count_grows : (how : Ending) (x y : ℕ) → x ≤ y → samples_before x down ≤ count_by how y down
  count_grows Clean x y few =
      let e : down * (y / down + 1) ≡ down * (y / down) + down = grind arith in
      div_below (x + down - 1) (y / down + 1) (omega (arith, few, some, e, below_next y))
  count_grows (Faulty fault) x y few = div_below (x + down - 1) ((y + down - 1) / down) (omega (arith, few, some, below_next (y + down - 1)))
  count_grows Open x y few = div_below (x + down - 1) ((y + down - 1) / down) (omega (arith, few, some, below_next (y + down - 1)))

  -- the settled samples stand before the last time
  pub before_last : (start last k : ℕ) → k < samples_before (last - start) down → start + k * down < last
  before_last start last k less =
      let more : down * (k + 1) ≤ down * ((last - start + down - 1) / down) = mul-le-mul_left down (omega (arith, less)) in
      let e : down * (k + 1) ≡ k * down + down = grind arith in
      omega (arith, more, e, mul-div-le (last - start + down - 1) down, some)

module _ (down : ℕ) where
  module _ (head : Head) (channels : List Channel) where
    abbrev body : Ending → List Event × Option CaptureFault → Captured
    body how read = body_by down head channels how read

    -- a body with a fault ends so, whatever its tokens do
    same_fault : (how other : Ending) (read : List Event × Option CaptureFault) (fault : CaptureFault) → read.1 ≡ Some fault → body how read ≡ body other read
    same_fault how other read fault is =
        ap (λ (o : Option CaptureFault). body how (read.0, o)) is ∙ sym (ap (λ (o : Option CaptureFault). body other (read.0, o)) is)

    -- more events, none of them before the last time
    settled_more : 0 < down → (events rest : List Event) (how : Ending) (first last : Option ℕ) → first_time events ≡ first → last_time None events ≡ last
        → ((end : ℕ) → last ≡ Some end → (later : ℕ) × (last_time None (events ++ rest) ≡ Some later) × (end ≤ later))
        → (more : List ℕ) × (settled_by down channels (events ++ rest) how (first_time (events ++ rest)) (last_time None (events ++ rest)) ≡ settled_by down channels events Open first last ++ more)
    settled_more some events rest how None last first_is last_is rises = (_, refl)
    settled_more some events rest how (Some start) None first_is last_is rises = (_, refl)
    settled_more some events rest how (Some start) (Some end) first_is last_is rises =
        let later = rises end refl in
        let longer = words_longer channels events rest start down (samples_before (end - start) down) (count_by how (later.0 - start) down) end
        (count_grows down some how (end - start) (later.0 - start) (omega (arith, later.2))) last_is (λ k less. before_last down some start end k less) in
        (longer.0, (λ i. settled_by down channels (events ++ rest) how (first_stays events rest start first_is i) (later.1 i)) ∙ longer.1)

    pub statements_on : (how : Ending) (tokens more : List Placed) → (others : List Statement) × (statements_read how (tokens ++ more) ≡ statements_from Free tokens ++ others)
    statements_on Clean tokens more = (_, ap (λ (l : List Statement). l ++ hanging (within_behind Free (tokens ++ more))) (statements_more Free tokens more) ∙ append_assoc (statements_from Free tokens) (statements_from (within_behind Free tokens) more) (hanging (within_behind Free (tokens ++ more))))
    statements_on (Faulty fault) tokens more = (_, statements_more Free tokens more)
    statements_on Open tokens more = (_, statements_more Free tokens more)

    pub body_goes : (how : Ending) (parts others : List Statement) → GoesOn down (body Open (read_front event_of [] parts)) (body how (read_front event_of [] (parts ++ others)))
    body_goes how parts others = by_fault (read_front event_of [] parts).1 refl where
      read : List Event × Option CaptureFault
      read = read_front event_of [] parts

      by_fault : (o : Option CaptureFault) → read.1 ≡ o → GoesOn down (body Open read) (body how (read_front event_of [] (parts ++ others)))
      by_fault (Some fault) is = goes_same down _ _ (ap (λ (r : List Event × Option CaptureFault). body how r) (front_some event_of [] parts others fault is) ∙ same_fault how Open read fault is)
      by_fault None is =
          let on = front_none event_of [] parts others is in
          let next = read_front event_of read.0 others in
          let keeps = front_keeps event_of read.0 others in
          let ending : body_ending Open read.1 ≡ Open = ap (λ (o : Option CaptureFault). body_ending Open o) is in
          record {
            settled = λ some.
                let more = settled_more some read.0 keeps.0 (body_ending how next.1) (first_time read.0) (last_time None read.0) refl refl
                (λ end e. let later = front_rises read.0 others end e in (later.0, ap (λ (l : List Event). last_time None l) (sym keeps.1) ∙ later.1, later.2)) in (
                  more.0,
                  ap (λ (r : List Event × Option CaptureFault). (body how r).settled) on
                      ∙ ap (λ (l : List Event). settled_by down channels l (body_ending how next.1) (first_time l) (last_time None l)) keeps.1
                      ∙ more.1
                      ∙ ap (λ (e : Ending). settled_by down channels read.0 e (first_time read.0) (last_time None read.0) ++ more.0) (sym ending),
                );
            fault = λ fault e. let bad = sym ending ∙ e in cc;
            good = λ names num den e. e;
            bad = λ fault e. e;
          }

  module _ (pins : List ℕ) where
    abbrev cap : Ending → Option (List Placed) → List Declared × Option CaptureFault → Captured
    cap how tokens read = capture_read down pins how tokens read.0 (head_in down how tokens read.0 read.1)

    -- a header that is whole
    whole_goes : (how : Ending) (tokens more : List Placed) (declared : List Declared) (fault : Option CaptureFault) (scale : Option (ℕ × ℕ)) → scale_in None declared ≡ scale
        → GoesOn down (cap Open (Some tokens) (declared, fault)) (cap how (Some (tokens ++ more)) (declared, fault))
    whole_goes how tokens more declared (Some fault) scale is = goes_same down _ _ refl
    whole_goes how tokens more declared None None is =
        let H = λ (h : Ending) (l : List Placed) (s : Option (ℕ × ℕ)). capture_read down pins h (Some l) declared (whole_head down (channels_of declared) s) in
        goes_same down _ _ (ap (λ (s : Option (ℕ × ℕ)). H how (tokens ++ more) s) is ∙ sym (ap (λ (s : Option (ℕ × ℕ)). H Open tokens s) is))
    whole_goes how tokens more declared None (Some scale) is =
        let H = λ (h : Ending) (l : List Placed) (s : Option (ℕ × ℕ)). capture_read down pins h (Some l) declared (whole_head down (channels_of declared) s) in
        let head = Good (channels_of declared) scale.1 (scale.0 * down) in
        let ch = chosen (bits_in declared) pins in
        let on = statements_on head ch how tokens more in
        let G : Option (ℕ × ℕ) → Type 0 = λ (s : Option (ℕ × ℕ)). GoesOn down (H Open tokens s) (H how (tokens ++ more) s) in
        subst G (sym is)
        (subst (λ (l : List Statement). GoesOn down (body_by down head ch Open (read_front event_of [] (statements_from Free tokens))) (body_by down head ch how (read_front event_of [] l))) (sym on.1)
        (body_goes head ch how (statements_from Free tokens) on.0))

    -- one that isn't
    part_goes : (how : Ending) (tokens : Option (List Placed)) (parts others : List Section) → GoesOn down (cap Open None (read_front declared_by [] parts)) (cap how tokens (read_front declared_by [] (parts ++ others)))
    part_goes how tokens parts others = by_fault (read_front declared_by [] parts).1 refl where
      read : List Declared × Option CaptureFault
      read = read_front declared_by [] parts

      by_fault : (o : Option CaptureFault) → read.1 ≡ o → GoesOn down (cap Open None read) (cap how tokens (read_front declared_by [] (parts ++ others)))
      by_fault (Some fault) is =
          goes_same down _ _ (ap (λ (r : List Declared × Option CaptureFault). cap how tokens r) (front_some declared_by [] parts others fault is)
          ∙ ap (λ (o : Option CaptureFault). cap how tokens (read.0, o)) is ∙ sym (ap (λ (o : Option CaptureFault). cap Open None (read.0, o)) is))
      by_fault None is =
          let cut : cap Open None read ≡ record { head = Unread; settled = []; ending = Open } = ap (λ (o : Option CaptureFault). cap Open None (read.0, o)) is in
          let whole = cap how tokens (read_front declared_by [] (parts ++ others)) in
          subst (λ (c : Captured). GoesOn down c whole) (sym cut) (record {
            settled = λ some. (whole.settled, refl);
            fault = λ fault e. cc;
            good = λ names num den e. cc;
            bad = λ fault e. cc;
          })

    tokens_go : (front whole : Fed) → Extends front whole → GoesOn down (tokens_read down pins front) (tokens_read down pins whole)
    tokens_go front whole (inr same) = goes_same down _ _ (ap (λ (f : Fed). tokens_read down pins f) same.2)
    tokens_go front whole (inl cut) =
        let G : Ending → List Placed → Fed = λ (h : Ending) (l : List Placed). record { items = l; ending = h } in
        subst (λ (h : Ending). GoesOn down (tokens_read down pins (G h front.items)) (tokens_read down pins whole)) (sym cut.0)
        (subst (λ (l : List Placed). GoesOn down (tokens_read down pins (G Open front.items)) (tokens_read down pins (G whole.ending l))) (sym cut.2)
        (by_body (header_from None front.items).body refl))
      where
        first : header.Cut
        first = header_from None front.items

        by_body : (o : Option (List Placed)) → first.body ≡ o → GoesOn down (cap Open first.body (read_front declared_by [] first.sections))
            (cap whole.ending (header_from None (front.items ++ cut.1)).body (read_front declared_by [] (header_from None (front.items ++ cut.1)).sections))
        by_body (Some tokens) is =
            let on = header_whole None front.items cut.1 tokens is in
            let read = read_front declared_by [] first.sections in
            subst (λ (c : header.Cut). GoesOn down (cap Open first.body read) (cap whole.ending c.body (read_front declared_by [] c.sections))) (sym on)
            (subst (λ (o : Option (List Placed)). GoesOn down (cap Open o read) (cap whole.ending (Some (tokens ++ cut.1)) read)) (sym is)
            (whole_goes whole.ending tokens cut.1 read.0 read.1 (scale_in None read.0) refl))
        by_body None is =
            let on = header_more None front.items cut.1 is in
            let read = read_front declared_by [] first.sections in
            subst (λ (c : header.Cut). GoesOn down (cap Open first.body read) (cap whole.ending c.body (read_front declared_by [] c.sections))) (sym on.1)
            (subst (λ (o : Option (List Placed)). GoesOn down (cap Open o read) (cap whole.ending on.0.body (read_front declared_by [] (first.sections ++ on.0.sections)))) (sym is)
            (part_goes whole.ending on.0.body first.sections on.0.sections))

pub longer_goes_on : LongerGoesOn
unfolding vcd_capture
longer_goes_on down pins front more told =
    let one = tokens_same down pins (tokens_of front Cut) in
    let all = tokens_same down pins (tokens_of (front ++ more) told) in
    subst (λ (c : Captured). GoesOn down c (tokens_give down pins (tokens_of (front ++ more) told))) (sym one)
    (subst (λ (c : Captured). GoesOn down (tokens_read down pins (tokens_of front Cut)) c) (sym all) (tokens_go down pins (tokens_of front Cut) (tokens_of (front ++ more) told) (tokens_extend front more told)))

-- a file's head is the one that its header says
head_is : (down : ℕ) (pins : List ℕ) (how : Ending) (tokens : Option (List Placed)) (declared : List Declared) (head : Head) → (capture_by down pins how tokens declared head).head ≡ head
head_is down pins how tokens declared (Bad fault) = refl
head_is down pins how tokens declared Unread = refl
head_is down pins how tokens declared (Good names num den) = refl

pub pins_leave_the_head : PinsLeaveTheHead
unfolding vcd_capture
pins_leave_the_head down pins others bytes told =
    let fed = tokens_of bytes told in
    let cut = header_from None fed.items in
    let read = read_front declared_by [] cut.sections in
    let head = head_in down fed.ending cut.body read.0 read.1 in
    head_is down pins fed.ending cut.body read.0 head ∙ sym (head_is down others fed.ending cut.body read.0 head)

-- how a file ends is what its tokens and its statements say
abbrev ending_of : ℕ → Ending → Option (List Placed) → List Declared → Head → Ending
ending_of down how tokens declared head = (capture_by down [] how tokens declared head).ending

ending_is : (down : ℕ) (pins : List ℕ) (how : Ending) (tokens : Option (List Placed)) (declared : List Declared) (head : Head) → (capture_by down pins how tokens declared head).ending ≡ ending_of down how tokens declared head
ending_is down pins how tokens declared (Bad fault) = refl
ending_is down pins how tokens declared Unread = refl
ending_is down pins how tokens declared (Good names num den) = refl

pub pins_leave_the_ending : PinsLeaveTheEnding
unfolding vcd_capture
pins_leave_the_ending down pins others bytes told =
    let fed = tokens_of bytes told in
    let cut = header_from None fed.items in
    let read = read_front declared_by [] cut.sections in
    let head = head_in down fed.ending cut.body read.0 read.1 in
    ending_is down pins fed.ending cut.body read.0 head ∙ sym (ending_is down others fed.ending cut.body read.0 head)
