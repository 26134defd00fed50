-- What a shelf has of a decoding.
use Rattle.std.proofs.Common.{◌≡◌, ℕ, ◌≤◌, inl, inr, true, false, List, [], ◌∷◌, ◌++◌, Option, Result, Ok, Err, IfOk, IfErr, MutBor, refl, sym, ◌∙◌, ap, subst, append_assoc, arith}
use Rattle.std.specs.Io.KnownBytes.{Appends, Consumes}
use Rattle.std.proofs.lemmas.List.{map-append}
use Rattle.la_base.specs.declared.wires.Note.{Note}
use Rattle.la_io.specs.Grown.{appends_nothing}
use Rattle.annot_merge.specs.Marks.{Begins}
use Rattle.capture_any.specs.Captures.{ToldAt}
use Rattle.capture_any.specs.Listings.{Says, OfAll, OfFewer, SettledFront}
use Rattle.capture_any.specs.declared.end.ListingEnd.{ListingEnd}
use Rattle.capture_any.specs.declared.end.ListingEnd.TheVariants as ends
use Rattle.capture_any.specs.declared.form.Form.{Form}
use Rattle.la_io.specs.Capture.{Told}
use Rattle.decode_job.proofs.Seen.{front_seen}
use Rattle.decoder_core.specs.Trees.{Node}
use Rattle.decoder_set.specs.declared.setup.Setup.{Setup}
use Rattle.note_order.specs.declared.entry.Entry.{Entry}
use Rattle.stack_words.specs.Accepting.{Accepted}
use Rattle.words.specs.Settings.{Values}
use Rattle.view_store.specs.Listings.{Listing, nothing}
use Rattle.view_store.specs.Views.{pending, published}
use Rattle.view_store.specs.declared.views.ViewWriter.{ViewWriter}
use Rattle.shelf_watch.specs.Shelves.{HasSeen, IsFrontOf, ended_with, pair_of, pairs_of}
use Rattle.run_status.specs.Causes.{SinkCause, SourceCause, WhereUnread}
use Rattle.run_status.specs.Notices.{status_by, status_of}
use Rattle.run_status.specs.declared.status.Status.{Status}
use Rattle.run_status.specs.declared.status.Status.TheVariants.{Bind, Capture, Check, Done, NoMemory, ReadFault, Stack, Words, WriteFault}
use Rattle.run_asks.specs.Refusing.{Refuses, RefusesOn}
use Rattle.run_asks.specs.Parting.{Saves}
use Rattle.ldecode.specs.Decoding.{decode_listing, decode_notes}
use Rattle.ldecode.specs.Headline.{DecodedAs, DecodesOn, IsBegun, IsListed, Works, WorksOn}
use Rattle.ldecode.specs.Watching.{EndsShelf, IsSeen, IsSeenFront, IsShelved, IsShown, IsShownFront, ShelvesOn, is_whole, shelf_without}
use Rattle.ldecode.proofs.Decoding.{by_says, decodes_cut, decodes_front, decodes_less, decodes_whole, works_decoded}
use Rattle.ldecode.proofs.Working.{refused_works}

-- of a decoding something was seen
module _ (saw : List Entry → Type 0) (old new : Option (List ℕ)) (a : Accepted) (n : List (Node Setup)) where
  some_front : (form : Form) (pins bytes : List ℕ) (told : Told) → SettledFront form pins (IsSeenFront saw old new a n) bytes told → (entries : List Entry) × saw entries
  some_front form pins bytes told (OfAll front) = (front.seen.seen, front.seen.are_seen)
  some_front form pins bytes told (OfFewer count less wants front) = (front.seen.seen, front.seen.are_seen)

  some_says : (form : Form) (pins bytes : List ℕ) (told : Told) (end : ListingEnd) → Says form pins (IsSeen saw old new a n) (IsSeenFront saw old new a n) bytes told end → (entries : List Entry) × saw entries
  some_says form pins bytes told ends.Done s = (_, s.2.seen)
  some_says form pins bytes told ends.Read s = (_, s.1.seen)
  some_says form pins bytes told ends.Write s = some_front form pins bytes told s
  some_says form pins bytes told (ends.Fault fault) s = (_, s.1.seen)
  some_says form pins bytes told ends.NoMemory s = some_front form pins bytes told s

-- something was seen of a decoding that ended, and of one that couldn't begin nothing
pub some_seen : (P : Type 0) (values : Values) (saw : List Entry → Type 0) (left_old left_new old new : Option (List ℕ)) (ended : Result ListingEnd Status)
    → IfOk ended (DecodesOn values (IsSeen saw old new) (IsSeenFront saw old new) left_old left_new) → IfErr ended (λ status. P × saw []) → (entries : List Entry) × saw entries
some_seen P values saw left_old left_new old new (Ok end) d none = some_says saw old new d.decoded.accepted d.decoded.nodes d.decoded.head.form d.decoded.pins d.bytes d.told end d.decoded.says
some_seen P values saw left_old left_new old new (Err status) d none = ([], none.1)

module _ (values : Values) (lent now : MutBor ViewWriter) (left_old left_new old new : Option (List ℕ)) (shelf : Listing) where
  abbrev saw : List Entry → Type 0
  saw = HasSeen lent now

  shown_whole : shelf ≡ ended_with (pending now.now) → (a : Accepted) (n : List (Node Setup)) (l : List ℕ) → IsSeen saw old new a n l → IsShown old new shelf a n l
  shown_whole same a n l all = record {
    written = all.whole;
    notes = ap (λ (s : Listing). s.notes) same ∙ all.seen.notes;
    ended = ap (λ (s : Listing). s.ended) same;
  }

  more_pairs : (first rest all : List Entry) → first ++ rest ≡ all → pairs_of first ++ pairs_of rest ≡ pairs_of all
  more_pairs first rest all is = sym (map-append pair_of first rest) ∙ ap pairs_of is

  -- a listing begins what it began
  longer : (first all : List Entry) → Begins first all → (listing : Listing) → IsFrontOf (pairs_of first) listing → IsFrontOf (pairs_of all) listing
  longer first all begins listing front = record {
    first = (front.first.0 ++ pairs_of begins.0, sym (append_assoc listing.notes front.first.0 (pairs_of begins.0)) ∙ (ap (λ (l : List (ℕ × Note)). l ++ pairs_of begins.0) front.first.1 ∙ more_pairs first begins.0 all begins.1));
    going = front.going;
  }

  shown_front : shelf ≡ published now.now → (a : Accepted) (n : List (Node Setup)) (l : List ℕ) → IsSeenFront saw old new a n l → IsShownFront old new shelf a n l
  shown_front same a n l front = record {
    written = front.front;
    notes = longer front.seen.seen (decode_notes a n l) front.seen.begins shelf (subst (IsFrontOf (pairs_of front.seen.seen)) (sym same) front.seen.are_seen.front);
  }

  cut_front : shelf ≡ published now.now → (a : Accepted) (n : List (Node Setup)) (l : List ℕ) → IsSeen saw old new a n l → IsShownFront old new shelf a n l
  cut_front same a n l all = shown_front same a n l (front_seen saw old new (decode_listing a n l) (decode_notes a n l) all)

  module _ (status : Status) where
    shelved_end : (end : ListingEnd) → DecodesOn values (IsSeen saw old new) (IsSeenFront saw old new) left_old left_new end → EndsShelf (status_of end) (pending now.now) (published now.now) status shelf → ShelvesOn values left_old left_new old new shelf status
    shelved_end end d (inl (whole, same, is)) =
        let shown = decodes_whole values (IsSeen saw old new) (IsSeenFront saw old new) left_old left_new end d (IsShown old new shelf) (IsShownFront old new shelf) whole (shown_whole is) in
        record { bytes = shown.bytes; told = shown.told; taken = shown.taken; at_end = shown.at_end; shelved = inl (end, same, shown.decoded) }
    shelved_end end d (inr (inl (whole, same, is))) =
        let shown = decodes_cut values (IsSeen saw old new) (IsSeenFront saw old new) left_old left_new end d (IsShown old new shelf) (IsShownFront old new shelf) (cut_front is) (shown_front is) in
        record { bytes = shown.bytes; told = shown.told; taken = shown.taken; at_end = shown.at_end; shelved = inl (ends.NoMemory, same, shown.decoded) }
    shelved_end end d (inr (inr (front, same, is))) =
        let shown = decodes_front values (IsSeen saw old new) (IsSeenFront saw old new) left_old left_new end d (IsShown old new shelf) (IsShownFront old new shelf) front (shown_front is) in
        record { bytes = shown.bytes; told = shown.told; taken = shown.taken; at_end = shown.at_end; shelved = inl (end, same, shown.decoded) }

    whole_empty : (s : Status) → is_whole s ≡ true → shelf_without s ≡ ended_with nothing
    whole_empty Done is = refl
    whole_empty (Words fault) is = refl
    whole_empty (Stack fault) is = refl
    whole_empty (Bind fault) is = refl
    whole_empty (Check fault) is = refl
    whole_empty ReadFault is = refl
    whole_empty (Capture fault) is = refl
    whole_empty WriteFault is = cc
    whole_empty NoMemory is = cc

    -- nothing is pending on it, and nothing published
    pending_none : saw [] → pending now.now ≡ nothing
    pending_none seen = let notes = seen.notes in let going = seen.going in λ i. record { notes = notes i; ended = going i }

    none_before : {A : Type 0} (xs rest : List A) → xs ++ rest ≡ [] → xs ≡ []
    none_before [] rest is = refl
    none_before (x ∷ xs) rest is = cc

    published_none : saw [] → published now.now ≡ nothing
    published_none seen = let notes = none_before (published now.now).notes seen.front.first.0 seen.front.first.1 in let going = seen.front.going in λ i. record { notes = notes i; ended = going i }

    shelved_not : (before : Status) → RefusesOn values left_old left_new before → Appends old new [] → saw [] → EndsShelf before (pending now.now) (published now.now) status shelf → ShelvesOn values left_old left_new old new shelf status
    shelved_not before r none seen (inl (whole, same, is)) = record {
      bytes = r.bytes;
      told = r.told;
      taken = r.taken;
      at_end = r.at_end;
      shelved = subst (λ (s : Status). IsShelved values r.bytes r.told old new shelf s) (sym same) (inr (r.refuses, none, is ∙ (ap ended_with (pending_none seen) ∙ sym (whole_empty before whole))));
    }
    shelved_not before r none seen (inr (inl (whole, same, is))) = record {
      bytes = r.bytes;
      told = r.told;
      taken = r.taken;
      at_end = r.at_end;
      shelved = subst (λ (s : Status). IsShelved values r.bytes r.told old new shelf s) (sym same) (inr (tt, none, is ∙ published_none seen));
    }
    shelved_not before r none seen (inr (inr (front, same, is))) = record {
      bytes = r.bytes;
      told = r.told;
      taken = r.taken;
      at_end = r.at_end;
      shelved = subst (λ (s : Status). IsShelved values r.bytes r.told old new shelf s) (sym same) (inr (r.refuses, none, is ∙ (published_none seen ∙ sym (front_empty before front r.bytes r.told r.refuses))));
    }
      where
        front_empty : (s : Status) → is_whole s ≡ false → (bytes : List ℕ) (told : Told) → Refuses values bytes told s → shelf_without s ≡ nothing
        front_empty Done is bytes told r = cc
        front_empty (Words fault) is bytes told r = cc
        front_empty (Stack fault) is bytes told r = cc
        front_empty (Bind fault) is bytes told r = cc
        front_empty (Check fault) is bytes told r = cc
        front_empty ReadFault is bytes told r = cc
        front_empty (Capture fault) is bytes told r = cc
        front_empty WriteFault is bytes told r = absurd r
        front_empty NoMemory is bytes told r = refl

    -- the shelf of a decoding, however it went
    pub shelved : (ended : Result ListingEnd Status) → IfOk ended (DecodesOn values (IsSeen saw old new) (IsSeenFront saw old new) left_old left_new) → IfErr ended (RefusesOn values left_old left_new) → IfErr ended (λ s. Appends old new [] × saw [])
        → EndsShelf (status_by ended) (pending now.now) (published now.now) status shelf → ShelvesOn values left_old left_new old new shelf status
    shelved (Ok end) d r none ends = shelved_end end d ends
    shelved (Err before) d r none ends = shelved_not before r none.0 none.1 ends

-- what couldn't begin has written nothing, and nothing was seen
pub none_seen : {K W : Type 0} (bytes : K → Option (List ℕ)) (saw : W → List Entry → Type 0) (old new : K) (before now : W) → saw before [] → (ended : Result ListingEnd Status) → IfErr ended (λ s. (new ≡ old) × (now ≡ before)) → IfErr ended (λ s. Appends (bytes old) (bytes new) [] × saw now [])
none_seen bytes saw old new before now none (Ok end) same = tt
none_seen {K} {W} bytes saw old new before now none (Err status) same = (subst (λ (k : K). Appends (bytes old) (bytes k) []) (sym same.0) (appends_nothing (bytes old)), subst (λ (w : W). saw w []) (sym same.1) none)

-- what was written, beside a shelf
module _ (saves : Saves) (values : Values) (left_old left_new old new : Option (List ℕ)) (shelf : Listing) where
  pub listed : (bytes : List ℕ) (told : Told) (end : ListingEnd) → Consumes left_old left_new bytes → ToldAt told left_new → DecodedAs values (IsShown old new shelf) (IsShownFront old new shelf) bytes told end → Works saves values bytes told old new (status_of end)
  unfolding works_decoded decodes_less by_says
  listed bytes told end taken at_end d =
      (works_decoded saves values left_old left_new old new end (decodes_less values (IsShown old new shelf) (IsShownFront old new shelf) left_old left_new end (record { bytes = bytes; told = told; taken = taken; at_end = at_end; decoded = d }) (IsListed old new) (IsBegun old new) (λ a n l all. all.written) (λ a n l front. front.written))).works

  unfoldable pub works_shelved : (status : Status) → ShelvesOn values left_old left_new old new shelf status → WorksOn saves values left_old left_new old new status
  works_shelved status s = record {
    bytes = s.bytes;
    told = s.told;
    taken = s.taken;
    at_end = s.at_end;
    works = by s.shelved;
  }
    where
      by : IsShelved values s.bytes s.told old new shelf status → Works saves values s.bytes s.told old new status
      by (inl (end, is, d)) = subst (Works saves values s.bytes s.told old new) (sym is) (listed s.bytes s.told end s.taken s.at_end d)
      by (inr (refuses, none, is)) = refused_works saves values s.bytes s.told old new none status refuses

-- the causes of a status are those of one for which there was no memory on a shelf
pub shelf_source : (before now : ℕ) (status : Status) (pending published shelf : Listing) (last : Status) → EndsShelf status pending published last shelf → SourceCause before now status → SourceCause before now last
shelf_source before now status pending published shelf last (inl (whole, same, is)) c = subst (SourceCause before now) (sym same) c
shelf_source before now status pending published shelf last (inr (inl (whole, same, is))) c = subst (SourceCause before now) (sym same) (by status c)
  where
    by : (s : Status) → SourceCause before now s → before ≤ now
    by Done c = omega (arith, c)
    by (Words fault) c = omega (arith, c)
    by (Stack fault) c = omega (arith, c)
    by (Bind fault) c = omega (arith, c)
    by (Check fault) c = omega (arith, c)
    by ReadFault c = c.0
    by (Capture fault) c = omega (arith, c)
    by WriteFault c = c
    by NoMemory c = c
shelf_source before now status pending published shelf last (inr (inr (front, same, is))) c = subst (SourceCause before now) (sym same) c

pub shelf_sink : (before now : ℕ) (status : Status) (pending published shelf : Listing) (last : Status) → EndsShelf status pending published last shelf → SinkCause before now status → SinkCause before now last
shelf_sink before now status pending published shelf last (inl (whole, same, is)) c = subst (SinkCause before now) (sym same) c
shelf_sink before now status pending published shelf last (inr (inl (whole, same, is))) c = subst (SinkCause before now) (sym same) (by status whole c)
  where
    by : (s : Status) → is_whole s ≡ true → SinkCause before now s → now ≡ before
    by Done w c = c
    by (Words fault) w c = c
    by (Stack fault) w c = c
    by (Bind fault) w c = c
    by (Check fault) w c = c
    by ReadFault w c = c
    by (Capture fault) w c = c
    by WriteFault w c = cc
    by NoMemory w c = c
shelf_sink before now status pending published shelf last (inr (inr (front, same, is))) c = subst (SinkCause before now) (sym same) c

pub shelf_unread : (N P : Type 0) (status : Status) (pending published shelf : Listing) (last : Status) → EndsShelf status pending published last shelf → WhereUnread N status P → WhereUnread N last P
shelf_unread N P status pending published shelf last (inl (whole, same, is)) u = subst (λ (s : Status). WhereUnread N s P) (sym same) u
shelf_unread N P status pending published shelf last (inr (inl (whole, same, is))) u = subst (λ (s : Status). WhereUnread N s P) (sym same) tt
shelf_unread N P status pending published shelf last (inr (inr (front, same, is))) u = subst (λ (s : Status). WhereUnread N s P) (sym same) u
