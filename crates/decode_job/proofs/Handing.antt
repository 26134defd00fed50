-- What a sink got through a buffer before it, and what was seen.
use Rattle.std.proofs.Common.{◌≡◌, ◌≢◌, ℕ, ◌≤◌, List, [], Option, refl, ◌∙◌, ap, subst}
use Rattle.la_io.specs.Buffer.{BufferGoesOn, HandsOn, behind, got_by, held_by}
use Rattle.la_io.specs.Capture.{Told}
use Rattle.la_io.specs.Causes.{Rose}
use Rattle.la_io.specs.Grown.{appends_nothing}
use Rattle.la_io.specs.declared.buffered.Buffered.{Buffered}
use Rattle.la_io.proofs.Buffering.{all_handed, front_handed, front_through}
use Rattle.la_io.proofs.Fronts.{front_longer, front_whole}
use Rattle.capture_any.specs.Captures.{ToldAt}
use Rattle.capture_any.specs.Listings.{Fails, Lists, WriteCause}
use Rattle.capture_any.specs.Reading.{Stands, form_of, pins_of}
use Rattle.capture_any.specs.declared.capture.Capture.{Capture}
use Rattle.capture_any.specs.declared.end.ListingEnd.{ListingEnd}
use Rattle.capture_any.specs.declared.end.ListingEnd.TheVariants.{Done, Fault, NoMemory, Read, Write}
use Rattle.capture_any.specs.declared.form.Form.{Form}
use Rattle.capture_any.proofs.ListingLemmas.{gave_nothing, lists_cut, lists_on, lists_write, same_still}
use Rattle.note_order.specs.declared.entry.Entry.{Entry}
use Rattle.decode_job.specs.Seen.{WritesFrontSeen, WritesSeen}
use Rattle.decode_job.proofs.FeedLemmas.{as_cut}
use Rattle.decode_job.proofs.Seen.{first_none, front_seen}

module _ {K : Type 0} (written : K → Option (List ℕ)) (goes_on : K → K → Type 0) (first : Buffered K) (old new : K) (from : behind first ≡ old) (empty : held_by first ≡ []) (out : List ℕ → List ℕ) (notes : List ℕ → List Entry) (saw : List Entry → Type 0)
    (form : Form) (pins before : List ℕ) (told : Told) (left_old left_new : Option (List ℕ)) where
  abbrev All : Option (List ℕ) → Option (List ℕ) → List ℕ → Type 0
  All a b l = WritesSeen saw a b (out l) (notes l)

  abbrev Front : Option (List ℕ) → Option (List ℕ) → List ℕ → Type 0
  Front a b l = WritesFrontSeen saw a b (out l) (notes l)

  abbrev Listed : Option (List ℕ) → Option (List ℕ) → ListingEnd → Type 0
  Listed a b end = Lists form pins (All a b) (Front a b) before told left_old left_new end

  -- a front reaches the sink, whatever of it the buffer keeps
  through : (given : List ℕ) (last : Buffered K) → Front (got_by written first) (got_by written last) given → BufferGoesOn written goes_on first last → behind last ≡ new → Front (written old) (written new) given
  through given last front on to = record {
    front = front_through written goes_on first old new (out given) from empty last front.front on to;
    seen = front.seen;
  }

  handed : (given : List ℕ) (mid last : Buffered K) → Front (got_by written first) (got_by written mid) given → BufferGoesOn written goes_on first mid → HandsOn written mid last → behind last ≡ new → Front (written old) (written new) given
  handed given mid last front on hands to = record {
    front = front_handed written goes_on first old new (out given) from empty mid last front.front on hands to;
    seen = front.seen;
  }

  -- a write failed on the way
  pub cut_through : (last : Buffered K) (end : ListingEnd) → Listed (got_by written first) (got_by written last) end → BufferGoesOn written goes_on first last → behind last ≡ new → Listed (written old) (written new) Write
  cut_through last end lists on to =
      lists_cut form pins (All (got_by written first) (got_by written last)) (Front (got_by written first) (got_by written last)) before told left_old left_new (Front (written old) (written new))
      (λ given front. through given last front on to)
      (λ given all. through given last (front_seen saw (got_by written first) (got_by written last) (out given) (notes given) all) on to)
      end lists (All (written old) (written new)) Write tt

  -- what was held couldn't be handed on
  pub cut_handed : (mid last : Buffered K) (end : ListingEnd) → Listed (got_by written first) (got_by written mid) end → BufferGoesOn written goes_on first mid → HandsOn written mid last → behind last ≡ new → Listed (written old) (written new) Write
  cut_handed mid last end lists on hands to =
      lists_cut form pins (All (got_by written first) (got_by written mid)) (Front (got_by written first) (got_by written mid)) before told left_old left_new (Front (written old) (written new))
      (λ given front. handed given mid last front on hands to)
      (λ given all. handed given mid last (front_seen saw (got_by written first) (got_by written mid) (out given) (notes given) all) on hands to)
      end lists (All (written old) (written new)) Write tt

  -- all was handed on
  pub all_through : (mid last : Buffered K) (end : ListingEnd) → Listed (got_by written first) (got_by written mid) end → BufferGoesOn written goes_on first mid → HandsOn written mid last → held_by last ≡ [] → behind last ≡ new → Listed (written old) (written new) end
  all_through mid last end lists on hands none to =
      lists_on form pins (All (got_by written first) (got_by written mid)) (Front (got_by written first) (got_by written mid)) before told left_old left_new (Front (written old) (written new))
      (λ given front. handed given mid last front on hands to)
      (All (written old) (written new))
      (λ given all. record { whole = all_handed written goes_on first old new (out given) from empty mid last all.whole hands none to; seen = all.seen })
      end lists

-- a sink's count stays where the end isn't Write
pub write_kept : (before now : ℕ) (end : ListingEnd) → end ≢ Write → WriteCause before now end → now ≡ before
write_kept before now Done other c = c
write_kept before now Read other c = c
write_kept before now Write other c = absurd (other refl)
write_kept before now (Fault fault) other c = c
write_kept before now NoMemory other c = c

-- a count that stayed, and then rose
pub fails_through : {K : Type 0} (faults : K → ℕ) (old first mid last new : K) → first ≡ old → faults mid ≡ faults first → faults mid ≤ faults last → Rose (faults mid) (faults last) → last ≡ new → Fails (faults old) (faults new)
fails_through faults old first mid last new from kept later rose to =
    let start = kept ∙ ap faults from in
    subst (λ (n : ℕ). Fails (faults old) n) (ap faults to) (subst (λ (n : ℕ). Fails n (faults last)) start (later, rose))

-- nothing was read, and nothing written or seen
pub nothing_done : (capture : Capture) (before : List ℕ) (told : Told) (left old : Option (List ℕ)) (out : List ℕ → List ℕ) (notes : List ℕ → List Entry) (saw : List Entry → Type 0) → saw [] → ToldAt told left → Stands capture before told []
    → Lists (form_of capture) (pins_of capture) (λ l. WritesSeen saw old old (out l) (notes l)) (λ l. WritesFrontSeen saw old old (out l) (notes l)) before told left left NoMemory
nothing_done capture before told left old out notes saw unseen at stands =
    as_cut (form_of capture) (pins_of capture) (λ l. WritesSeen saw old old (out l) (notes l)) (λ l. WritesFrontSeen saw old old (out l) (notes l)) before told left left NoMemory tt
    (lists_write capture capture (same_still capture) (λ l. WritesSeen saw old old (out l) (notes l)) (λ l. WritesFrontSeen saw old old (out l) (notes l)) before told left left [] (gave_nothing capture before told left at stands)
    (λ rest. record { front = front_longer old old [] (out rest) (front_whole old old [] (appends_nothing old)); seen = first_none saw (notes rest) unseen }))
