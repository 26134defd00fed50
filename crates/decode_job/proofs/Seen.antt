-- What was written, with the notes that were seen of it.
use Rattle.std.proofs.Common.{ℕ, All, List, [], Option, refl}
use Rattle.std.specs.Io.KnownBytes.{Appends}
use Rattle.std.proofs.lemmas.List.{append-nil}
use Rattle.la_io.specs.Capture.{Told}
use Rattle.la_io.specs.Causes.{AppendsFront}
use Rattle.la_io.specs.declared.outside.Sink.{Ghosts as SinkGhosts}
use Rattle.la_io.specs.declared.outside.Source.{Ghosts as SourceGhosts}
use Rattle.la_io.proofs.Fronts.{front_whole}
use Rattle.capture_any.specs.Captures.{ToldAt}
use Rattle.capture_any.specs.Listings.{Lists}
use Rattle.capture_any.specs.Reading.{Stands, form_of, pins_of}
use Rattle.capture_any.specs.declared.capture.Capture.{Capture}
use Rattle.capture_any.specs.declared.end.ListingEnd.{ListingEnd}
use Rattle.capture_any.proofs.ListingLemmas.{lists_on}
use Rattle.decoder_core.specs.declared.machine.Machine.{Ghosts as MachineGhosts}
use Rattle.note_order.specs.declared.entry.Entry.{Entry}
use Rattle.stack_words.specs.declared.stack.Stack.{Stack}
use Rattle.decode_job.specs.Decoding.{Decodes, notes, output}
use Rattle.decode_job.specs.Seen.{SeesFirst, WritesFrontSeen, WritesSeen}

module _ (saw : List Entry → Type 0) where
  -- all of them, or none
  pub first_all : (notes : List Entry) → saw notes → SeesFirst saw notes
  first_all notes seen = record { seen = notes; begins = ([], append-nil notes); are_seen = seen }

  pub first_none : (notes : List Entry) → saw [] → SeesFirst saw notes
  first_none notes seen = record { seen = []; begins = (notes, refl); are_seen = seen }

  -- what was written whole is a front
  pub front_seen : (old new : Option (List ℕ)) (bytes : List ℕ) (notes : List Entry) → WritesSeen saw old new bytes notes → WritesFrontSeen saw old new bytes notes
  front_seen old new bytes notes all = record {
    front = front_whole old new bytes all.whole;
    seen = first_all notes all.seen;
  }

-- what was written by a decoding, whatever was seen of it
module _ {M Q S K : Type 0} (m : MachineGhosts M Q) (s : SourceGhosts S) (k : SinkGhosts K) (stack : Stack) (machines : List M) (parents : List (Option ℕ)) (capture : Capture) (source_old source_new : S)
    (sink_old sink_new : K) (saw : List Entry → Type 0) (end : ListingEnd) where
  abbrev old : Option (List ℕ)
  old = k.written sink_old

  abbrev new : Option (List ℕ)
  new = k.written sink_new

  abbrev out : List ℕ → List ℕ
  out = output m s k stack machines parents

  abbrev to_see : List ℕ → List Entry
  to_see = notes m s k stack machines parents

  pub lists_written : Decodes m s k stack machines parents capture source_old source_new sink_old sink_new saw end
      → (before : List ℕ) (told : Told) → ToldAt told (s.left source_old) → Stands capture before told [] → All (λ machine. m.consumed machine []) machines
      → Lists (form_of capture) (pins_of capture) (λ l. Appends old new (out l)) (λ l. AppendsFront old new (out l)) before told (s.left source_old) (s.left source_new) end
  lists_written decodes before told at stands fresh =
      lists_on (form_of capture) (pins_of capture) (λ l. WritesSeen saw old new (out l) (to_see l)) (λ l. WritesFrontSeen saw old new (out l) (to_see l)) before told (s.left source_old) (s.left source_new)
      (λ l. AppendsFront old new (out l)) (λ l front. front.front) (λ l. Appends old new (out l)) (λ l all. all.whole) end (decodes.lists before told at stands fresh)
