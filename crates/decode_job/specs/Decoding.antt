-- What a decoding gives, whatever the capture.
use Rattle.std.specs.Prelude.{ℕ, ◌≡◌, All, List, [], Option, map}
use Rattle.la_io.specs.Capture.{Told}
use Rattle.la_io.specs.declared.outside.Sink.{Ghosts as SinkGhosts}
use Rattle.la_io.specs.declared.outside.Source.{Ghosts as SourceGhosts}
use Rattle.capture_any.specs.Captures.{ToldAt}
use Rattle.capture_any.specs.Listings.{Lists, ReadCause, WriteCause}
use Rattle.capture_any.specs.Reading.{Stands, form_of, pins_of}
use Rattle.capture_any.specs.declared.capture.Capture.{Capture}
use Rattle.capture_any.specs.declared.end.ListingEnd.{ListingEnd}
use Rattle.decoder_core.specs.declared.machine.Machine.{Ghosts as MachineGhosts}
use Rattle.tree_runs.specs.Runs.{nodes_of}
use Rattle.note_order.specs.declared.entry.Entry.{Entry}
use Rattle.stack_words.specs.Stacks.{stack_meaning}
use Rattle.stack_words.specs.declared.stack.Stack.{Stack}
use Rattle.decode_job.specs.Listing.{tree_notes, tree_output}
use Rattle.decode_job.specs.Seen.{WritesFrontSeen, WritesSeen}

module _ {M Q S K : Type 0} (m : MachineGhosts M Q) (s : SourceGhosts S) (k : SinkGhosts K)
    (stack : Stack) (machines : List M) (parents : List (Option ℕ)) where
  -- what the machines on their places are to write under the stack
  abbrev pub output : List ℕ → List ℕ
  output samples =
      tree_output m.outputs (stack_meaning stack) (nodes_of (map m.setup machines) parents) samples

  -- the notes of that
  abbrev pub notes : List ℕ → List Entry
  notes samples =
      tree_notes m.outputs (stack_meaning stack) (nodes_of (map m.setup machines) parents) samples

  -- a capture was decoded, by machines to which nothing had come: what they are to write on the
  -- settled samples of the bytes that were taken was written, or a front of it, as the end says;
  -- what looked on saw just the notes of that, or the first of them; and each failure has its cause
  pub record Decodes (capture : Capture) (source_old source_new : S) (sink_old sink_new : K)
      (saw : List Entry → Type 0) (end : ListingEnd) : Type 0 where
    pub lists : (before : List ℕ) (told : Told) → ToldAt told (s.left source_old)
        → Stands capture before told [] → All (λ machine. m.consumed machine []) machines
        → Lists (form_of capture) (pins_of capture)
        (λ samples. WritesSeen saw (k.written sink_old) (k.written sink_new) (output samples)
        (notes samples))
        (λ samples. WritesFrontSeen saw (k.written sink_old) (k.written sink_new) (output samples)
        (notes samples))
        before told (s.left source_old) (s.left source_new) end
    pub read : ReadCause (s.faults source_old) (s.faults source_new) end
    pub write : WriteCause (k.faults sink_old) (k.faults sink_new) end

  -- and the sink that it was given went on as it may, and what looked on is over the same
  pub record DecodesOn {W O : Type 0} (saw : W → List Entry → Type 0) (origin : W → O)
      (capture : Capture) (source_old source_new : S) (sink_old sink_new : K) (watch watch_now : W)
      (end : ListingEnd) : Type 0 where
    pub decodes : Decodes capture source_old source_new sink_old sink_new (saw watch_now) end
    pub goes_on : k.goes_on sink_old sink_new
    pub origin_is : origin watch_now ≡ origin watch
