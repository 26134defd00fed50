-- What a decoding through a buffer gave to the sink behind it, and what was seen of it.
use Rattle.std.proofs.Common.{◌≡◌, ◌⊎◌, ℕ, List, [], All, Option, sym, ap, subst, ◌∙◌, inl, inr}
use Rattle.std.proofs.Math.Path.{transport}
use Rattle.la_io.specs.Buffer.{BufferGoesOn, behind, got_by, held_by}
use Rattle.la_io.specs.Capture.{Told}
use Rattle.la_io.specs.declared.buffered.Buffered.{Buffered}
use Rattle.la_io.specs.declared.outside.Sink.{Ghosts as SinkGhosts}
use Rattle.la_io.specs.declared.outside.Source.{Ghosts as SourceGhosts}
use Rattle.capture_any.specs.Captures.{ToldAt}
use Rattle.capture_any.specs.Listings.{Lists, ReadCause, WriteCause}
use Rattle.capture_any.specs.Reading.{Stands, form_of, pins_of}
use Rattle.capture_any.specs.declared.capture.Capture.{Capture}
use Rattle.capture_any.specs.declared.end.ListingEnd.{ListingEnd}
use Rattle.capture_any.specs.declared.end.ListingEnd.TheVariants.{Write}
use Rattle.decoder_core.specs.declared.machine.Machine.{Ghosts as MachineGhosts}
use Rattle.stack_words.specs.declared.stack.Stack.{Stack}
use Rattle.note_order.specs.declared.entry.Entry.{Entry}
use Rattle.decode_job.specs.Decoding.{Decodes, notes, output}
use Rattle.decode_job.specs.Flushing.{Broke, Flushes, Left, Went}
use Rattle.decode_job.specs.Seen.{WritesFrontSeen, WritesSeen}
use Rattle.decode_job.proofs.Ends.{kept_cause}
use Rattle.decode_job.proofs.FeedLemmas.{cause_rises}
use Rattle.decode_job.proofs.Handing.{all_through, cut_handed, cut_through, fails_through, write_kept}

module _ {M Q S K : Type 0} (m : MachineGhosts M Q) (s : SourceGhosts S) (k : SinkGhosts K) (stack : Stack) (machines : List M) (parents : List (Option ℕ)) (capture : Capture) (source_old source_new : S) (saw : List Entry → Type 0)
    (old new : K) (first mid last : Buffered K) (from : behind first ≡ old) (empty : held_by first ≡ []) (on : BufferGoesOn k.written k.goes_on first mid)
    (ends : last.sink.ghost_name ≡ first.sink.ghost_name → behind last ≡ new) where
  abbrev out : List ℕ → List ℕ
  out = output m s k stack machines parents

  abbrev seen : List ℕ → List Entry
  seen = notes m s k stack machines parents

  abbrev Whole : Option (List ℕ) → Option (List ℕ) → List ℕ → Type 0
  Whole one other l = WritesSeen saw one other (out l) (seen l)

  abbrev Front : Option (List ℕ) → Option (List ℕ) → List ℕ → Type 0
  Front one other l = WritesFrontSeen saw one other (out l) (seen l)

  abbrev Listed : Option (List ℕ) → Option (List ℕ) → ListingEnd → Type 0
  Listed one other end = (before : List ℕ) (told : Told) → ToldAt told (s.left source_old) → Stands capture before told [] → All (λ machine. m.consumed machine []) machines
      → Lists (form_of capture) (pins_of capture) (Whole one other) (Front one other) before told (s.left source_old) (s.left source_new) end

  pub through : (end result : ListingEnd) → Listed (got_by k.written first) (got_by k.written mid) end → ReadCause (s.faults source_old) (s.faults source_new) end
      → WriteCause (k.faults (behind first)) (k.faults (behind mid)) end → Flushes k Write mid last end result → Decodes m s k stack machines parents capture source_old source_new old new saw result
  through end result lists read write flushes =
      by end result lists read write (ends (flushes.same ∙ on.0)) flushes.does
    where
      by : (end result : ListingEnd) → Listed (got_by k.written first) (got_by k.written mid) end → ReadCause (s.faults source_old) (s.faults source_new) end
          → WriteCause (k.faults (behind first)) (k.faults (behind mid)) end → behind last ≡ new → Left Write mid last end result ⊎ Broke k Write mid last end result ⊎ Went k Write mid last end result → Decodes m s k stack machines parents capture source_old source_new old new saw result
      by end result lists read write to (inl left) =
          let same : behind mid ≡ new = ap behind (sym left.same) ∙ to in
          record {
            lists = λ before told at stands fresh. subst (λ (e : ListingEnd). Lists (form_of capture) (pins_of capture) (Whole (k.written old) (k.written new)) (Front (k.written old) (k.written new)) before told (s.left source_old) (s.left source_new) e) (sym left.is)
                (cut_through k.written k.goes_on first old new from empty out seen saw (form_of capture) (pins_of capture) before told (s.left source_old) (s.left source_new) mid end (lists before told at stands fresh) on same);
            read = subst (ReadCause (s.faults source_old) (s.faults source_new)) (left.was ∙ sym left.is) read;
            write = subst (λ (e : ListingEnd). WriteCause (k.faults old) (k.faults new) e) (left.was ∙ sym left.is)
                (subst (λ (n : ℕ). WriteCause (k.faults old) n end) (ap k.faults same) (subst (λ (n : ℕ). WriteCause n (k.faults (behind mid)) end) (ap k.faults from) write));
          }
      by end result lists read write to (inr (inl broke)) = record {
        lists = λ before told at stands fresh. subst (λ (e : ListingEnd). Lists (form_of capture) (pins_of capture) (Whole (k.written old) (k.written new)) (Front (k.written old) (k.written new)) before told (s.left source_old) (s.left source_new) e) (sym broke.is)
            (cut_handed k.written k.goes_on first old new from empty out seen saw (form_of capture) (pins_of capture) before told (s.left source_old) (s.left source_new) mid last end (lists before told at stands fresh) on broke.handed to);
        read = subst (ReadCause (s.faults source_old) (s.faults source_new)) (sym broke.is) (cause_rises end (s.faults source_old) (s.faults source_new) read);
        write = subst (WriteCause (k.faults old) (k.faults new)) (sym broke.is)
            (fails_through k.faults old (behind first) (behind mid) (behind last) new from (write_kept (k.faults (behind first)) (k.faults (behind mid)) end broke.was write) broke.failed.0 broke.failed.1 to);
      }
      by end result lists read write to (inr (inr went)) = record {
        lists = λ before told at stands fresh. subst (λ (e : ListingEnd). Lists (form_of capture) (pins_of capture) (Whole (k.written old) (k.written new)) (Front (k.written old) (k.written new)) before told (s.left source_old) (s.left source_new) e) (sym went.is)
            (all_through k.written k.goes_on first old new from empty out seen saw (form_of capture) (pins_of capture) before told (s.left source_old) (s.left source_new) mid last end (lists before told at stands fresh) on went.handed went.whole to);
        read = subst (ReadCause (s.faults source_old) (s.faults source_new)) (sym went.is) read;
        write = subst (WriteCause (k.faults old) (k.faults new)) (sym went.is)
            (kept_cause end (k.faults old) (k.faults new) went.was (ap k.faults (sym to) ∙ (went.kept ∙ (write_kept (k.faults (behind first)) (k.faults (behind mid)) end went.was write ∙ ap k.faults from))));
      }

pub relation_moved : {K : Type 0} (R : K → K → Type 0) {first first_to last last_to : K} → first ≡ first_to → last ≡ last_to → R first last → R first_to last_to
relation_moved R a b r = transport (λ i. R (a i) (b i)) r
