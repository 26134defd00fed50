-- How a decoding ends.
use Rattle.std.proofs.Common.{◌≡◌, ◌≢◌, ℕ, ◌≤◌, false, List, Option, Some, None, refl, sym, ◌∙◌, ap, subst}
use Rattle.std.specs.Prelude.{IsSome}
use Rattle.std.specs.Option.{is_some}
use Rattle.std.proofs.lemmas.Bool.{true≢false}
use Rattle.decoder_core.specs.declared.end.RunEnd.{RunEnd}
use Rattle.decoder_core.specs.declared.end.RunEnd.TheVariants.{Ended, Stopped}
use Rattle.tree_runs.specs.Runs.{is_ended}
use Rattle.la_base.specs.declared.wires.Mark.{Mark}
use Rattle.la_io.specs.Capture.{Told}
use Rattle.capture_any.specs.Listings.{Lists, ReadCause, WriteCause}
use Rattle.capture_any.specs.declared.end.ListingEnd.{ListingEnd}
use Rattle.capture_any.specs.declared.end.ListingEnd.TheVariants as end
use Rattle.capture_any.specs.declared.form.Form.{Form}
use Rattle.capture_any.proofs.ListingLemmas.{IsFront}
use Rattle.stack_words.specs.Accepting.{Accepted}
use Rattle.annot_merge.specs.Held.{count_of}
use Rattle.annot_merge.specs.declared.merge.Merge.{Merge}
use Rattle.note_order.specs.declared.entry.Entry.{Entry}
use Rattle.note_lister.specs.Taking.{Writes, WritesFront}
use Rattle.note_lister.specs.declared.stop.ListStop.{ListStop}
use Rattle.note_lister.specs.declared.stop.ListStop.TheVariants.{Write, NoMemory}
use Rattle.decode_job.specs.Ending.{end_of_stop}

-- it was stopped: a front was written, and the end says why
pub record StoppedBy (accepted : Accepted) (count : ℕ) (saw : List Entry → Type 0) (old new : Option (List ℕ)) (failed_old failed_new : ℕ) (marks : ℕ → List Mark) (last : ListingEnd) : Type 0 where
  pub is_front : IsFront last
  pub front : WritesFront accepted count saw old new marks
  pub cause : WriteCause failed_old failed_new last

pub stopped_by : (accepted : Accepted) (merge : Merge) (cause : Option ListStop) (why : ListStop) (stops : ℕ) (saw : List Entry → Type 0) (old new : Option (List ℕ)) (failed_old failed_new : ℕ) (marks : ℕ → List Mark) → cause ≡ Some why → Writes accepted merge cause stops saw old new failed_old failed_new marks
    → StoppedBy accepted (count_of merge) saw old new failed_old failed_new marks (end_of_stop why)
stopped_by accepted merge cause why stops saw old new failed_old failed_new marks is w = by why (subst (λ c. Writes accepted merge c stops saw old new failed_old failed_new marks) is w)
  where
    by : (why : ListStop) → Writes accepted merge (Some why) stops saw old new failed_old failed_new marks → StoppedBy accepted (count_of merge) saw old new failed_old failed_new marks (end_of_stop why)
    by Write w = record { is_front = tt; front = w.2; cause = (w.0, w.1) }
    by NoMemory w = record { is_front = tt; front = w.2; cause = w.1 }

pub read_of_stop : (why : ListStop) (before now : ℕ) → before ≤ now → ReadCause before now (end_of_stop why)
read_of_stop Write before now later = later
read_of_stop NoMemory before now later = later

-- without a cause it wasn't stopped
pub not_stopped : (result : RunEnd) (cause : Option ListStop) (stops : ℕ) → cause ≡ None → (is_ended result ≡ false → (stops ≡ 1) × IsSome cause) → result ≡ Ended
not_stopped Ended cause stops none goes = refl
not_stopped Stopped cause stops none goes = absurd (true≢false (sym (goes refl).1 ∙ ap is_some none))

pub kept_cause : (last : ListingEnd) (before now : ℕ) → last ≢ end.Write → now ≡ before → WriteCause before now last
kept_cause end.Done before now other kept = kept
kept_cause end.Read before now other kept = kept
kept_cause end.Write before now other kept = absurd (other refl)
kept_cause (end.Fault fault) before now other kept = kept
kept_cause end.NoMemory before now other kept = kept

-- the same source and sink
pub lists_moved : {S K : Type 0} (left : S → Option (List ℕ)) (Whole Front : K → List ℕ → Type 0) (form : Form) (pins before : List ℕ) (told : Told) (left_old : Option (List ℕ)) (source source_now : S) (sink sink_now : K) (last : ListingEnd)
    → source ≡ source_now → sink ≡ sink_now → Lists form pins (Whole sink) (Front sink) before told left_old (left source) last → Lists form pins (Whole sink_now) (Front sink_now) before told left_old (left source_now) last
lists_moved {S} {K} left Whole Front form pins before told left_old source source_now sink sink_now last same_source same_sink lists =
    subst (λ (s : S). Lists form pins (Whole sink_now) (Front sink_now) before told left_old (left s) last) same_source
    (subst (λ (k : K). Lists form pins (Whole k) (Front k) before told left_old (left source) last) same_sink lists)
