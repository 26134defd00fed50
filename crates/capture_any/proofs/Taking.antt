-- Runs that are given one behind another.
use Rattle.std.proofs.Common.{◌≡◌, ◌≤◌, ◌<◌, ◌+◌, ◌^◌, Bool, true, false, Result, Err, length, arith, length-append, length-take-le, take, ℕ, Option, Some, None, Ok, List, [], ◌∷◌, ◌++◌, sym, ◌∙◌, ap, subst, append_assoc}
use Rattle.std.proofs.lemmas.List.{append-nil, take-append-le}
use Rattle.std.proofs.Math.Seq.{take-append-add}
use Rattle.std.proofs.KnownBytes.{Consumes-nil}
use borrow.Rule.Slice.PartMut.{put_mid, post_of}
use Rattle.la_base.proofs.RunLemmas.{count_push, samples_len, samples_push}
use Rattle.la_base.specs.Runs.{samples_of}
use Rattle.la_base.specs.Samples.{samples}
use Rattle.la_base.specs.declared.samples.Run.{Run}
use Rattle.la_io.specs.Capture.{Told}
use Rattle.capture_raw.specs.Reader.{Stands as RawStands, raw_given}
use Rattle.capture_raw.specs.declared.reader.RawReader.{RawReader}
use Rattle.capture_vcd.specs.Running.{RunCounts}
use Rattle.capture_csv.specs.Running.{run_len as csv_len}
use Rattle.capture_any.specs.Reading.{Next, Stands, StandsIn, given_in}
use Rattle.capture_any.specs.declared.reader.NamedRaw.{NamedRaw}
use Rattle.capture_any.specs.declared.reader.Reader.{Reader}
use Rattle.capture_any.specs.declared.reader.Reader.TheVariants.{Raw as OfRaw}
use Rattle.capture_any.specs.Taking.{GaveHeld, GaveMore, Gives, RawGave}
use Rattle.la_io.specs.declared.fault.CaptureError.{CaptureError}
use Rattle.capture_any.proofs.Telling.{later_still}
use Rattle.la_io.specs.Reading.{run_samples}
use Rattle.capture_any.specs.declared.capture.Capture.{Capture}

-- the count of what was given
pub counts_one : (runs : List Run) (run : Run) (old mid new : ℕ) → old + length (samples_of runs) ≤ mid → mid + length (samples run) ≤ new → old + length (samples_of (runs ++ run ∷ [])) ≤ new
counts_one runs run old mid new first second = omega (arith, count_push runs run, samples_len run, first, second)

pub counts_first : (run : Run) (more runs : List Run) (old mid new : ℕ) → runs ≡ run ∷ more → old + run.len ≤ mid → mid + length (samples_of more) ≤ new → old + length (samples_of runs) ≤ new
counts_first run more runs old mid new is first second =
    let whole : length (samples_of runs) ≡ length (samples run ++ samples_of more) = ap (λ (l : List Run). length (samples_of l)) is in
    let len : length (samples run) ≡ run.len = samples_len run in
    omega (arith, whole, length-append (samples run) (samples_of more), len, first, second)

-- one run, or none
pub held_none : (old new : ℕ) → old ≤ new → old + length (run_samples None) ≤ new
held_none old new rises = omega (arith, rises)

pub held_some : (run : Run) (old new : ℕ) → old + run.len ≤ new → old + length (run_samples (Some run)) ≤ new
held_some run old new rises =
    let len : length (samples run) ≡ run.len = samples_len run in
    omega (arith, len, rises)

-- these samples were given, and no byte was taken
abbrev Handed : (Stood Stands : List ℕ → Told → List ℕ → Type 0) → List ℕ → Type 0
Handed Stood Stands more = (bytes : List ℕ) (told : Told) (given : List ℕ) → Stood bytes told given → Stands bytes told (given ++ more)

-- no run
pub handed_none : (Stands : List ℕ → Told → List ℕ → Type 0) → Handed Stands Stands []
handed_none Stands bytes told given st = subst (λ (l : List ℕ). Stands bytes told l) (sym (append-nil given)) st

pub gave_none : (capture : Capture) → GaveHeld capture capture []
gave_none capture = handed_none (Stands capture)

-- samples behind others
pub handed_on : (First Mid Last : List ℕ → Told → List ℕ → Type 0) (before more : List ℕ) → Handed First Mid before → Handed Mid Last more → Handed First Last (before ++ more)
handed_on First Mid Last before more first second bytes told given st = subst (λ (l : List ℕ). Last bytes told l) (append_assoc given before more) (second bytes told (given ++ before) (first bytes told given st))

pub gave_further : (old mid new : Capture) (before more : List ℕ) → GaveHeld old mid before → GaveHeld mid new more → GaveHeld old new (before ++ more)
gave_further old mid new before more first second = handed_on (Stands old) (Stands mid) (Stands new) before more first second

-- and one run behind others
pub handed_more : (First Mid Last : List ℕ → Told → List ℕ → Type 0) (runs : List Run) (run : Run) → Handed First Mid (samples_of runs) → Handed Mid Last (samples run) → Handed First Last (samples_of (runs ++ run ∷ []))
handed_more First Mid Last runs run first second = subst (λ (l : List ℕ). Handed First Last l) (sym (samples_push runs run)) (handed_on First Mid Last (samples_of runs) (samples run) first second)

-- a capture gave what its reader gave of what it held
pub gave_by : (old : Capture) (r s : Reader) (more : List ℕ) → Handed (StandsIn r) (StandsIn s) more → (given_in r ≤ 2 ^ 60 → given_in s ≤ 2 ^ 60) → old.reader ≡ r → GaveHeld old (record { reader = s }) more
gave_by old r s more gave few is bytes told given st = record {
  stands = gave bytes told given (subst (λ (x : Reader). StandsIn x bytes told given) is st.stands);
  few = few (subst (λ (x : Reader). given_in x ≤ 2 ^ 60) is st.few);
}

-- a raw reader is told of no end
pub gave_raw : (old : Capture) (r s : NamedRaw) (more : List ℕ) → RawGave r.reader s.reader more → (raw_given r.reader ≤ 2 ^ 60 → raw_given s.reader ≤ 2 ^ 60) → old.reader ≡ OfRaw r → GaveHeld old (record { reader = OfRaw s }) more
gave_raw old r s more gave few is = gave_by old (OfRaw r) (OfRaw s) more (λ bytes told given st. (st.0, gave bytes given st.1)) few is

-- and none where it stays as it was
pub gave_same : (r s : RawReader) → s ≡ r → (bytes given : List ℕ) → RawStands r bytes given → RawStands s bytes (given ++ [])
gave_same r s same bytes given st = subst (λ (l : List ℕ). RawStands s bytes l) (sym (append-nil given)) (subst (λ (x : RawReader). RawStands x bytes given) (sym same) st)

-- a VCD reader counts them
pub held_counts : (run : Option Run) (old new : ℕ) → RunCounts old new run → old + length (run_samples run) ≤ new
held_counts None old new is = held_none old new (omega (arith, is))
held_counts (Some run) old new is = held_some run old new (omega (arith, is.0))

-- and so does a CSV reader
pub csv_counts : (run : Option Run) (old new : ℕ) → old + csv_len run ≤ new → old + length (run_samples run) ≤ new
csv_counts None old new less = held_none old new (omega (arith, less))
csv_counts (Some run) old new less = held_some run old new less

-- a run that was read, and those behind it that were read already
pub gave_first : (old mid new : Capture) (l m : Option (List ℕ)) (run : Run) (more runs : List Run) → Next old mid l m (Ok (Some run)) → GaveHeld mid new (samples_of more) → runs ≡ run ∷ more → GaveMore old new l m (samples_of runs)
gave_first old mid new l m run more runs next held is = record {
  bytes = next.bytes;
  consumed = next.consumed;
  answers = λ before early given at st.
      let answer = next.answers before early given at st in (
        answer.told,
        answer.later,
        answer.at_end,
        subst (λ (list : List ℕ). Stands new (before ++ next.bytes) answer.told list) (append_assoc given (samples run) (samples_of more) ∙ ap (λ (list : List Run). given ++ samples_of list) (sym is))
            (held (before ++ next.bytes) answer.told (given ++ samples run) answer.answers),
      );
}

-- those at the front of a part of a list, behind what stands before the part
pub taken_behind : (room part : List Run) (at k count : ℕ) → at ≤ length room → count ≤ length part → take (at + count) (put_mid at k room part) ≡ take at room ++ take count part
taken_behind room part at k count within few =
    let front = take at room in
    ap (λ (n : ℕ). take (n + count) (front ++ (part ++ post_of at k room))) (sym (length-take-le at room within))
    ∙ take-append-add front (part ++ post_of at k room) count
    ∙ ap (λ (l : List Run). front ++ l) (take-append-le count part (post_of at k room) few)

-- what was read already is given, and no byte is taken
pub gave_at_hand : (old new : Capture) (left : Option (List ℕ)) (more : List ℕ) → GaveHeld old new more → GaveMore old new left left more
gave_at_hand old new left more held = record {
  bytes = [];
  consumed = Consumes-nil left;
  answers = λ before early given at st. (
    early,
    later_still early,
    at,
    subst (λ (l : List ℕ). Stands new l early (given ++ more)) (sym (append-nil before)) (held before early given st),
  );
}

-- nothing was read already, and then more was asked for
module _ (old mid new : Capture) (l m : Option (List ℕ)) (held : GaveHeld old mid []) where
  stood : (before : List ℕ) (told : Told) (given : List ℕ) → Stands old before told given → Stands mid before told given
  stood before told given st = subst (Stands mid before told) (append-nil given) (held before told given st)

  next_behind : {r : Result (Option Run) CaptureError} → Next mid new l m r → Next old new l m r
  next_behind next = record { bytes = next.bytes; consumed = next.consumed; answers = λ before told given at st. next.answers before told given at (stood before told given st) }

  pub gives_behind : (runs : List Run) (result : Result Bool CaptureError) → Gives mid new l m runs result → Gives old new l m runs result
  gives_behind runs (Ok true) gives = record { bytes = gives.bytes; consumed = gives.consumed; answers = λ before early given at st. gives.answers before early given at (stood before early given st) }
  gives_behind runs (Ok false) gives = next_behind gives
  gives_behind runs (Err error) gives = next_behind gives

-- some run has some sample
pub more_given : (run : Run) (old mid new more : ℕ) → old + length (run_samples (Some run)) ≤ mid → mid + more ≤ new → old < new
more_given run old mid new more first second =
    let len : length (samples run) ≡ run.len = samples_len run in
    let some = run.not_empty in
    omega (arith, len, some, first, second)

-- the first run and those behind it
pub counts_held : (run : Run) (more runs : List Run) (old mid new : ℕ) → runs ≡ run ∷ more → old + length (samples run) ≤ mid → mid + length (samples_of more) ≤ new → old + length (samples_of runs) ≤ new
counts_held run more runs old mid new is first second =
    let len : length (samples run) ≡ run.len = samples_len run in
    counts_first run more runs old mid new is (omega (arith, len, first)) second
