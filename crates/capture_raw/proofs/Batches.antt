-- Several runs at once: the samples of bytes, one run after another.
use Rattle.std.proofs.Common.{◌≡◌, ℕ, ◌+◌, ◌-◌, ◌*◌, ◌≤◌, ◌<◌, List, ◌++◌, take, drop, length, set, refl, sym, ◌∙◌, ap, arith, length-append, length-drop, length-take-le}
use Rattle.std.proofs.lemmas.List.{drop-drop, take_more_set}
use Rattle.std.proofs.Math.Seq.{take-add}
use Rattle.la_base.specs.Samples.{samples}
use Rattle.la_base.specs.Runs.{samples_of}
use Rattle.la_base.specs.declared.samples.Run.{Run}
use Rattle.la_base.proofs.RunLemmas.{samples_len, samples_push}
use Rattle.la_io.specs.Intake.{Front}
use Rattle.capture_raw.specs.Raw.{raw_samples}
use Rattle.capture_raw.specs.Reader.{Gives}
use Rattle.capture_raw.proofs.Captures.{no_samples, samples_after}
use Rattle.capture_raw.proofs.Standing.{gives_front}

-- the first runs are those of the bytes before these
pub record RunsOf (unit : ℕ) (pins bytes : List ℕ) (runs : List Run) (count : ℕ) (left : List ℕ) : Type 0 where
  pub done : ℕ
  pub within : done ≤ length bytes
  pub left_is : left ≡ drop done bytes
  pub whole : length (samples_of (take count runs)) * unit ≡ done
  pub same : samples_of (take count runs) ≡ raw_samples unit pins (take done bytes)

module _ (unit : ℕ) (some : 0 < unit) (pins bytes : List ℕ) where
  -- none
  pub runs_none : (runs : List Run) → RunsOf unit pins bytes runs 0 bytes
  runs_none runs = record {
    done = 0;
    within = omega arith;
    left_is = refl;
    whole = omega arith;
    same = no_samples unit some pins;
  }

  -- one run more
  pub runs_more : (runs : List Run) (count : ℕ) (left next : List ℕ) (run : Run) → count < length runs → run.len * unit ≤ length left → next ≡ drop (run.len * unit) left
      → samples run ≡ raw_samples unit pins (take (run.len * unit) left) → RunsOf unit pins bytes runs count left → RunsOf unit pins bytes (set runs count run) (count + 1) next
  runs_more runs count left next run room within is_next is so_far = record {
    done = so_far.done + more;
    within = omega (arith, within, ap length so_far.left_is, length-drop so_far.done bytes, so_far.within);
    left_is = is_next ∙ ap (λ (l : List ℕ). drop more l) so_far.left_is ∙ drop-drop more so_far.done bytes;
    whole = ap (λ (l : List ℕ). length l * unit) all ∙ ap (λ (n : ℕ). n * unit) (length-append before (samples run)) ∙ split_sum (length before) (length (samples run))
        ∙ (λ i. so_far.whole i + samples_len run i * unit);
    same = all ∙ (λ i. so_far.same i ++ (is ∙ ap (λ (l : List ℕ). raw_samples unit pins (take more l)) so_far.left_is) i)
        ∙ sym (samples_after unit some pins (take so_far.done bytes) (length before) (length-take-le so_far.done bytes so_far.within ∙ sym so_far.whole) (take more (drop so_far.done bytes)))
        ∙ ap (λ (l : List ℕ). raw_samples unit pins l) (sym (take-add so_far.done more bytes));
  }
    where
      more : ℕ
      more = run.len * unit

      before : List ℕ
      before = samples_of (take count runs)

      all : samples_of (take (count + 1) (set runs count run)) ≡ before ++ samples run
      all = ap samples_of (take_more_set runs count run room) ∙ samples_push (take count runs) run

      split_sum : (a b : ℕ) → (a + b) * unit ≡ a * unit + b * unit
      split_sum a b = grind arith

-- what was let go, where these bytes are left
pub gives_runs : (unit : ℕ) (pins : List ℕ) (old new : Front) (bytes : List ℕ) (runs : List Run) (count : ℕ) (left : List ℕ) → bytes ≡ old.bytes → RunsOf unit pins bytes runs count left
    → new.bytes ≡ drop (length bytes - length left) old.bytes → new.taken ≡ old.taken → Gives unit pins old new (samples_of (take count runs))
gives_runs unit pins old new bytes runs count left is of held taken =
    let done : length bytes - length left ≡ of.done = omega (arith, ap length of.left_is, length-drop of.done bytes, of.within) in
    gives_front unit pins old new (samples_of (take count runs)) of.done of.whole (omega (arith, of.within, ap length is)) (of.same ∙ ap (λ (l : List ℕ). raw_samples unit pins (take of.done l)) is)
    (held ∙ ap (λ (n : ℕ). drop n old.bytes) done) taken
