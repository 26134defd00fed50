-- A wait for one alternative that only skips.
use Rattle.std.proofs.Common.{◌≡◌, ◌≢◌, inl, inr, ℕ, ◌+◌, ◌-◌, ◌≤◌, ◌<◌, ◌^◌, max, List, [], ◌++◌, length, slice_get, Option, Some, None, refl, sym, ◌∙◌, ap, subst, arith}
use Rattle.std.specs.Int.{bit_at}
use Rattle.std.proofs.lemmas.Bool.{cases_eq}
use Rattle.std.proofs.lemmas.Nat.Bits.{bit_at-zero}
use Rattle.la_base.specs.declared.samples.Run.{Run}
use Rattle.la_base.specs.Samples.{samples, before_of}
use Rattle.wait_cond.specs.Conds.{IsTimer}
use Rattle.wait_cond.specs.Meets.{LinesHold}
use Rattle.wait_cond.specs.Stops.{MetSet, NoneMet}
use Rattle.wait_cond.specs.Waiting.{Found, WaitsAt}
use Rattle.wait_cond.specs.Walks.{IsTimeLeft, StopsBehind}
use Rattle.wait_cond.specs.Watching.{SkipMore}
use Rattle.wait_cond.specs.declared.alt.Alt.{Alt}
use Rattle.wait_cond.specs.declared.walk.Walk.{Walk}
use Rattle.wait_cond.proofs.Passing.{none_so_far}
use Rattle.wait_cond.proofs.Runs.{met_at, none_skipped, samples_are, whole_len}
use Rattle.wait_cond.proofs.Sets.{get_push, met_more, none_yet}

pub no_bit_of : {A : Type 0} (mask line : ℕ) → mask ≡ 0 → bit_at mask line ≡ 1 → A
no_bit_of mask line none one = absurd (omega (arith, one, ap (λ (n : ℕ). bit_at n line) none, bit_at-zero line))

module _ (alts : List Alt) (skip : ℕ) (timer : IsTimer alts skip) where
  some_skip : skip ≢ 0
  some_skip none = timer.only.skip (timer.skips ∙ none)

  skips_all : (n : ℕ) → n < skip → SkipMore n alts
  skips_all n less i other got = elim (get_push [] timer.alt i other (subst (λ (l : List Alt). slice_get l i ≡ Some other) timer.is got)) [
    | inl none ↦ absurd cc
    | inr last ↦ omega (arith, less, timer.skips, ap (λ (a : Alt). a.skip) last.1)
  ]

  lines_hold : (before : Option ℕ) (now : ℕ) → LinesHold timer.alt before now
  lines_hold before now = record {
    low = λ line one. no_bit_of timer.alt.low line timer.only.low one;
    high = λ line one. no_bit_of timer.alt.high line timer.only.high one;
    rise = λ line one. no_bit_of timer.alt.rise line timer.only.rise one;
    fall = λ line one. no_bit_of timer.alt.fall line timer.only.fall one;
    edge = λ line one. no_bit_of timer.alt.edge line timer.only.edge one;
    steady = λ line one. no_bit_of timer.alt.steady line timer.only.steady one;
  }

  -- it is met wherever so many samples were skipped
  met_set : (before : Option ℕ) (now from q : ℕ) → from + skip ≤ q + 1 → MetSet alts before now from q 1
  met_set before now from q far = subst (λ (l : List Alt). MetSet l before now from q 1) (sym timer.is)
      (met_more before now from q [] timer.alt 0 (none_yet before now from q) 0 refl (omega arith) (record { lines = lines_hold before now; skipped = λ some. omega (arith, far, timer.skips) }))

  module _ (list : List ℕ) (run : Run) (consumed from last : ℕ) (w : WaitsAt alts consumed from last list) where
    -- and nowhere before
    early : (n : ℕ) → consumed + n < from + skip → NoneMet (list ++ samples run) alts from (length list + n)
    early n before = none_skipped list (samples run) run.value run.len (samples_are run) alts from (length list + n) (skip - 1)
        (skips_all (skip - 1) (omega (arith, some_skip))) (omega (arith, before, w.count, some_skip))

    module _ (place : ℕ) (is : place ≡ max 1 (from + skip - consumed) - 1) where
      none_before : NoneMet (list ++ samples run) alts from (length list + place)
      none_before = elim (cases_eq place 0) [
        | inl first ↦ subst (λ (n : ℕ). NoneMet (list ++ samples run) alts from (length list + n)) (sym first) (none_so_far list run alts consumed from last w)
        | inr other ↦ early place (omega (arith, is, other))
      ]

      -- where it stops, if that is in the run
      pub timer_found : place < run.len → Found alts from (list ++ samples run) (length list) run.len (Some (place, 1))
      timer_found within = (
        within,
        none_before,
        met_at list (samples run) run.value run.len (samples_are run) alts from place (before_of (list ++ samples run) (length list + place)) 1 within refl
            (met_set (before_of (list ++ samples run) (length list + place)) run.value from (length list + place) (omega (arith, is, w.count))),
        λ none. omega (arith, none),
      )

    pub timer_through : run.len < from + skip - consumed → Found alts from (list ++ samples run) (length list) run.len None
    timer_through before = early run.len (omega (arith, before))

  -- where it stops on a walk
  pub timer_behind : (walk : Walk) (value left : ℕ) → IsTimeLeft walk skip left → StopsBehind alts walk value left
  timer_behind walk value left is = record {
    fits = omega (arith, is);
    none = λ list run w same short. early list run (2 ^ 60 - walk.room) walk.from walk.last w run.len (omega (arith, is, short, run.not_empty));
    stop = λ list run w same long room.
        let place : left ≡ max 1 (walk.from + skip - (2 ^ 60 - walk.room)) - 1 = omega (arith, is, room) in
        let found = timer_found list run (2 ^ 60 - walk.room) walk.from walk.last w left place (omega (arith, long)) in
        record {
          after = omega (arith, w.stop, w.count);
          within = omega (arith, whole_len list (samples run) run.value run.len (samples_are run), long);
          set = found.2;
          some = found.3;
          first = found.1;
        };
  }
