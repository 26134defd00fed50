-- A run that has no stop at its first sample, and none at all.
use Rattle.std.proofs.Common.{refl, zero, suc, ◌≢◌, ◌-◌, slice_index, sym, ◌∙◌, ap, ◌≡◌, ◌+◌, ◌++◌, ◌==◌, if◌then◌else◌, subst, List, ℕ, Option, Some, None, arith, length}
use Rattle.la_base.specs.declared.samples.Run.{Run}
use Rattle.la_base.specs.Samples.{samples}
use Rattle.std.proofs.lemmas.Bool.Decides.{nat_tests}
use Rattle.wait_cond.specs.Stops.{MetSet, NoneMet, IsStop}
use Rattle.wait_cond.specs.Waiting.{WaitsAt}
use Rattle.wait_cond.specs.Watching.{NeverMet}
use Rattle.wait_cond.specs.declared.alt.Alt.{Alt}
use Rattle.wait_cond.proofs.ChainLemmas.{none_in_longer}
use Rattle.wait_cond.proofs.Runs.{samples_are, waits_before, met_at, none_next, none_standing, standing_at, stopped, whole_len, now_is}
use Rattle.wait_cond.proofs.WatchLemmas.{never_standing}

module _ (list : List ℕ) (run : Run) (alts : List Alt) (consumed from last : ℕ) (w : WaitsAt alts consumed from last list) where
  pub here : consumed ≡ length list + 0
  here = omega (arith, w.count)

  pub none_so_far : NoneMet (list ++ samples run) alts from (length list + 0)
  none_so_far = none_in_longer list (samples run) alts from (length list + 0) (omega arith) (subst (λ (n : ℕ). NoneMet list alts from n) here w.none)

  -- none is met at the first sample of the run
  pub first_passed : (met : ℕ) → met ≡ 0 → MetSet alts (if consumed == 0 then None else Some last) run.value from consumed met → NoneMet (list ++ samples run) alts from (length list + 1)
  first_passed met none set =
      let before : Option ℕ = if consumed == 0 then None else Some last in
      let at_first = waits_before list (samples run) run.value run.len (samples_are run) alts consumed from last 0 w run.not_empty in
      none_next list (samples run) run.value run.len (samples_are run) alts from 0
      (met_at list (samples run) run.value run.len (samples_are run) alts from 0 before 0 run.not_empty at_first
      (subst (λ (n : ℕ). MetSet alts before run.value from n 0) here (subst (λ (m : ℕ). MetSet alts before run.value from consumed m) none set))) none_so_far

  -- none is met at this value, neither behind the sample before it nor while it stands
  pub all_passed : NeverMet alts (if consumed == 0 then None else Some last) run.value → NeverMet alts (Some run.value) run.value → NoneMet (list ++ samples run) alts from (length list + run.len)
  all_passed now stands =
      none_standing list (samples run) run.value run.len (samples_are run) alts from (length list + run.len)
      (first_passed 0 refl (now from consumed))
      (never_standing alts run.value from (length list + 1) (length list + run.len) (omega (arith, run.not_empty)) stands)

  -- there is a sample before the run
  module _ (some : consumed ≢ 0) where
    last_before : (if consumed == 0 then None else Some last) ≡ Some last
    last_before = by consumed some
      where
        by : (n : ℕ) → n ≢ 0 → (if n == 0 then None else Some last) ≡ Some last
        by zero none = absurd (none refl)
        by (suc n) none = grind (arith, nat_tests)

    -- none is met at the first sample of the run, nor while its value stands
    pub set_passed : MetSet alts (Some last) run.value from consumed 0 → NeverMet alts (Some run.value) run.value → NoneMet (list ++ samples run) alts from (length list + run.len)
    set_passed set stands =
        none_standing list (samples run) run.value run.len (samples_are run) alts from (length list + run.len)
        (first_passed 0 refl (subst (λ (before : Option ℕ). MetSet alts before run.value from consumed 0) (sym last_before) set))
        (never_standing alts run.value from (length list + 1) (length list + run.len) (omega (arith, run.not_empty)) stands)

    -- the first sample of the run is a stop, and none is met while its value stands: so the whole run was consumed
    pub set_stopped : (met : ℕ) → met ≢ 0 → MetSet alts (Some last) run.value from consumed met → NeverMet alts (Some run.value) run.value
        → IsStop (list ++ samples run) alts from (length list + 0) met × WaitsAt alts (consumed + run.len) (consumed + 1) run.value (list ++ samples run)
    set_stopped met not set stands =
        let before : Option ℕ = if consumed == 0 then None else Some last in
        let at_first = waits_before list (samples run) run.value run.len (samples_are run) alts consumed from last 0 w run.not_empty in
        let here_set = subst (λ (n : ℕ). MetSet alts before run.value from n met) here (subst (λ (b : Option ℕ). MetSet alts b run.value from consumed met) (sym last_before) set) in
        let met_in = met_at list (samples run) run.value run.len (samples_are run) alts from 0 before met run.not_empty at_first here_set in
        let stop = stopped list (samples run) run.value run.len (samples_are run) alts consumed from last 0 met run.not_empty w none_so_far met_in not in (
          stop.0,
          record {
            count = omega (arith, w.count, whole_len list (samples run) run.value run.len (samples_are run));
            stop = omega (arith, run.not_empty);
            last_is = last_place (consumed + run.len - 1) (omega (arith, w.count, run.not_empty));
            none = λ q after below. standing_at list (samples run) run.value run.len (samples_are run) alts (consumed + 1) q 0 (omega (arith, after, w.count)) (omega (arith, below, w.count)) (stands (consumed + 1) q);
          },
        )
      where
        last_place : (n : ℕ) → n ≡ length list + (run.len - 1) → run.value ≡ slice_index (list ++ samples run) n
        last_place n is = sym (ap (λ (k : ℕ). slice_index (list ++ samples run) k) is ∙ now_is list (samples run) run.value run.len (samples_are run) (run.len - 1) (omega (arith, run.not_empty)))
