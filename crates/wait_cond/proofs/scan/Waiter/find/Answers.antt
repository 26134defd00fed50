use Rattle.std.proofs.Common.{refl, ◌≡◌, ◌+◌, ◌-◌, ◌<◌, ◌++◌, ◌==◌, if◌then◌else◌, sym, subst, List, ℕ, Option, Some, None, arith, length}
use Rattle.la_base.specs.declared.samples.Run.{Run}
use Rattle.la_base.specs.Samples.{samples}
use Rattle.wait_cond.specs.Standing.{FirstStanding}
use Rattle.wait_cond.specs.Stops.{MetIn, MetSet, NoneMet}
use Rattle.wait_cond.specs.Waiting.{WaitsAt}
use Rattle.wait_cond.specs.declared.alt.Alt.{Alt}
use Rattle.wait_cond.proofs.Passing.{here, none_so_far, first_passed}
use Rattle.wait_cond.proofs.Runs.{samples_are, waits_before, met_at, none_standing, standing_at}
use Rattle.wait_cond.proofs.StandingLemmas.{some_standing}
use Rattle.wait_cond.proofs.WatchLemmas.{never_standing}
use Rattle.wait_cond.proofs.scan.Waiter.find.Goals as goal

pub returns-then-met-ne0-clause-found : goal.returns-then-met-ne0-clause-found
returns-then-met-ne0-clause-found c = λ list w.
    let s = c.args.self.now in
    let run = c.args.run in
    let alts = s.cond in
    let met = c.met_next-met.result in
    let before : Option ℕ = if s.consumed == 0 then None else Some s.last in
    let set = subst (λ (n : ℕ). MetSet alts before run.value s.from n met) (here list run alts s.consumed s.from s.last w) c.met_next-met.ensures in
    let before_is = waits_before list (samples run) run.value run.len (samples_are run) alts s.consumed s.from s.last 0 w run.not_empty in (
      run.not_empty,
      none_so_far list run alts s.consumed s.from s.last w,
      met_at list (samples run) run.value run.len (samples_are run) alts s.from 0 before met run.not_empty before_is set,
      c.if-met-ne0.true,
    )

pub returns-then-run-eq1-clause-found : goal.returns-then-run-eq1-clause-found
returns-then-run-eq1-clause-found c = λ list w.
    let s = c.args.self.now in
    let run = c.args.run in
    let alts = s.cond in
    subst (λ (n : ℕ). NoneMet (list ++ samples run) alts s.from (length list + n)) (sym c.if-run-eq1.true)
    (first_passed list run alts s.consumed s.from s.last w c.met_next-met.result c.if-met-ne0.false c.met_next-met.ensures)

pub returns-then-is_still-clause-found : goal.returns-then-is_still-clause-found
returns-then-is_still-clause-found c = λ list w.
    let s = c.args.self.now in
    let run = c.args.run in
    let alts = s.cond in
    none_standing list (samples run) run.value run.len (samples_are run) alts s.from (length list + run.len)
    (first_passed list run alts s.consumed s.from s.last w c.met_next-met.result c.if-met-ne0.false c.met_next-met.ensures)
    (never_standing alts run.value s.from (length list + 1) (length list + run.len) (omega (arith, run.not_empty)) (c.if-is_still.ensures.now refl))

-- the first place at which an alternative is met while the value stands, and none before it
module _ (list : List ℕ) (run : Run) (alts : List Alt) (consumed from last at : ℕ) (w : WaitsAt alts consumed from last list) (met : ℕ) (none : met ≡ 0)
    (set : MetSet alts (if consumed == 0 then None else Some last) run.value from consumed met) (standing : FirstStanding alts run.value from (consumed + 1) (consumed + run.len) at) where
  first : FirstStanding alts run.value from (length list + 1) (length list + run.len) at
  first = subst (λ (n : ℕ). FirstStanding alts run.value from (n + 1) (n + run.len) at) (sym w.count) standing

  none_before : NoneMet (list ++ samples run) alts from at
  none_before = none_standing list (samples run) run.value run.len (samples_are run) alts from at (first_passed list run alts consumed from last w met none set) first

pub returns-then-at-self-clause-found : goal.returns-then-at-self-clause-found
returns-then-at-self-clause-found c = λ list w.
    let s = c.args.self.now in
    let run = c.args.run in
    let alts = s.cond in
    let at = c.standing_stop-at.result in
    let end : at ≡ length list + run.len = omega (arith, w.count, c.if-at-self.true) in
    subst (λ (n : ℕ). NoneMet (list ++ samples run) alts s.from n) end
    (none_before list run alts s.consumed s.from s.last at w c.met_next-met.result c.if-met-ne0.false c.met_next-met.ensures c.standing_stop-at.ensures)

pub returns-clause-found : goal.returns-clause-found
returns-clause-found c = λ list w.
    let s = c.args.self.now in
    let run = c.args.run in
    let alts = s.cond in
    let at = c.standing_stop-at.result in
    let met = c.met_standing.result in
    let standing = first list run alts s.consumed s.from s.last at w c.met_next-met.result c.if-met-ne0.false c.met_next-met.ensures c.standing_stop-at.ensures in
    let within : at < length list + run.len = omega (arith, w.count, c.if-at-self.false, standing.within) in
    let place : at ≡ length list + (at - s.consumed) = omega (arith, w.count, standing.after) in (
      omega (arith, w.count, within, standing.after),
      subst (λ (n : ℕ). NoneMet (list ++ samples run) alts s.from n) place
          (none_before list run alts s.consumed s.from s.last at w c.met_next-met.result c.if-met-ne0.false c.met_next-met.ensures c.standing_stop-at.ensures),
      subst (λ (n : ℕ). MetIn (list ++ samples run) alts s.from n met) place
          (standing_at list (samples run) run.value run.len (samples_are run) alts s.from at met (omega (arith, standing.after)) within c.met_standing.ensures),
      some_standing alts run.value s.from at met (standing.some within) c.met_standing.ensures,
    )

pub returns-clause-within : goal.returns-clause-within
returns-clause-within c =
    let standing = c.standing_stop-at.ensures in
    let within : c.standing_stop-at.result < c.args.self.now.consumed + c.args.run.len = omega (arith, c.if-at-self.false, standing.within) in (
      omega (arith, standing.after, within),
      some_standing c.args.self.now.cond c.args.run.value c.args.self.now.from c.standing_stop-at.result c.met_standing.result (standing.some within) c.met_standing.ensures,
    )
