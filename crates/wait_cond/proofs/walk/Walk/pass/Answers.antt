use Rattle.std.proofs.Common.{◌≡◌, ◌+◌, ◌-◌, ◌^◌, ◌++◌, ℕ, subst, arith}
use Rattle.la_base.specs.Samples.{samples}
use Rattle.wait_cond.specs.Waiting.{WaitsAt}
use Rattle.wait_cond.proofs.Runs.{samples_are, through}
use Rattle.wait_cond.proofs.Passing.{set_passed}
use Rattle.wait_cond.proofs.walk.Walk.pass.Goals as goal

pub returns-clause-waits : goal.returns-clause-waits
returns-clause-waits c = λ alts list w some set stands.
    let s = c.args.self.now in
    let run = c.args.run in
    let none = set_passed list run alts (2 ^ 60 - s.room) s.from s.last w some set stands in
    let more = through list (samples run) run.value run.len (samples_are run) alts (2 ^ 60 - s.room) s.from s.last run.not_empty w none in
    let left : 2 ^ 60 - s.room + run.len ≡ 2 ^ 60 - (s.room - run.len) = omega (arith, c.requires.room, s.few) in
    (none, subst (λ (n : ℕ). WaitsAt alts n s.from run.value (list ++ samples run)) left more)

pub returns-clause-none : goal.returns-clause-none
returns-clause-none c = λ alts list w none.
    let s = c.args.self.now in
    let run = c.args.run in
    let more = through list (samples run) run.value run.len (samples_are run) alts (2 ^ 60 - s.room) s.from s.last run.not_empty w none in
    let left : 2 ^ 60 - s.room + run.len ≡ 2 ^ 60 - (s.room - run.len) = omega (arith, c.requires.room, s.few) in
    subst (λ (n : ℕ). WaitsAt alts n s.from run.value (list ++ samples run)) left more
