use Rattle.std.proofs.Common.{◌≡◌, ◌+◌, ◌∙◌, Bool, true, false, subst, sym, arith}
use Rattle.stage_run.specs.Acts.{Working}
use Rattle.stage_run.specs.Stages.{left_of, passed}
use Rattle.stage_run.proofs.Counts.{passing_is, passing_more, passing_same}
use Rattle.stage_run.proofs.Lessening.{working_more}
use Rattle.stage_run.proofs.Turning.{acts_then}
use Rattle.stage_run.proofs.stage.Stage.move_on.Goals as goal
use Rattle.stage_run.proofs.stage.Stage.move_on.Goals.{in-Worked, in-Passed}

clash : true ≡ false → ⊥
clash e = cc

pub returns-in-Short-clause-acts : goal.returns-in-Short-clause-acts
returns-in-Short-clause-acts g c = acts_then g.M.Machine c.loop.counter c.args.budget c.args.self.now c.loop.self c.act.new.self (omega (arith, c.loop-test.true)) c.loop.invariant.acts c.act.ensures.acts

pub returns-in-Missed-clause-acts : goal.returns-in-Missed-clause-acts
returns-in-Missed-clause-acts g c = acts_then g.M.Machine c.loop.counter c.args.budget c.args.self.now c.loop.self c.act.new.self (omega (arith, c.loop-test.true)) c.loop.invariant.acts c.act.ensures.acts

pub returns-in-Ended-clause-acts : goal.returns-in-Ended-clause-acts
returns-in-Ended-clause-acts g c = acts_then g.M.Machine c.loop.counter c.args.budget c.args.self.now c.loop.self c.act.new.self (omega (arith, c.loop-test.true)) c.loop.invariant.acts c.act.ensures.acts

pub loop-preserved : goal.loop-preserved
loop-preserved g c =
    let on = acts_then g.M.Machine c.loop.counter (c.loop.counter + 1) c.args.self.now c.loop.self c.act.new.self (omega arith) c.loop.invariant.acts c.act.ensures.acts in
    let first = passed c.args.self.now in
    let before = passed c.loop.self in
    let now = passed c.act.new.self in
    let left = left_of c.args.self.now in
    let done = left_of c.act.new.self in
    elim c.match-act.branch [
      | in-Worked w ↦ record {
        acts = on;
        passing = passing_same c.loop.passed c.match-act.passed first before now w.passed-is c.loop.invariant.passing w.in-Worked.ensures.act.0;
        missing = w.in-Worked.ensures.act.1 ∙ c.loop.invariant.missing;
        working = λ still. subst (λ (b : Bool). Working b left done) (sym w.worked-is)
            (working_more c.loop.worked left (left_of c.loop.self) done (c.loop.invariant.working (sym w.passed-is ∙ still)) w.in-Worked.ensures.left);
        some = λ more still. w.worked-is;
      }
      | in-Passed w ↦ record {
        acts = on;
        passing = passing_is c.match-act.passed first now w.passed-is (passing_more c.loop.passed first before now c.loop.invariant.passing w.in-Passed.ensures.act.0);
        missing = w.in-Passed.ensures.act.1 ∙ c.loop.invariant.missing;
        working = λ still. absurd (clash (sym w.passed-is ∙ still));
        some = λ more still. absurd (clash (sym w.passed-is ∙ still));
      }
    ]
