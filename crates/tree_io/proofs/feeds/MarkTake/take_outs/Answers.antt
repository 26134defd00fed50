use Rattle.std.proofs.Common.{◌∷◌, ◌+◌, ◌∙◌, ◌<◌, [], ℕ, List, Ok, Err, length, take, refl, sym, subst, arith}
use Rattle.std.proofs.lemmas.List.{take_all}
use Rattle.la_base.specs.declared.wires.Out.{Out}
use Rattle.la_io.specs.Causes.{HasCause}
use Rattle.tree_io.specs.Feeds.{TakesMarks, marks_of}
use Rattle.tree_io.proofs.Taking.{marks_next, stops_at, takes_nothing, takes_then, takes_whole}
use Rattle.tree_io.proofs.feeds.MarkTake.take_outs.Goals as goal

pub loop-out-init : goal.loop-out-init
loop-out-init g c =
    let t = g.Self.MarkTake in
    record {
      within = c.requires;
      takes = takes_nothing (t.took c.args.self.now) c.args.instance;
      instances = refl;
      kept = refl;
      going = λ h. h;
      origin = refl;
    }

pub loop-out-preserved : goal.loop-out-preserved
loop-out-preserved g c =
    let t = g.Self.MarkTake in
    let i = c.loop-out.invariant in
    let e = c.in-Ok.ensures in
    let n = c.loop-out.out-index in
    record {
      within = subst (λ (n : ℕ). c.args.instance < n) (sym e.instances) i.within;
      takes = takes_then (t.took c.args.self.now) (t.took c.loop-out.self) (t.took c.take_out.new.self) c.args.instance (marks_of (take n c.args.outs.now)) (marks_of (c.out-item.result ∷ [])) (marks_of (take (n + 1) c.args.outs.now)) i.takes e.adds
          (marks_next c.args.outs.now n c.out-item.result c.loop-out-test.true c.out-item.is);
      instances = e.instances ∙ i.instances;
      kept = e.cause.kept ∙ i.kept;
      going = λ h. e.going (i.going h);
      origin = e.origin ∙ i.origin;
    }

pub returns-in-Err-clause-adds : goal.returns-in-Err-clause-adds
returns-in-Err-clause-adds g c =
    let t = g.Self.MarkTake in
    let e = c.in-Err.ensures in
    stops_at c.args.outs.now c.loop-out.out-index c.out-item.result c.loop-out-test.true c.out-item.is e.some (t.took c.args.self.now) (t.took c.loop-out.self) (t.took c.take_out.new.self) c.args.instance c.loop-out.invariant.takes e.adds

pub returns-in-Err-clause-instances : goal.returns-in-Err-clause-instances
returns-in-Err-clause-instances g c = c.in-Err.ensures.instances ∙ c.loop-out.invariant.instances

pub returns-in-Err-clause-cause : goal.returns-in-Err-clause-cause
returns-in-Err-clause-cause g c =
    let cause = c.in-Err.ensures.cause in
    let kept = c.loop-out.invariant.kept in
    record {
      later = omega (arith, cause.later, kept);
      kept = tt;
      failed = omega (arith, cause.failed, kept);
    }

pub returns-in-Err-clause-going : goal.returns-in-Err-clause-going
returns-in-Err-clause-going g c = λ h. c.in-Err.ensures.going (c.loop-out.invariant.going h)

pub returns-in-Err-clause-origin : goal.returns-in-Err-clause-origin
returns-in-Err-clause-origin g c = c.in-Err.ensures.origin ∙ c.loop-out.invariant.origin

pub returns-clause-adds : goal.returns-clause-adds
returns-clause-adds g c =
    let t = g.Self.MarkTake in
    let l = c.loop-out in
    takes_whole (t.took c.args.self.now) (t.took l.self) c.args.instance (marks_of c.args.outs.now)
    (subst (λ (xs : List Out). TakesMarks (t.took c.args.self.now) (t.took l.self) c.args.instance (marks_of xs)) (take_all l.out-index c.args.outs.now c.loop-out-test.false) l.invariant.takes)

pub returns-clause-instances : goal.returns-clause-instances
returns-clause-instances g c = c.loop-out.invariant.instances

pub returns-clause-cause : goal.returns-clause-cause
returns-clause-cause g c = record { later = omega (arith, c.loop-out.invariant.kept); kept = c.loop-out.invariant.kept; failed = tt }

pub returns-clause-going : goal.returns-clause-going
returns-clause-going g c = c.loop-out.invariant.going

pub returns-clause-origin : goal.returns-clause-origin
returns-clause-origin g c = c.loop-out.invariant.origin
