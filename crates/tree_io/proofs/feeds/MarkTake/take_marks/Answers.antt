use Rattle.std.proofs.Common.{◌∷◌, ◌+◌, ◌∙◌, ◌<◌, [], ℕ, List, Ok, Err, length, take, refl, sym, subst, arith}
use Rattle.std.proofs.lemmas.List.{take_all}
use Rattle.la_base.specs.declared.wires.Mark.{Mark}
use Rattle.la_io.specs.Causes.{HasCause}
use Rattle.tree_io.specs.Feeds.{TakesMarks, real}
use Rattle.tree_io.proofs.Taking.{real_next, stops_at_real, takes_nothing, takes_then, takes_whole}
use Rattle.tree_io.proofs.feeds.MarkTake.take_marks.Goals as goal

pub loop-mark-init : goal.loop-mark-init
loop-mark-init g c =
    let t = g.Self.MarkTake in
    record {
      within = c.requires;
      takes = takes_nothing (t.took c.args.self.now) c.args.instance;
      instances = refl;
      kept = refl;
      going = λ h. h;
      origin = refl;
    }

pub loop-mark-preserved : goal.loop-mark-preserved
loop-mark-preserved g c =
    let t = g.Self.MarkTake in
    let i = c.loop-mark.invariant in
    let e = c.in-Ok.ensures in
    let n = c.loop-mark.mark-index in
    record {
      within = subst (λ (n : ℕ). c.args.instance < n) (sym e.instances) i.within;
      takes = takes_then (t.took c.args.self.now) (t.took c.loop-mark.self) (t.took c.take_real.new.self) c.args.instance (real (take n c.args.marks.now)) (real (c.mark-item.result ∷ [])) (real (take (n + 1) c.args.marks.now)) i.takes e.adds
          (real_next c.args.marks.now n c.mark-item.result c.loop-mark-test.true c.mark-item.is);
      instances = e.instances ∙ i.instances;
      kept = e.cause.kept ∙ i.kept;
      going = λ h. e.going (i.going h);
      origin = e.origin ∙ i.origin;
    }

pub returns-in-Err-clause-adds : goal.returns-in-Err-clause-adds
returns-in-Err-clause-adds g c =
    let t = g.Self.MarkTake in
    let e = c.in-Err.ensures in
    stops_at_real c.args.marks.now c.loop-mark.mark-index c.mark-item.result c.loop-mark-test.true c.mark-item.is e.some (t.took c.args.self.now) (t.took c.loop-mark.self) (t.took c.take_real.new.self) c.args.instance c.loop-mark.invariant.takes e.adds

pub returns-in-Err-clause-instances : goal.returns-in-Err-clause-instances
returns-in-Err-clause-instances g c = c.in-Err.ensures.instances ∙ c.loop-mark.invariant.instances

pub returns-in-Err-clause-cause : goal.returns-in-Err-clause-cause
returns-in-Err-clause-cause g c =
    let cause = c.in-Err.ensures.cause in
    let kept = c.loop-mark.invariant.kept in
    record {
      later = omega (arith, cause.later, kept);
      kept = tt;
      failed = omega (arith, cause.failed, kept);
    }

pub returns-in-Err-clause-going : goal.returns-in-Err-clause-going
returns-in-Err-clause-going g c = λ h. c.in-Err.ensures.going (c.loop-mark.invariant.going h)

pub returns-in-Err-clause-origin : goal.returns-in-Err-clause-origin
returns-in-Err-clause-origin g c = c.in-Err.ensures.origin ∙ c.loop-mark.invariant.origin

pub returns-clause-adds : goal.returns-clause-adds
returns-clause-adds g c =
    let t = g.Self.MarkTake in
    let l = c.loop-mark in
    takes_whole (t.took c.args.self.now) (t.took l.self) c.args.instance (real c.args.marks.now)
    (subst (λ (xs : List Mark). TakesMarks (t.took c.args.self.now) (t.took l.self) c.args.instance (real xs)) (take_all l.mark-index c.args.marks.now c.loop-mark-test.false) l.invariant.takes)

pub returns-clause-instances : goal.returns-clause-instances
returns-clause-instances g c = c.loop-mark.invariant.instances

pub returns-clause-cause : goal.returns-clause-cause
returns-clause-cause g c = record { later = omega (arith, c.loop-mark.invariant.kept); kept = c.loop-mark.invariant.kept; failed = tt }

pub returns-clause-going : goal.returns-clause-going
returns-clause-going g c = c.loop-mark.invariant.going

pub returns-clause-origin : goal.returns-clause-origin
returns-clause-origin g c = c.loop-mark.invariant.origin
