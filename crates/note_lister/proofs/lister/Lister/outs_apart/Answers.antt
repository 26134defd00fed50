use Rattle.std.proofs.Common.{◌≡◌, ◌≢◌, ◌∷◌, ◌+◌, ◌∙◌, ◌<◌, [], ℕ, List, take, refl, sym, subst, arith}
use Rattle.std.specs.Prelude.{Err, IsSome}
use Rattle.std.proofs.lemmas.List.{take_all}
use Rattle.la_base.specs.declared.wires.Mark.{Mark}
use Rattle.la_base.specs.declared.wires.Out.{Out}
use Rattle.tree_io.specs.Feeds.{TakesMarks, marks_of}
use Rattle.tree_io.proofs.Taking.{marks_next, stops_at, takes_nothing, takes_then, takes_whole}
use Rattle.note_lister.proofs.PushLemmas.{none_more}
use Rattle.note_lister.specs.Taking.{StaysStopped, StopsFor, Took, cause_of, sink_of}
use Rattle.note_lister.specs.declared.lister.Lister.{Lister}
use Rattle.note_lister.proofs.lister.Lister.outs_apart.Goals as goal

pub loop-out-init : goal.loop-out-init
loop-out-init g c =
    let k = g.K.Sink in
    let w = g.W.Watch in
    record {
      within = c.requires.within;
      apart = c.requires.apart;
      adds = takes_nothing (Took k.written k.faults k.goes_on w.saw c.args.self.now) c.args.instance;
      instances = refl;
      kept = refl;
      going = λ h. h;
      origin = refl;
      cause_is = refl;
      faults = refl;
      same = λ _. refl;
      none = λ _. refl;
    }

pub some_apart-requires : goal.some_apart-requires
some_apart-requires g c = record { within = c.loop-out.invariant.within; apart = c.loop-out.invariant.apart }

pub loop-out-preserved : goal.loop-out-preserved
loop-out-preserved g c =
    let k = g.K.Sink in
    let w = g.W.Watch in
    let i = c.loop-out.invariant in
    let e = c.in-Ok.ensures in
    let n = c.loop-out.out-index in
    let mid = c.loop-out.self in
    let new = c.some_apart.new.self in
    record {
      within = subst (λ (n : ℕ). c.args.instance < n) (sym e.instances) i.within;
      apart = e.apart;
      adds = takes_then (Took k.written k.faults k.goes_on w.saw c.args.self.now) (Took k.written k.faults k.goes_on w.saw mid) (Took k.written k.faults k.goes_on w.saw new) c.args.instance (marks_of (take n c.args.outs.now)) (marks_of (c.out-item.result ∷ [])) (marks_of (take (n + 1) c.args.outs.now)) i.adds
          (subst (λ (l : List Mark). TakesMarks (Took k.written k.faults k.goes_on w.saw mid) (Took k.written k.faults k.goes_on w.saw new) c.args.instance l) c.mark_of.ensures e.adds) (marks_next c.args.outs.now n c.out-item.result c.loop-out-test.true c.out-item.is);
      instances = e.instances ∙ i.instances;
      kept = e.cause.kept ∙ i.kept;
      going = λ h. e.going (i.going h);
      origin = e.origin ∙ i.origin;
      cause_is = e.ok ∙ i.cause_is;
      faults = e.faults ∙ i.faults;
      same = λ some. e.same (subst IsSome (sym i.cause_is) some) ∙ i.same some;
      none = λ some. none_more (marks_of (take n c.args.outs.now)) (marks_of (c.out-item.result ∷ [])) (marks_of (take (n + 1) c.args.outs.now)) (marks_next c.args.outs.now n c.out-item.result c.loop-out-test.true c.out-item.is) (i.none some)
          (sym c.mark_of.ensures ∙ e.none (subst IsSome (sym i.cause_is) some));
    }

pub returns-in-Err-clause-adds : goal.returns-in-Err-clause-adds
returns-in-Err-clause-adds g c =
    let k = g.K.Sink in
    let w = g.W.Watch in
    let e = c.in-Err.ensures in
    let mid = c.loop-out.self in
    let new = c.some_apart.new.self in
    stops_at c.args.outs.now c.loop-out.out-index c.out-item.result c.loop-out-test.true c.out-item.is (subst (λ (l : List Mark). l ≢ []) c.mark_of.ensures e.some) (Took k.written k.faults k.goes_on w.saw c.args.self.now) (Took k.written k.faults k.goes_on w.saw mid) (Took k.written k.faults k.goes_on w.saw new) c.args.instance c.loop-out.invariant.adds
    (subst (λ (l : List Mark). TakesMarks (Took k.written k.faults k.goes_on w.saw mid) (Took k.written k.faults k.goes_on w.saw new) c.args.instance l) c.mark_of.ensures e.adds)

pub returns-in-Err-clause-instances : goal.returns-in-Err-clause-instances
returns-in-Err-clause-instances g c = c.in-Err.ensures.instances ∙ c.loop-out.invariant.instances

pub returns-in-Err-clause-cause : goal.returns-in-Err-clause-cause
returns-in-Err-clause-cause g c =
    let cause = c.in-Err.ensures.cause in
    let kept = c.loop-out.invariant.kept in
    record {
      later = omega (arith, cause.later, kept);
      kept = tt;
      failed = omega (arith, cause.failed, kept);
    }

pub returns-in-Err-clause-going : goal.returns-in-Err-clause-going
returns-in-Err-clause-going g c = λ h. c.in-Err.ensures.going (c.loop-out.invariant.going h)

pub returns-in-Err-clause-origin : goal.returns-in-Err-clause-origin
returns-in-Err-clause-origin g c = c.in-Err.ensures.origin ∙ c.loop-out.invariant.origin

pub returns-clause-adds : goal.returns-clause-adds
returns-clause-adds g c =
    let k = g.K.Sink in
    let w = g.W.Watch in
    let l = c.loop-out in
    takes_whole (Took k.written k.faults k.goes_on w.saw c.args.self.now) (Took k.written k.faults k.goes_on w.saw l.self) c.args.instance (marks_of c.args.outs.now)
    (subst (λ (xs : List Out). TakesMarks (Took k.written k.faults k.goes_on w.saw c.args.self.now) (Took k.written k.faults k.goes_on w.saw l.self) c.args.instance (marks_of xs)) (take_all l.out-index c.args.outs.now c.loop-out-test.false) l.invariant.adds)

pub returns-clause-instances : goal.returns-clause-instances
returns-clause-instances g c = c.loop-out.invariant.instances

pub returns-clause-cause : goal.returns-clause-cause
returns-clause-cause g c = record { later = omega (arith, c.loop-out.invariant.kept); kept = c.loop-out.invariant.kept; failed = tt }

pub returns-clause-going : goal.returns-clause-going
returns-clause-going g c = c.loop-out.invariant.going

pub returns-clause-origin : goal.returns-clause-origin
returns-clause-origin g c = c.loop-out.invariant.origin

pub returns-in-Err-clause-why : goal.returns-in-Err-clause-why
returns-in-Err-clause-why g c = λ none.
    let i = c.loop-out.invariant in
    subst (λ (n : ℕ). StopsFor (cause_of c.some_apart.new.self) n (g.K.Sink.faults (sink_of c.some_apart.new.self))) i.faults (c.in-Err.ensures.why (i.cause_is ∙ none))

pub returns-in-Err-clause-after : goal.returns-in-Err-clause-after
returns-in-Err-clause-after g c = λ some.
    let i = c.loop-out.invariant in
    subst (λ (l : Lister g.row.K.Denot g.row.W.Denot). StaysStopped l c.some_apart.new.self (Err c.in-Err.field-0)) (i.same some) (c.in-Err.ensures.after (subst IsSome (sym i.cause_is) some))

pub returns-clause-ok : goal.returns-clause-ok
returns-clause-ok g c = c.loop-out.invariant.cause_is

pub returns-clause-none : goal.returns-clause-none
returns-clause-none g c = λ some. subst (λ (xs : List Out). marks_of xs ≡ []) (take_all c.loop-out.out-index c.args.outs.now c.loop-out-test.false) (c.loop-out.invariant.none some)
