use Rattle.std.proofs.Common.{◌≡◌, ◌≢◌, ◌∷◌, ◌+◌, ◌∙◌, ◌<◌, [], ℕ, List, take, refl, sym, subst, arith}
use Rattle.std.specs.Prelude.{Err, IsSome}
use Rattle.std.proofs.lemmas.List.{take_all}
use Rattle.la_base.specs.declared.wires.Mark.{Mark}
use Rattle.tree_io.specs.Feeds.{TakesMarks, real}
use Rattle.tree_io.proofs.Taking.{real_next, stops_at_real, takes_nothing, takes_then, takes_whole}
use Rattle.note_lister.proofs.PushLemmas.{none_more}
use Rattle.note_lister.specs.Taking.{StaysStopped, StopsFor, Took, cause_of, sink_of}
use Rattle.note_lister.specs.declared.lister.Lister.{Lister}
use Rattle.note_lister.proofs.lister.Lister.marks_apart.Goals as goal

pub loop-mark-init : goal.loop-mark-init
loop-mark-init g c =
    let k = g.K.Sink in
    let w = g.W.Watch in
    record {
      within = c.requires.within;
      apart = c.requires.apart;
      adds = takes_nothing (Took k.written k.faults k.goes_on w.saw c.args.self.now) c.args.instance;
      instances = refl;
      kept = refl;
      going = λ h. h;
      origin = refl;
      cause_is = refl;
      faults = refl;
      same = λ _. refl;
      none = λ _. refl;
    }

pub some_apart-requires : goal.some_apart-requires
some_apart-requires g c = record { within = c.loop-mark.invariant.within; apart = c.loop-mark.invariant.apart }

pub loop-mark-preserved : goal.loop-mark-preserved
loop-mark-preserved g c =
    let k = g.K.Sink in
    let w = g.W.Watch in
    let i = c.loop-mark.invariant in
    let e = c.in-Ok.ensures in
    let n = c.loop-mark.mark-index in
    let mid = c.loop-mark.self in
    let new = c.some_apart.new.self in
    record {
      within = subst (λ (n : ℕ). c.args.instance < n) (sym e.instances) i.within;
      apart = e.apart;
      adds = takes_then (Took k.written k.faults k.goes_on w.saw c.args.self.now) (Took k.written k.faults k.goes_on w.saw mid) (Took k.written k.faults k.goes_on w.saw new) c.args.instance (real (take n c.args.marks.now)) (real (c.mark-item.result ∷ [])) (real (take (n + 1) c.args.marks.now)) i.adds
          (subst (λ (l : List Mark). TakesMarks (Took k.written k.faults k.goes_on w.saw mid) (Took k.written k.faults k.goes_on w.saw new) c.args.instance l) c.real_of.ensures e.adds) (real_next c.args.marks.now n c.mark-item.result c.loop-mark-test.true c.mark-item.is);
      instances = e.instances ∙ i.instances;
      kept = e.cause.kept ∙ i.kept;
      going = λ h. e.going (i.going h);
      origin = e.origin ∙ i.origin;
      cause_is = e.ok ∙ i.cause_is;
      faults = e.faults ∙ i.faults;
      same = λ some. e.same (subst IsSome (sym i.cause_is) some) ∙ i.same some;
      none = λ some. none_more (real (take n c.args.marks.now)) (real (c.mark-item.result ∷ [])) (real (take (n + 1) c.args.marks.now)) (real_next c.args.marks.now n c.mark-item.result c.loop-mark-test.true c.mark-item.is) (i.none some)
          (sym c.real_of.ensures ∙ e.none (subst IsSome (sym i.cause_is) some));
    }

pub returns-in-Err-clause-adds : goal.returns-in-Err-clause-adds
returns-in-Err-clause-adds g c =
    let k = g.K.Sink in
    let w = g.W.Watch in
    let e = c.in-Err.ensures in
    let mid = c.loop-mark.self in
    let new = c.some_apart.new.self in
    stops_at_real c.args.marks.now c.loop-mark.mark-index c.mark-item.result c.loop-mark-test.true c.mark-item.is (subst (λ (l : List Mark). l ≢ []) c.real_of.ensures e.some) (Took k.written k.faults k.goes_on w.saw c.args.self.now) (Took k.written k.faults k.goes_on w.saw mid) (Took k.written k.faults k.goes_on w.saw new) c.args.instance c.loop-mark.invariant.adds
    (subst (λ (l : List Mark). TakesMarks (Took k.written k.faults k.goes_on w.saw mid) (Took k.written k.faults k.goes_on w.saw new) c.args.instance l) c.real_of.ensures e.adds)

pub returns-in-Err-clause-instances : goal.returns-in-Err-clause-instances
returns-in-Err-clause-instances g c = c.in-Err.ensures.instances ∙ c.loop-mark.invariant.instances

pub returns-in-Err-clause-cause : goal.returns-in-Err-clause-cause
returns-in-Err-clause-cause g c =
    let cause = c.in-Err.ensures.cause in
    let kept = c.loop-mark.invariant.kept in
    record {
      later = omega (arith, cause.later, kept);
      kept = tt;
      failed = omega (arith, cause.failed, kept);
    }

pub returns-in-Err-clause-going : goal.returns-in-Err-clause-going
returns-in-Err-clause-going g c = λ h. c.in-Err.ensures.going (c.loop-mark.invariant.going h)

pub returns-in-Err-clause-origin : goal.returns-in-Err-clause-origin
returns-in-Err-clause-origin g c = c.in-Err.ensures.origin ∙ c.loop-mark.invariant.origin

pub returns-clause-adds : goal.returns-clause-adds
returns-clause-adds g c =
    let k = g.K.Sink in
    let w = g.W.Watch in
    let l = c.loop-mark in
    takes_whole (Took k.written k.faults k.goes_on w.saw c.args.self.now) (Took k.written k.faults k.goes_on w.saw l.self) c.args.instance (real c.args.marks.now)
    (subst (λ (xs : List Mark). TakesMarks (Took k.written k.faults k.goes_on w.saw c.args.self.now) (Took k.written k.faults k.goes_on w.saw l.self) c.args.instance (real xs)) (take_all l.mark-index c.args.marks.now c.loop-mark-test.false) l.invariant.adds)

pub returns-clause-instances : goal.returns-clause-instances
returns-clause-instances g c = c.loop-mark.invariant.instances

pub returns-clause-cause : goal.returns-clause-cause
returns-clause-cause g c = record { later = omega (arith, c.loop-mark.invariant.kept); kept = c.loop-mark.invariant.kept; failed = tt }

pub returns-clause-going : goal.returns-clause-going
returns-clause-going g c = c.loop-mark.invariant.going

pub returns-clause-origin : goal.returns-clause-origin
returns-clause-origin g c = c.loop-mark.invariant.origin

pub returns-in-Err-clause-why : goal.returns-in-Err-clause-why
returns-in-Err-clause-why g c = λ none.
    let i = c.loop-mark.invariant in
    subst (λ (n : ℕ). StopsFor (cause_of c.some_apart.new.self) n (g.K.Sink.faults (sink_of c.some_apart.new.self))) i.faults (c.in-Err.ensures.why (i.cause_is ∙ none))

pub returns-in-Err-clause-after : goal.returns-in-Err-clause-after
returns-in-Err-clause-after g c = λ some.
    let i = c.loop-mark.invariant in
    subst (λ (l : Lister g.row.K.Denot g.row.W.Denot). StaysStopped l c.some_apart.new.self (Err c.in-Err.field-0)) (i.same some) (c.in-Err.ensures.after (subst IsSome (sym i.cause_is) some))

pub returns-clause-ok : goal.returns-clause-ok
returns-clause-ok g c = c.loop-mark.invariant.cause_is

pub returns-clause-none : goal.returns-clause-none
returns-clause-none g c = λ some. subst (λ (xs : List Mark). real xs ≡ []) (take_all c.loop-mark.mark-index c.args.marks.now c.loop-mark-test.false) (c.loop-mark.invariant.none some)
