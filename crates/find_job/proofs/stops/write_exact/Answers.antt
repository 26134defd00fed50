use Rattle.std.proofs.Common.{◌≡◌, ◌≢◌, ◌+◌, ◌++◌, List, ℕ, Some, length, take, drop, refl, sym, ◌∙◌, ap, subst, arith, append_assoc}
use Rattle.std.proofs.lemmas.List.{take_all}
use Rattle.la_base.specs.Samples.{samples}
use Rattle.la_base.specs.Runs.{samples_of}
use Rattle.la_base.specs.declared.samples.Run.{Run}
use Rattle.la_base.proofs.RunLemmas.{count_more, samples_more, samples_parts}
use Rattle.wait_cond.specs.Stops.{Chain, MetSet}
use Rattle.wait_cond.specs.Waiting.{alts_of}
use Rattle.wait_cond.specs.Walks.{walk_from, walk_last, walked}
use Rattle.std.specs.Io.KnownBytes.{Appends}
use Rattle.la_io.specs.Causes.{AppendsFront}
use Rattle.listing_out.specs.StopLines.{line_of}
use Rattle.find_job.proofs.Rooms.{room_for}
use Rattle.find_job.specs.Stopping.{CutOff}
use Rattle.find_job.proofs.Walking.{Walking, walking_starts, walking_passed, walking_stopped, walking_cut}
use Rattle.find_job.proofs.stops.write_exact.Goals as goal
use Rattle.find_job.proofs.stops.write_exact.Goals.{then-met-eq0, else-met-eq0+in-Ok}

pub loop-run-init : goal.loop-run-init
loop-run-init g c =
    let w = c.args.waiter.now in
    let walk = c.walk-walk.result in
    record {
      count = omega (arith, c.walk-walk.ensures.walked);
      walking = λ list stops waits chain. walking_starts (alts_of w) list stops walk (g.K.Sink.written c.args.sink.now) (c.walk-walk.ensures.waits list waits) (subst (λ (n : ℕ). Chain list (alts_of w) 0 stops n) (sym c.walk-walk.ensures.from) chain);
      faults = refl;
      goes_on = g.met.K.Sink.goes_on_still c.args.sink.now;
    }

pub pass-requires : goal.pass-requires
pass-requires g c = omega (arith, c.requires.room, c.loop-run.invariant.count, room_for c.args.runs.now c.loop-run.run-index c.run-item.result c.loop-run-test.true c.run-item.is)

pub stop-requires : goal.stop-requires
stop-requires g c = omega (arith, c.requires.room, c.loop-run.invariant.count, room_for c.args.runs.now c.loop-run.run-index c.run-item.result c.loop-run-test.true c.run-item.is)

pub returns-in-Err-clause-written : goal.returns-in-Err-clause-written
returns-in-Err-clause-written g c = λ list stops waits chain.
    let k = g.K.Sink in
    let i = c.loop-run.invariant in
    let alts = alts_of c.args.waiter.now in
    let runs = c.args.runs.now in
    let at = c.loop-run.run-index in
    let run = c.run-item.result in
    let walk = c.loop-run.walk in
    let so_far = samples_of (take at runs) in
    let all = list ++ so_far in
    let walking = i.walking list stops waits chain in
    let some : walked walk ≢ 0 = λ zero. c.requires.some (omega (arith, zero, i.count)) in
    let set = subst (λ (v : ℕ). MetSet alts (Some v) run.value (walk_from walk) (walked walk) c.met-met.result) c.last.ensures (c.met-met.ensures alts (walk_from walk) (walked walk) c.pair-pair.ensures.says) in
    let both = c.stop.ensures.waits alts all c.met-met.result walking.waits some c.if-met-eq0.false set (c.pair-pair.ensures.stands run.value) in
    let place : c.consumed-at.result ≡ length all = c.consumed-at.ensures ∙ sym walking.waits.count in
    let rest = samples_of (drop (at + 1) runs) in
    let whole : (all ++ samples run) ++ rest ≡ list ++ samples_of runs =
    ap (λ (l : List ℕ). l ++ rest) (append_assoc list so_far (samples run)) ∙ append_assoc list (so_far ++ samples run) rest
    ∙ ap (λ (l : List ℕ). list ++ l) (ap (λ (l : List ℕ). l ++ rest) (sym (samples_more runs at run c.loop-run-test.true c.run-item.is)) ∙ sym (samples_parts runs (at + 1))) in
    let line = subst (λ (n : ℕ). AppendsFront (k.written c.loop-run.sink) (k.written c.write.new.sink) (line_of (n, c.met-met.result))) place c.in-Err.ensures.front in
    subst (λ (l : List ℕ). CutOff alts l stops (k.written c.args.sink.now) (k.written c.write.new.sink)) whole
    (walking_cut alts all (samples run) stops walk walk (k.written c.args.sink.now) (k.written c.loop-run.sink) walking (length all) c.met-met.result both.0 rest (k.written c.write.new.sink) line)

pub loop-run-preserved : goal.loop-run-preserved
loop-run-preserved g c =
    let k = g.K.Sink in
    let i = c.loop-run.invariant in
    let alts = alts_of c.args.waiter.now in
    let runs = c.args.runs.now in
    let at = c.loop-run.run-index in
    let run = c.run-item.result in
    let walk = c.loop-run.walk in
    let so_far = samples_of (take at runs) in
    let longer = λ (list : List ℕ). append_assoc list so_far (samples run) ∙ ap (λ (l : List ℕ). list ++ l) (sym (samples_more runs at run c.loop-run-test.true c.run-item.is)) in
    let some : walked walk ≢ 0 = λ zero. c.requires.some (omega (arith, zero, i.count)) in
    let set = subst (λ (v : ℕ). MetSet alts (Some v) run.value (walk_from walk) (walked walk) c.met-met.result) c.last.ensures (c.met-met.ensures alts (walk_from walk) (walked walk) c.pair-pair.ensures.says) in
    elim c.if-met-eq0.branch [
      | then-met-eq0 w ↦ record {
        count = omega (arith, ap walked w.walk-is, w.pass.ensures.walked, i.count, count_more runs at run c.loop-run-test.true c.run-item.is);
        walking = λ list stops waits chain.
            let all = list ++ so_far in
            let walking = i.walking list stops waits chain in
            let none = subst (λ (n : ℕ). MetSet alts (Some (walk_last walk)) run.value (walk_from walk) (walked walk) n) w.if-met-eq0.true set in
            let both = w.pass.ensures.waits alts all walking.waits some none (c.pair-pair.ensures.stands run.value) in
            rw (w.walk-is, w.sink-is) (subst (λ (l : List ℕ). Walking alts l stops w.pass.new.self (k.written c.args.sink.now) (k.written c.loop-run.sink)) (longer list)
            (walking_passed alts all (samples run) stops walk w.pass.new.self (k.written c.args.sink.now) (k.written c.loop-run.sink) walking both.1 w.pass.ensures.from));
        faults = ap k.faults w.sink-is ∙ i.faults;
        goes_on = rw w.sink-is i.goes_on;
      }
      | else-met-eq0+in-Ok w ↦ record {
        count = omega (arith, ap walked w.walk-is, w.stop.ensures.walked, i.count, count_more runs at run c.loop-run-test.true c.run-item.is);
        walking = λ list stops waits chain.
            let all = list ++ so_far in
            let walking = i.walking list stops waits chain in
            let both = w.stop.ensures.waits alts all c.met-met.result walking.waits some w.if-met-eq0.false set (c.pair-pair.ensures.stands run.value) in
            let place : w.consumed-at.result ≡ length all = w.consumed-at.ensures ∙ sym walking.waits.count in
            let from : walk_from w.stop.new.self ≡ length all + 1 = w.stop.ensures.from ∙ ap (λ (n : ℕ). n + 1) (sym walking.waits.count) in
            let line = subst (λ (n : ℕ). Appends (k.written c.loop-run.sink) (k.written w.write.new.sink) (line_of (n, c.met-met.result))) place w.in-Ok.ensures.whole in
            rw (w.walk-is, w.sink-is) (subst (λ (l : List ℕ). Walking alts l stops w.stop.new.self (k.written c.args.sink.now) (k.written w.write.new.sink)) (longer list)
            (walking_stopped alts all (samples run) stops walk w.stop.new.self (k.written c.args.sink.now) (k.written c.loop-run.sink) walking (length all) c.met-met.result both.0 (k.written w.write.new.sink) line both.1 from));
        faults = ap k.faults w.sink-is ∙ w.in-Ok.ensures.cause.kept ∙ i.faults;
        goes_on = rw w.sink-is (g.met.K.Sink.goes_on_further _ _ _ i.goes_on w.in-Ok.ensures.goes_on);
      }
    ]

pub put-requires : goal.put-requires
put-requires g c = λ zero. c.requires.some (omega (arith, zero, c.loop-run.invariant.count))

pub returns-clause-written : goal.returns-clause-written
returns-clause-written g c = λ list stops waits chain.
    let k = g.K.Sink in
    let i = c.loop-run.invariant in
    let alts = alts_of c.args.waiter.now in
    let runs = c.args.runs.now in
    let walking = i.walking list stops waits chain in
    let end : take c.loop-run.run-index runs ≡ runs = take_all c.loop-run.run-index runs (omega (arith, c.loop-run-test.false)) in
    let whole = subst (λ (l : List Run). Walking alts (list ++ samples_of l) stops c.loop-run.walk (k.written c.args.sink.now) (k.written c.loop-run.sink)) end walking in
    record {
      more = whole.more;
      waits = c.put.ensures.waits (list ++ samples_of runs) whole.waits;
      chain = subst (λ (n : ℕ). Chain (list ++ samples_of runs) alts 0 (stops ++ whole.more) n) (sym c.put.ensures.from) whole.chain;
      written = whole.written;
    }

pub returns-clause-consumed : goal.returns-clause-consumed
returns-clause-consumed g c =
    let runs = c.args.runs.now in
    let end : length (samples_of (take c.loop-run.run-index runs)) ≡ length (samples_of runs) = ap (λ (l : List Run). length (samples_of l)) (take_all c.loop-run.run-index runs (omega (arith, c.loop-run-test.false))) in
    omega (arith, c.put.ensures.consumed, c.loop-run.invariant.count, end)
