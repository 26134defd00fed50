use Rattle.std.proofs.Common.{◌≡◌, ◌+◌, ◌-◌, ◌++◌, List, ℕ, Ok, length, length-drop, take, drop, refl, sym, ◌∙◌, ap, subst, arith, append_assoc}
use Rattle.std.proofs.lemmas.List.{take_all}
use Rattle.la_base.specs.Samples.{samples}
use Rattle.la_base.specs.Runs.{samples_of}
use Rattle.la_base.specs.declared.samples.Run.{Run}
use Rattle.la_base.proofs.RunLemmas.{count_more, runs_from, samples_more, samples_parts}
use Rattle.wait_cond.specs.Stops.{Chain}
use Rattle.wait_cond.specs.Waiting.{alts_of, consumed_by, wait_from}
use Rattle.wait_cond.specs.declared.alt.Alt.{Alt}
use Rattle.find_job.proofs.Rooms.{room_for, runs_rest}
use Rattle.find_job.specs.Stopping.{AllWritten, CutOff}
use Rattle.find_job.proofs.Going.{consumed_on, cut_more, written_nothing, written_on}
use Rattle.find_job.proofs.stops.write_runs.Goals as goal

pub loop-at-init : goal.loop-at-init
loop-at-init g c = record {
  within = omega arith;
  count = omega arith;
  alts = refl;
  written = λ list stops waits chain. written_nothing c.args.waiter.now list stops (g.K.Sink.written c.args.sink.now) waits chain;
  faults = refl;
  goes_on = g.met.K.Sink.goes_on_still c.args.sink.now;
}

pub write_exact-requires-clause-room : goal.write_exact-requires-clause-room
write_exact-requires-clause-room g c =
    let runs = c.args.runs.now in
    omega (arith, c.requires, c.loop-at.invariant.count, runs_rest runs c.loop-at.at)

pub write_run-requires : goal.write_run-requires
write_run-requires g c = omega (arith, c.requires, c.loop-at.invariant.count, room_for c.args.runs.now c.loop-at.at c.index-runs-at.result c.loop-at-test.true c.index-runs-at.is)

-- the others are written by masks
pub returns-then-is_exact-clause-written : goal.returns-then-is_exact-clause-written
returns-then-is_exact-clause-written g c = λ list stops waits chain.
    let k = g.K.Sink in
    let i = c.loop-at.invariant in
    let runs = c.args.runs.now in
    let at = c.loop-at.at in
    let first = i.written list stops waits chain in
    let front = list ++ samples_of (take at runs) in
    let second = c.write_exact.ensures.written front (stops ++ first.more) first.waits (subst (λ (a : List Alt). Chain front a 0 (stops ++ first.more) (wait_from c.loop-at.waiter)) (sym i.alts) first.chain) in
    let whole : front ++ samples_of (runs_from runs at) ≡ list ++ samples_of runs =
    append_assoc list (samples_of (take at runs)) (samples_of (runs_from runs at)) ∙ ap (λ (l : List ℕ). list ++ l) (ap (λ (l : List Run). samples_of (take at runs) ++ samples_of l) (take_all (length runs - at) (drop at runs) (omega (arith, length-drop at runs))) ∙ sym (samples_parts runs at)) in
    written_on c.args.waiter.now c.loop-at.waiter c.write_exact.new.waiter stops list front (samples_of (runs_from runs at)) (samples_of runs) (k.written c.args.sink.now) (k.written c.loop-at.sink) (k.written c.write_exact.new.sink) c.write_exact.result i.alts whole first second

pub returns-then-is_exact-clause-consumed : goal.returns-then-is_exact-clause-consumed
returns-then-is_exact-clause-consumed g c = consumed_on c.write_exact.result (consumed_by c.write_exact.new.waiter) (consumed_by c.loop-at.waiter) (consumed_by c.args.waiter.now) (length (samples_of (take c.loop-at.at c.args.runs.now))) (length (samples_of (runs_from c.args.runs.now c.loop-at.at))) (length (samples_of c.args.runs.now)) c.loop-at.invariant.count (runs_rest c.args.runs.now c.loop-at.at) c.write_exact.ensures.consumed

pub loop-at-preserved : goal.loop-at-preserved
loop-at-preserved g c =
    let k = g.K.Sink in
    let i = c.loop-at.invariant in
    let runs = c.args.runs.now in
    let at = c.loop-at.at in
    let run = c.index-runs-at.result in
    let so_far = samples_of (take at runs) in
    record {
      within = omega (arith, c.loop-at-test.true);
      count = omega (arith, c.in-Ok.ensures.consumed, i.count, count_more runs at run c.loop-at-test.true c.index-runs-at.is);
      alts = c.in-Ok.ensures.alts ∙ i.alts;
      written = λ list stops waits chain.
          let first = i.written list stops waits chain in
          let front = list ++ so_far in
          let second = c.in-Ok.ensures.written front (stops ++ first.more) first.waits (subst (λ (a : List Alt). Chain front a 0 (stops ++ first.more) (wait_from c.loop-at.waiter)) (sym i.alts) first.chain) in
          let longer : front ++ samples run ≡ list ++ samples_of (take (at + 1) runs) = append_assoc list so_far (samples run) ∙ ap (λ (l : List ℕ). list ++ l) (sym (samples_more runs at run c.loop-at-test.true c.index-runs-at.is)) in
          written_on c.args.waiter.now c.loop-at.waiter c.write_run.new.waiter stops list front (samples run) (samples_of (take (at + 1) runs)) (k.written c.args.sink.now) (k.written c.loop-at.sink) (k.written c.write_run.new.sink) (Ok (tt {0})) i.alts longer first second;
      faults = c.in-Ok.ensures.cause.kept ∙ i.faults;
      goes_on = g.met.K.Sink.goes_on_further _ _ _ i.goes_on c.in-Ok.ensures.goes_on;
    }

pub returns-in-Err-clause-written : goal.returns-in-Err-clause-written
returns-in-Err-clause-written g c = λ list stops waits chain.
    let k = g.K.Sink in
    let i = c.loop-at.invariant in
    let runs = c.args.runs.now in
    let at = c.loop-at.at in
    let run = c.index-runs-at.result in
    let so_far = samples_of (take at runs) in
    let rest = samples_of (drop (at + 1) runs) in
    let first = i.written list stops waits chain in
    let front = list ++ so_far in
    let cut = c.in-Err.ensures.written front (stops ++ first.more) first.waits (subst (λ (a : List Alt). Chain front a 0 (stops ++ first.more) (wait_from c.loop-at.waiter)) (sym i.alts) first.chain) in
    let alts = alts_of c.args.waiter.now in
    let whole : (front ++ samples run) ++ rest ≡ list ++ samples_of runs =
    ap (λ (l : List ℕ). l ++ rest) (append_assoc list so_far (samples run)) ∙ append_assoc list (so_far ++ samples run) rest
    ∙ ap (λ (l : List ℕ). list ++ l) (ap (λ (l : List ℕ). l ++ rest) (sym (samples_more runs at run c.loop-at-test.true c.index-runs-at.is)) ∙ sym (samples_parts runs (at + 1))) in
    subst (λ (l : List ℕ). CutOff alts l stops (k.written c.args.sink.now) (k.written c.write_run.new.sink)) whole
    (cut_more alts stops c.loop-at.waiter front (k.written c.args.sink.now) (k.written c.loop-at.sink) first (front ++ samples run) rest (k.written c.write_run.new.sink)
    (subst (λ (a : List Alt). CutOff a (front ++ samples run) (stops ++ first.more) (k.written c.loop-at.sink) (k.written c.write_run.new.sink)) i.alts cut))

pub returns-clause-written : goal.returns-clause-written
returns-clause-written g c = λ list stops waits chain.
    let k = g.K.Sink in
    let i = c.loop-at.invariant in
    let runs = c.args.runs.now in
    subst (λ (l : List Run). AllWritten c.loop-at.waiter (alts_of c.args.waiter.now) (list ++ samples_of l) stops (k.written c.args.sink.now) (k.written c.loop-at.sink)) (take_all c.loop-at.at runs (omega (arith, c.loop-at-test.false))) (i.written list stops waits chain)

pub returns-clause-consumed : goal.returns-clause-consumed
returns-clause-consumed g c =
    let runs = c.args.runs.now in
    let end : length (samples_of (take c.loop-at.at runs)) ≡ length (samples_of runs) = ap (λ (l : List Run). length (samples_of l)) (take_all c.loop-at.at runs (omega (arith, c.loop-at-test.false))) in
    omega (arith, c.loop-at.invariant.count, end)
