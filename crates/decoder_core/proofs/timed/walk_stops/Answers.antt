use Rattle.std.proofs.Common.{◌≡◌, ◌+◌, ◌-◌, [], ◌++◌, ℕ, List, length, take, replicate, sym, ◌∙◌, ap, subst, arith, append_assoc}
use Rattle.std.proofs.lemmas.List.{append-nil}
use Rattle.la_base.specs.Runs.{samples_of}
use Rattle.la_base.specs.declared.wires.Out.{Out}
use Rattle.la_base.proofs.RunLemmas.{count_more, samples_more}
use Rattle.wait_cond.specs.Walks.{walked}
use Rattle.wait_cond.specs.declared.walk.Walk.{Walk}
use Rattle.decoder_core.specs.declared.timed.Next.{Next}
use Rattle.decoder_core.specs.Striding.{Awaits, PassesOver, Strides}
use Rattle.decoder_core.proofs.Counting.{samples_are}
use Rattle.decoder_core.proofs.Striding.{awaits_pass, parts, stride_pass, strides_pass, strides_then}
use Rattle.decoder_core.proofs.timed.walk_stops.Goals as goal
use Rattle.decoder_core.proofs.timed.walk_stops.Goals.{then-run-left, else-run-left+else-not-has_room+else-came}

pub returns-then-passed-runs-clause-strides : goal.returns-then-passed-runs-clause-strides
returns-then-passed-runs-clause-strides g c =
    let m = g.L.LogicMachine in
    let i = c.loop-place.invariant in
    let runs = c.args.runs.now in
    let passed = c.pass_before-passed in
    let setup = g.L.Configured.setup c.args.machine.now in
    let end : passed.result.place ≡ length runs = omega (arith, passed.ensures.within, c.if-passed-runs.true) in
    record {
      more = samples_of (take passed.result.place runs);
      split = ap (λ (n : ℕ). samples_of (take n runs)) (sym end) ∙ sym (append-nil (samples_of (take passed.result.place runs)));
      strides = strides_pass (m.outs setup) m.stands m.alts c.args.machine.now c.loop-place.machine c.args.walk.now c.loop-place.walk passed.new.walk [] c.loop-place.into (samples_of (take c.loop-place.place runs)) (samples_of (take passed.result.place runs)) i.strides
          (subst (λ (s : g.row.L-Setup.Denot). PassesOver (m.outs s) m.stands m.alts c.loop-place.machine c.loop-place.walk passed.new.walk (samples_of (take c.loop-place.place runs)) (samples_of (take passed.result.place runs))) i.setup passed.ensures.passes);
    }

pub returns-then-not-has_room-clause-strides : goal.returns-then-not-has_room-clause-strides
returns-then-not-has_room-clause-strides g c =
    let m = g.L.LogicMachine in
    let i = c.loop-place.invariant in
    let runs = c.args.runs.now in
    let passed = c.pass_before-passed in
    let setup = g.L.Configured.setup c.args.machine.now in
    record {
      more = samples_of (take passed.result.place runs);
      split = sym (append-nil (samples_of (take passed.result.place runs)));
      strides = strides_pass (m.outs setup) m.stands m.alts c.args.machine.now c.loop-place.machine c.args.walk.now c.loop-place.walk passed.new.walk [] c.loop-place.into (samples_of (take c.loop-place.place runs)) (samples_of (take passed.result.place runs)) i.strides
          (subst (λ (s : g.row.L-Setup.Denot). PassesOver (m.outs s) m.stands m.alts c.loop-place.machine c.loop-place.walk passed.new.walk (samples_of (take c.loop-place.place runs)) (samples_of (take passed.result.place runs))) i.setup passed.ensures.passes);
    }

pub returns-then-came-clause-fewer : goal.returns-then-came-clause-fewer
returns-then-came-clause-fewer g c = λ some.
    let runs = c.args.runs.now in
    let more = count_more runs c.pass_before-passed.result.place c.index-runs-passed.result (omega (arith, c.if-passed-runs.false)) c.index-runs-passed.is in
    omega (arith, more, c.rest_of.ensures.len, c.stride-came.ensures.rest)

pub returns-then-came-clause-strides : goal.returns-then-came-clause-strides
returns-then-came-clause-strides g c =
    let m = g.L.LogicMachine in
    let i = c.loop-place.invariant in
    let runs = c.args.runs.now in
    let passed = c.pass_before-passed in
    let at = passed.result.place in
    let run = c.index-runs-passed.result in
    let came = c.stride-came.result in
    let setup = g.L.Configured.setup c.args.machine.now in
    let so_far = samples_of (take at runs) in
    let some = replicate (run.len - came.rest) run.value in
    let strides = strides_pass (m.outs setup) m.stands m.alts c.args.machine.now c.loop-place.machine c.args.walk.now c.loop-place.walk passed.new.walk [] c.loop-place.into (samples_of (take c.loop-place.place runs)) so_far i.strides
    (subst (λ (s : g.row.L-Setup.Denot). PassesOver (m.outs s) m.stands m.alts c.loop-place.machine c.loop-place.walk passed.new.walk (samples_of (take c.loop-place.place runs)) so_far) i.setup passed.ensures.passes) in
    record {
      more = so_far ++ some;
      split = samples_more runs at run (omega (arith, c.if-passed-runs.false)) c.index-runs-passed.is
          ∙ ap (λ (l : List ℕ). so_far ++ l) (parts run came.rest c.stride-came.ensures.rest ∙ ap (λ (l : List ℕ). some ++ l) (sym c.rest_of.ensures.samples))
          ∙ sym (append_assoc so_far some _);
      strides = strides_then (m.outs setup) m.stands m.alts c.args.machine.now c.loop-place.machine c.stride-came.new.machine c.args.walk.now passed.new.walk c.stride-came.new.walk [] c.loop-place.into c.stride-came.new.into so_far some strides
          (subst (λ (s : g.row.L-Setup.Denot). Strides (m.outs s) m.stands m.alts c.loop-place.machine c.stride-came.new.machine passed.new.walk c.stride-came.new.walk c.loop-place.into c.stride-came.new.into some) i.setup c.stride-came.ensures.strides);
    }

pub returns-clause-strides : goal.returns-clause-strides
returns-clause-strides g c =
    let runs = c.args.runs.now in
    let end : c.loop-place.place ≡ length runs = omega (arith, c.loop-place-test.false, c.loop-place.invariant.within) in
    record {
      more = samples_of (take c.loop-place.place runs);
      split = ap (λ (n : ℕ). samples_of (take n runs)) (sym end) ∙ sym (append-nil (samples_of (take c.loop-place.place runs)));
      strides = c.loop-place.invariant.strides;
    }

pub loop-place-preserved : goal.loop-place-preserved
loop-place-preserved g c =
    let m = g.L.LogicMachine in
    let i = c.loop-place.invariant in
    let runs = c.args.runs.now in
    let passed = c.pass_before-passed in
    let at = passed.result.place in
    let run = c.index-runs-passed.result in
    let walk = passed.new.walk in
    let left = c.ahead-left.result in
    let so_far = samples_of (take at runs) in
    let next = samples_of (take (at + 1) runs) in
    let longer = sym (samples_more runs at run (omega (arith, c.if-passed-runs.false)) c.index-runs-passed.is) in
    let setup = g.L.Configured.setup c.args.machine.now in
    let strides = strides_pass (m.outs setup) m.stands m.alts c.args.machine.now c.loop-place.machine c.args.walk.now c.loop-place.walk walk [] c.loop-place.into (samples_of (take c.loop-place.place runs)) so_far i.strides
    (subst (λ (s : g.row.L-Setup.Denot). PassesOver (m.outs s) m.stands m.alts c.loop-place.machine c.loop-place.walk walk (samples_of (take c.loop-place.place runs)) so_far) i.setup passed.ensures.passes) in
    elim c.if-run-left.branch [
      | then-run-left w ↦ record {
        setup = ap g.L.Configured.setup w.machine-is ∙ i.setup;
        within = omega (arith, c.if-passed-runs.false);
        nothing = λ none. absurd (omega (arith, none));
        room = omega (arith, i.room, ap (λ (l : List Out). length l) w.into-is);
        some = λ none. passed.ensures.some (omega (arith, none, ap walked w.walk-is, w.pass.ensures.walked));
        awaits = subst (λ (machine : g.row.L.Denot). Awaits (m.alts machine) c.if-run-left.walk c.if-run-left.next.falls c.if-run-left.next.left) (sym w.machine-is)
            (subst (λ (n : Walk). Awaits (m.alts c.loop-place.machine) n c.if-run-left.next.falls c.if-run-left.next.left) (sym w.walk-is)
            (subst (λ (n : Next). Awaits (m.alts c.loop-place.machine) w.pass.new.self n.falls n.left) (sym w.next-is)
            (awaits_pass (m.alts c.loop-place.machine) walk w.pass.new.self c.loop-place.next.falls left run.len (c.ahead-left.ensures.awaits (m.alts c.loop-place.machine) passed.ensures.awaits) run.not_empty (omega (arith, w.if-run-left.true)) w.pass.ensures.walked w.pass.ensures.from)));
        strides = subst (λ (machine : g.row.L.Denot). Strides (m.outs setup) m.stands m.alts c.args.machine.now machine c.args.walk.now c.if-run-left.walk [] c.if-run-left.into next) (sym w.machine-is)
            (subst (λ (n : Walk). Strides (m.outs setup) m.stands m.alts c.args.machine.now c.loop-place.machine c.args.walk.now n [] c.if-run-left.into next) (sym w.walk-is)
            (subst (λ (l : List Out). Strides (m.outs setup) m.stands m.alts c.args.machine.now c.loop-place.machine c.args.walk.now w.pass.new.self [] l next) (sym w.into-is)
            (stride_pass g.L.Configured.setup m.outs m.stands m.alts g.met.L.LogicMachine.quiet setup c.args.machine.now c.loop-place.machine c.args.walk.now walk w.pass.new.self [] c.loop-place.into so_far next run left strides i.setup
            (c.ahead-left.ensures.stops (m.alts c.loop-place.machine) passed.ensures.awaits) longer (omega (arith, w.if-run-left.true)) w.pass.ensures.none w.pass.ensures.from)));
      }
      | else-run-left+else-not-has_room+else-came w ↦
          let came = w.stride-came in
          let none = came.ensures.through w.if-came.false in
          let whole : run.len - came.result.rest ≡ run.len = omega (arith, none) in
          record {
            setup = ap g.L.Configured.setup w.machine-is ∙ came.ensures.setup ∙ i.setup;
            within = omega (arith, c.if-passed-runs.false);
            nothing = λ zero. absurd (omega (arith, zero));
            room = omega (arith, came.ensures.room w.if-came.false, ap (λ (l : List Out). length l) w.into-is);
            some = λ zero. passed.ensures.some (omega (arith, zero, ap walked w.walk-is, came.ensures.walked));
            awaits = subst (λ (machine : g.row.L.Denot). Awaits (m.alts machine) c.if-run-left.walk c.if-run-left.next.falls c.if-run-left.next.left) (sym w.machine-is)
                (subst (λ (n : Walk). Awaits (m.alts came.new.machine) n c.if-run-left.next.falls c.if-run-left.next.left) (sym w.walk-is)
                (subst (λ (n : Next). Awaits (m.alts came.new.machine) came.new.walk n.falls n.left) (sym w.next-is) (came.ensures.awaits w.if-came.false)));
            strides = subst (λ (machine : g.row.L.Denot). Strides (m.outs setup) m.stands m.alts c.args.machine.now machine c.args.walk.now c.if-run-left.walk [] c.if-run-left.into next) (sym w.machine-is)
                (subst (λ (n : Walk). Strides (m.outs setup) m.stands m.alts c.args.machine.now came.new.machine c.args.walk.now n [] c.if-run-left.into next) (sym w.walk-is)
                (subst (λ (l : List Out). Strides (m.outs setup) m.stands m.alts c.args.machine.now came.new.machine c.args.walk.now came.new.walk [] l next) (sym w.into-is)
                (subst (λ (l : List ℕ). Strides (m.outs setup) m.stands m.alts c.args.machine.now came.new.machine c.args.walk.now came.new.walk [] came.new.into l)
                (ap (λ (n : ℕ). so_far ++ replicate n run.value) whole ∙ ap (λ (l : List ℕ). so_far ++ l) (sym (samples_are run)) ∙ longer)
                (strides_then (m.outs setup) m.stands m.alts c.args.machine.now c.loop-place.machine came.new.machine c.args.walk.now walk came.new.walk [] c.loop-place.into came.new.into so_far (replicate (run.len - came.result.rest) run.value) strides
                (subst (λ (s : g.row.L-Setup.Denot). Strides (m.outs s) m.stands m.alts c.loop-place.machine came.new.machine walk came.new.walk c.loop-place.into came.new.into (replicate (run.len - came.result.rest) run.value)) i.setup came.ensures.strides)))));
          }
    ]
