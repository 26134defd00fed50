use Rattle.std.proofs.Common.{◌≡◌, ◌+◌, ◌-◌, ◌<◌, ◌++◌, ℕ, List, Some, length, length-append, take, replicate, slice_index, refl, sym, ◌∙◌, ap, subst, arith, append_assoc, get_or}
use Rattle.std.proofs.lemmas.Bool.{false≢true}
use Rattle.std.proofs.lemmas.List.{append-nil, get_or_read_under}
use Rattle.la_base.specs.Samples.{samples}
use Rattle.la_base.specs.Runs.{samples_of}
use Rattle.la_base.specs.declared.wires.Out.{Out}
use Rattle.la_base.specs.declared.samples.Run.{Run}
use Rattle.la_base.proofs.RunLemmas.{samples_len, samples_more}
use Rattle.wait_cond.specs.Stops.{MetSet}
use Rattle.wait_cond.specs.Walks.{walk_from, walked}
use Rattle.wait_cond.specs.declared.walk.Walk.{Walk}
use Rattle.decoder_core.specs.Promises.{IsLoud, StandsThere}
use Rattle.decoder_core.specs.Treading.{OnWalk}
use Rattle.decoder_core.proofs.Counting.{samples_are}
use Rattle.decoder_core.proofs.Treading.{first_part, first_value, tread_pass, tread_stop, tread_there}
use Rattle.decoder_core.proofs.walks.walk_runs.Goals as goal
use Rattle.decoder_core.proofs.walks.walk_runs.Goals.{then-met-eq0, else-met-eq0+else-resume+else-is_full}

pub loop-place-init : goal.loop-place-init
loop-place-init g c =
    let m = g.L.LogicMachine in
    record {
      setup = refl;
      alts = refl;
      nothing = λ _. c.requires.empty;
      room = omega (arith, ap (λ (l : List Out). length l) c.requires.empty);
      some = c.requires.some;
      treads = λ says list waits st. subst (λ (l : List ℕ). OnWalk (m.outs (g.L.Configured.setup c.args.machine.now)) m.stands (m.alts c.args.machine.now) c.args.machine.now c.args.walk.now list l c.args.into.now) (sym (append-nil list))
          (record { waits = waits; machine_stands = st; gives = sym (append-nil (m.outs (g.L.Configured.setup c.args.machine.now) list)) ∙ ap (λ (l : List Out). m.outs (g.L.Configured.setup c.args.machine.now) list ++ l) (sym c.requires.empty) });
    }

pub returns-then-not-has_room-clause-treads : goal.returns-then-not-has_room-clause-treads
returns-then-not-has_room-clause-treads g c =
    let m = g.L.LogicMachine in
    let i = c.loop-place.invariant in
    record {
      more = samples_of (take c.loop-place.place c.args.runs.now);
      whole = λ _. refl;
      front = λ yes. absurd (false≢true yes);
      treads = i.treads;
    }

pub returns-clause-treads : goal.returns-clause-treads
returns-clause-treads g c =
    let m = g.L.LogicMachine in
    let i = c.loop-place.invariant in
    let runs = c.args.runs.now in
    let end : c.loop-place.place ≡ length runs = omega (arith, c.loop-place-test.false, c.loop-place.auto.place-end) in
    record {
      more = samples_of (take c.loop-place.place runs);
      whole = λ _. ap (λ (n : ℕ). samples_of (take n runs)) (sym end);
      front = λ yes. absurd (false≢true yes);
      treads = i.treads;
    }

pub returns-then-resume-clause-treads : goal.returns-then-resume-clause-treads
returns-then-resume-clause-treads g c =
    let m = g.L.LogicMachine in
    let i = c.loop-place.invariant in
    let runs = c.args.runs.now in
    let at = c.loop-place.place in
    let run = c.index-runs-place.result in
    let first = c.first_of.result in
    let walk = c.loop-place.walk in
    let within : at < length runs = omega (arith, c.loop-place-test.true) in
    let asked = m.alts c.args.machine.now in
    let so_far = samples_of (take at runs) in
    let one : samples first ≡ replicate 1 run.value = samples_are first ∙ (λ k. replicate (c.first_of.ensures.len k) (c.first_of.ensures.value k)) in
    record {
      more = so_far ++ samples first;
      whole = λ no. absurd (false≢true (sym no));
      front = λ _ other is.
          let here : at + 1 - 1 ≡ at = omega arith in
          let same : other ≡ run = is ∙ ap (λ (n : ℕ). get_or runs n other) here ∙ sym (get_or_read_under runs at (length runs) run other c.index-runs-place.is within refl) in
          samples_more runs at run within c.index-runs-place.is
          ∙ ap (λ (l : List ℕ). so_far ++ l) (first_part run run.not_empty ∙ ap (λ (l : List ℕ). l ++ replicate (run.len - 1) run.value) (sym one))
          ∙ sym (append_assoc so_far (samples first) (replicate (run.len - 1) run.value))
          ∙ ap (λ (r : Run). (so_far ++ samples first) ++ replicate (r.len - 1) r.value) (sym same);
      treads = λ says list waits st.
          let all = list ++ so_far in
          let on = i.treads says list waits st in
          let set = subst (λ (v : ℕ). MetSet asked (Some v) first.value (walk_from walk) (walked walk) c.met-met.result) c.last.ensures
          (subst (λ (v : ℕ). MetSet asked (Some c.last.result) v (walk_from walk) (walked walk) c.met-met.result) (sym c.first_of.ensures.value) (c.met-met.ensures asked (walk_from walk) (walked walk) says.says)) in
          let both = c.stop.ensures.waits asked all c.met-met.result on.waits i.some c.if-met-eq0.false set (says.stands first.value) in
          let count : length all ≡ walked walk = on.waits.count in
          let place : c.consumed-at.result ≡ length all = c.consumed-at.ensures ∙ sym count in
          let from : walk_from c.stop.new.self ≡ length all + 1 = c.stop.ensures.from ∙ ap (λ (n : ℕ). n + 1) (sym count) in
          let last : length all + 1 ≡ length (all ++ samples first) = omega (arith, length-append all (samples first), samples_len first, c.first_of.ensures.len) in
          let value_is : run.value ≡ slice_index (all ++ samples first) (length all) = sym c.first_of.ensures.value ∙ first_value all first first.not_empty in
          subst (λ (l : List ℕ). OnWalk (m.outs (g.L.Configured.setup c.args.machine.now)) m.stands asked c.resume.new.self c.stop.new.self list l c.resume.new.into) (append_assoc list so_far (samples first))
          (tread_there g.L.Configured.setup m.outs m.stands m.alts g.met.L.LogicMachine.quiet c.loop-place.machine walk c.stop.new.self list all (samples first) c.loop-place.into c.resume.new.self (length all) run.value c.met-met.result c.resume.new.into
          (subst (λ (n : ℕ). StandsThere (m.stands c.loop-place.machine) (m.stands c.resume.new.self) (m.alts c.loop-place.machine) n run.value c.met-met.result) place c.resume.ensures.stands)
          (subst (λ (n : ℕ). IsLoud (m.outs (g.L.Configured.setup c.loop-place.machine)) (m.stands c.loop-place.machine) (m.alts c.loop-place.machine) n run.value c.met-met.result c.loop-place.into c.resume.new.into) place c.resume.ensures.loud)
          value_is (g.L.Configured.setup c.args.machine.now) asked i.setup i.alts last on both.0 both.1 from);
    }

pub returns-then-is_full-clause-treads : goal.returns-then-is_full-clause-treads
returns-then-is_full-clause-treads g c =
    let m = g.L.LogicMachine in
    let i = c.loop-place.invariant in
    let runs = c.args.runs.now in
    let at = c.loop-place.place in
    let run = c.index-runs-place.result in
    let walk = c.loop-place.walk in
    let within : at < length runs = omega (arith, c.loop-place-test.true) in
    let asked = m.alts c.args.machine.now in
    let so_far = samples_of (take at runs) in
    let next = c.stop-else-met-eq0.new.self in
    record {
      more = so_far ++ samples run;
      whole = λ _. samples_more runs at run within c.index-runs-place.is;
      front = λ yes. absurd (false≢true yes);
      treads = λ says list waits st.
          let all = list ++ so_far in
          let on = i.treads says list waits st in
          let set = subst (λ (v : ℕ). MetSet asked (Some v) run.value (walk_from walk) (walked walk) c.met-met.result) c.last.ensures (c.met-met.ensures asked (walk_from walk) (walked walk) says.says) in
          let both = c.stop-else-met-eq0.ensures.waits asked all c.met-met.result on.waits i.some c.if-met-eq0.false set (says.stands run.value) in
          let place : c.consumed-at.result ≡ length all = c.consumed-at.ensures ∙ sym on.waits.count in
          let from : walk_from next ≡ length all + 1 = c.stop-else-met-eq0.ensures.from ∙ ap (λ (n : ℕ). n + 1) (sym on.waits.count) in
          subst (λ (l : List ℕ). OnWalk (m.outs (g.L.Configured.setup c.args.machine.now)) m.stands asked c.resume.new.self next list l c.resume.new.into) (append_assoc list so_far (samples run))
          (tread_stop g.L.Configured.setup m.outs m.stands m.alts g.met.L.LogicMachine.quiet c.loop-place.machine walk next list all (samples run) c.loop-place.into c.resume.new.self (length all) run.value c.met-met.result c.resume.new.into
          (subst (λ (n : ℕ). StandsThere (m.stands c.loop-place.machine) (m.stands c.resume.new.self) (m.alts c.loop-place.machine) n run.value c.met-met.result) place c.resume.ensures.stands)
          (subst (λ (n : ℕ). IsLoud (m.outs (g.L.Configured.setup c.loop-place.machine)) (m.stands c.loop-place.machine) (m.alts c.loop-place.machine) n run.value c.met-met.result c.loop-place.into c.resume.new.into) place c.resume.ensures.loud)
          (first_value all run run.not_empty) (g.L.Configured.setup c.args.machine.now) asked i.setup i.alts c.resume.ensures.setup (c.resume.ensures.waits c.if-resume.false) on both.0 both.1 from);
    }

pub loop-place-preserved : goal.loop-place-preserved
loop-place-preserved g c =
    let m = g.L.LogicMachine in
    let i = c.loop-place.invariant in
    let runs = c.args.runs.now in
    let at = c.loop-place.place in
    let run = c.index-runs-place.result in
    let walk = c.loop-place.walk in
    let within : at < length runs = omega (arith, c.loop-place-test.true) in
    let asked = m.alts c.args.machine.now in
    let so_far = samples_of (take at runs) in
    let longer = λ (list : List ℕ). append_assoc list so_far (samples run) ∙ ap (λ (l : List ℕ). list ++ l) (sym (samples_more runs at run within c.index-runs-place.is)) in
    let Goes = λ (list : List ℕ) (machine : g.row.L.Denot) (next : Walk) (all : List ℕ). OnWalk (m.outs (g.L.Configured.setup c.args.machine.now)) m.stands asked machine next list all c.if-met-eq0.into in
    elim c.if-met-eq0.branch [
      | then-met-eq0 w ↦ record {
        setup = ap g.L.Configured.setup w.machine-is ∙ i.setup;
        alts = ap m.alts w.machine-is ∙ i.alts;
        nothing = λ none. absurd (omega (arith, none));
        room = omega (arith, i.room, ap (λ (l : List Out). length l) w.into-is);
        some = λ none. i.some (omega (arith, none, ap walked w.walk-is, w.pass.ensures.walked));
        treads = λ says list waits st.
            let all = list ++ so_far in
            let on = i.treads says list waits st in
            let set = subst (λ (n : ℕ). MetSet asked (Some walk.last) run.value (walk_from walk) (walked walk) n) w.if-met-eq0.true
            (subst (λ (v : ℕ). MetSet asked (Some v) run.value (walk_from walk) (walked walk) c.met-met.result) c.last.ensures (c.met-met.ensures asked (walk_from walk) (walked walk) says.says)) in
            let both = w.pass.ensures.waits asked all on.waits i.some set (says.stands run.value) in
            subst (λ (machine : g.row.L.Denot). Goes list machine c.if-met-eq0.walk (list ++ samples_of (take (at + 1) runs))) (sym w.machine-is)
            (subst (λ (next : Walk). Goes list c.loop-place.machine next (list ++ samples_of (take (at + 1) runs))) (sym w.walk-is)
            (subst (λ (l : List ℕ). Goes list c.loop-place.machine w.pass.new.self l) (longer list)
            (subst (λ (given : List Out). OnWalk (m.outs (g.L.Configured.setup c.args.machine.now)) m.stands asked c.loop-place.machine w.pass.new.self list (all ++ samples run) given) (sym w.into-is)
            (tread_pass g.L.Configured.setup m.outs m.stands m.alts g.met.L.LogicMachine.quiet c.loop-place.machine walk w.pass.new.self list all (samples run) c.loop-place.into (g.L.Configured.setup c.args.machine.now) asked i.setup i.alts on both.1 w.pass.ensures.from))));
      }
      | else-met-eq0+else-resume+else-is_full w ↦
          let next = w.stop-else-met-eq0.new.self in
          record {
            setup = ap g.L.Configured.setup w.machine-is ∙ w.resume.ensures.setup ∙ i.setup;
            alts = ap m.alts w.machine-is ∙ w.resume.ensures.waits w.if-resume.false ∙ i.alts;
            nothing = λ none. absurd (omega (arith, none));
            room = omega (arith, w.is_full.ensures.room w.if-is_full.false, ap (λ (l : List Out). length l) w.into-is);
            some = λ zero. i.some (omega (arith, zero, ap walked w.walk-is, w.stop-else-met-eq0.ensures.walked));
            treads = λ says list waits st.
                let all = list ++ so_far in
                let on = i.treads says list waits st in
                let set = subst (λ (v : ℕ). MetSet asked (Some v) run.value (walk_from walk) (walked walk) c.met-met.result) c.last.ensures (c.met-met.ensures asked (walk_from walk) (walked walk) says.says) in
                let both = w.stop-else-met-eq0.ensures.waits asked all c.met-met.result on.waits i.some w.if-met-eq0.false set (says.stands run.value) in
                let place : w.consumed-at.result ≡ length all = w.consumed-at.ensures ∙ sym on.waits.count in
                let from : walk_from next ≡ length all + 1 = w.stop-else-met-eq0.ensures.from ∙ ap (λ (n : ℕ). n + 1) (sym on.waits.count) in
                subst (λ (machine : g.row.L.Denot). Goes list machine c.if-met-eq0.walk (list ++ samples_of (take (at + 1) runs))) (sym w.machine-is)
                (subst (λ (n : Walk). Goes list w.resume.new.self n (list ++ samples_of (take (at + 1) runs))) (sym w.walk-is)
                (subst (λ (l : List ℕ). Goes list w.resume.new.self next l) (longer list)
                (subst (λ (given : List Out). OnWalk (m.outs (g.L.Configured.setup c.args.machine.now)) m.stands asked w.resume.new.self next list (all ++ samples run) given) (sym w.into-is)
                (tread_stop g.L.Configured.setup m.outs m.stands m.alts g.met.L.LogicMachine.quiet c.loop-place.machine walk next list all (samples run) c.loop-place.into w.resume.new.self (length all) run.value c.met-met.result w.resume.new.into
                (subst (λ (n : ℕ). StandsThere (m.stands c.loop-place.machine) (m.stands w.resume.new.self) (m.alts c.loop-place.machine) n run.value c.met-met.result) place w.resume.ensures.stands)
                (subst (λ (n : ℕ). IsLoud (m.outs (g.L.Configured.setup c.loop-place.machine)) (m.stands c.loop-place.machine) (m.alts c.loop-place.machine) n run.value c.met-met.result c.loop-place.into w.resume.new.into) place w.resume.ensures.loud)
                (first_value all run run.not_empty) (g.L.Configured.setup c.args.machine.now) asked i.setup i.alts w.resume.ensures.setup (w.resume.ensures.waits w.if-resume.false) on both.0 both.1 from))));
          }
    ]
