use Rattle.std.proofs.Common.{◌<◌, ◌∙◌, ap, subst, arith, sym, List, ◌++◌, length, map}
use Rattle.la_io.specs.Reading.{run_samples}
use Rattle.capture_vcd.specs.Slots.{assigned, channel_of, level_of}
use Rattle.capture_vcd.specs.declared.slots.Slot.{Slot}
use Rattle.capture_vcd.specs.Body.{Channel}
use Rattle.capture_vcd.specs.Following.{word_bits}
use Rattle.capture_vcd.specs.Linked.{Linked}
use Rattle.capture_vcd.proofs.Levels.{channels_assigned, refilled}
use Rattle.capture_vcd.proofs.Running.{parts_code, parts_passed}
use Rattle.capture_vcd.proofs.Waiting.{flush_form, parts_given, parts_no_run, settles}
use Rattle.capture_vcd.proofs.body.Body.take_value.Goals as goal

pub returns-then-not-may_change-clause-gives : goal.returns-then-not-may_change-clause-gives
returns-then-not-may_change-clause-gives c = λ at items given st.
    let s = c.args.self.now in
    let waits = c.requires in
    parts_no_run _ _ _ _ _ _ _ given _ _
    (parts_passed s.down (omega (arith, s.down_fits.0)) s.codes.items _ _ items _ (at, c.args.code.now) s.slots.items s.pending waits.0 waits.1 (c.may_change.ensures c.if-not-may_change.true) st)

pub returns-clause-gives : goal.returns-clause-gives
returns-clause-gives c = λ at items given st.
    let s = c.args.self.now in
    let waits = c.requires in
    let mid = c.flush-run.new.self in
    let some : 0 < mid.down = omega (arith, mid.down_fits.0) in
    let flush = c.flush-run.ensures in
    let new_is = refilled _ mid.slots.items c.assign.new.slots (omega (arith, c.assign.auto.slots, ap length c.deref_mut.ensures.value)) ∙ c.assign.ensures.slots ∙ (λ i. map (assigned (c.deref.ensures.value i) c.args.code.now) (c.deref_mut.ensures.value i)) in
    parts_given _ _ _ _ _ _ _ (given ++ run_samples c.flush-run.result) _ _ flush.none
    (parts_code mid.down some mid.codes.items _ _ items _ (at, c.args.code.now) mid.slots.items _ mid.pending waits.0 (flush.pending ∙ waits.1) new_is (settles s mid c.flush-run.result items given flush st))

pub returns-clause-form : goal.returns-clause-form
returns-clause-form c =
    let form = flush_form c.args.self.now c.flush-run.new.self c.flush-run.result c.flush-run.ensures in
    let mid = c.flush-run.new.self in
    let flush = c.flush-run.ensures in
    let new_is = refilled _ mid.slots.items c.assign.new.slots (omega (arith, c.assign.auto.slots, ap length c.deref_mut.ensures.value)) ∙ c.assign.ensures.slots ∙ (λ i. map (assigned (c.deref.ensures.value i) c.args.code.now) (c.deref_mut.ensures.value i)) in
    record {
      down = form.down;
      codes = form.codes;
      channels = ap (λ (l : List Slot). map (channel_of mid.codes.items) l) new_is ∙ channels_assigned mid.codes.items c.args.code.now mid.slots.items ∙ form.channels;
    }

pub invariant_of-self-2 : goal.invariant_of-self-2
invariant_of-self-2 c =
    let mid = c.flush-run.new.self in
    let new_is = refilled _ mid.slots.items c.assign.new.slots (omega (arith, c.assign.auto.slots, ap length c.deref_mut.ensures.value)) ∙ c.assign.ensures.slots ∙ (λ i. map (assigned (c.deref.ensures.value i) c.args.code.now) (c.deref_mut.ensures.value i)) in
    let now_is = refilled _ mid.slots.items c.assign.new.slots (omega (arith, c.assign.auto.slots, ap length c.deref_mut.ensures.value)) in
    record {
      down_fits = mid.down_fits;
      linked = subst (λ (channels : List Channel). Linked mid.chains channels) (sym (ap (λ (l : List Slot). map (channel_of mid.codes.items) l) new_is ∙ channels_assigned mid.codes.items c.args.code.now mid.slots.items)) mid.linked;
      word_is = c.assign.ensures.is ∙ sym (ap (λ (l : List Slot). word_bits (map level_of l)) now_is);
    }
