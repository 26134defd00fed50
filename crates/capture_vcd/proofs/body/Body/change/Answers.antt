use Rattle.std.proofs.Common.{◌<◌, ◌∙◌, ap, subst, arith, sym, List, ◌++◌, length, map}
use Rattle.la_io.specs.Reading.{run_samples}
use Rattle.capture_vcd.specs.Slots.{changed, channel_of, level_of}
use Rattle.capture_vcd.specs.declared.slots.Slot.{Slot}
use Rattle.capture_vcd.specs.Body.{Channel}
use Rattle.capture_vcd.specs.Following.{word_bits}
use Rattle.capture_vcd.specs.Linked.{Linked}
use Rattle.capture_vcd.proofs.Levels.{channels_keep, refilled}
use Rattle.capture_vcd.proofs.Running.{parts_changed, parts_left}
use Rattle.capture_vcd.proofs.Waiting.{flush_form, parts_given, parts_no_run, settles}
use Rattle.capture_vcd.proofs.body.Body.change.Goals as goal

pub returns-then-not-may_change-clause-gives : goal.returns-then-not-may_change-clause-gives
returns-then-not-may_change-clause-gives c = λ token is items given st.
    let s = c.args.self.now in
    parts_no_run _ _ _ _ _ _ _ given _ _
    (parts_left s.down (omega (arith, s.down_fits.0)) s.codes.items _ _ items _ token s.slots.items s.pending c.args.code.now c.args.first c.requires is st (c.may_change.ensures c.if-not-may_change.true))

pub returns-clause-gives : goal.returns-clause-gives
returns-clause-gives c = λ token is items given st.
    let s = c.args.self.now in
    let mid = c.flush-run.new.self in
    let some : 0 < mid.down = omega (arith, mid.down_fits.0) in
    let flush = c.flush-run.ensures in
    let new_is = refilled _ mid.slots.items c.change.new.slots (omega (arith, c.change.auto.slots, ap length c.deref_mut.ensures.value)) ∙ c.change.ensures.slots ∙ (λ i. map (changed (c.deref.ensures.value i) c.args.first c.args.code.now) (c.deref_mut.ensures.value i)) in
    parts_given _ _ _ _ _ _ _ (given ++ run_samples c.flush-run.result) _ _ flush.none
    (parts_changed mid.down some mid.codes.items _ _ items _ token mid.slots.items mid.pending c.args.code.now c.args.first (flush.pending ∙ c.requires) is (settles s mid c.flush-run.result items given flush st) _ new_is)

pub returns-clause-form : goal.returns-clause-form
returns-clause-form c =
    let form = flush_form c.args.self.now c.flush-run.new.self c.flush-run.result c.flush-run.ensures in
    let mid = c.flush-run.new.self in
    let flush = c.flush-run.ensures in
    let new_is = refilled _ mid.slots.items c.change.new.slots (omega (arith, c.change.auto.slots, ap length c.deref_mut.ensures.value)) ∙ c.change.ensures.slots ∙ (λ i. map (changed (c.deref.ensures.value i) c.args.first c.args.code.now) (c.deref_mut.ensures.value i)) in
    record {
      down = form.down;
      codes = form.codes;
      channels = ap (λ (l : List Slot). map (channel_of mid.codes.items) l) new_is ∙ channels_keep mid.codes.items c.args.first c.args.code.now mid.slots.items ∙ form.channels;
    }

pub invariant_of-self : goal.invariant_of-self
invariant_of-self c =
    let mid = c.flush-run.new.self in
    let new_is = refilled _ mid.slots.items c.change.new.slots (omega (arith, c.change.auto.slots, ap length c.deref_mut.ensures.value)) ∙ c.change.ensures.slots ∙ (λ i. map (changed (c.deref.ensures.value i) c.args.first c.args.code.now) (c.deref_mut.ensures.value i)) in
    let now_is = refilled _ mid.slots.items c.change.new.slots (omega (arith, c.change.auto.slots, ap length c.deref_mut.ensures.value)) in
    record {
      down_fits = mid.down_fits;
      linked = subst (λ (channels : List Channel). Linked mid.chains channels) (sym (ap (λ (l : List Slot). map (channel_of mid.codes.items) l) new_is ∙ channels_keep mid.codes.items c.args.first c.args.code.now mid.slots.items)) mid.linked;
      word_is = c.change.ensures.is ∙ sym (ap (λ (l : List Slot). word_bits (map level_of l)) now_is);
    }
