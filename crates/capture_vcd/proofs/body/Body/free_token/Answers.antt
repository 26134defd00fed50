use Rattle.std.proofs.Common.{◌<◌, ◌∙◌, ap, arith, refl, ◌^◌, List, [], ◌∷◌, ◌++◌, length, map, nat_le, sym, subst}
use Rattle.std.proofs.lemmas.Bool.{cond-true, le-leb}
use Rattle.text_parts.specs.Places.{Placed}
use Rattle.la_io.specs.declared.fault.CaptureFault.TheVariants as fault
use Rattle.capture_vcd.specs.Body.{Time, Wrong}
use Rattle.capture_vcd.specs.Within as within
use Rattle.capture_vcd.specs.Slots.{channel_of, level_of, valued}
use Rattle.capture_vcd.specs.declared.slots.Slot.{Slot}
use Rattle.capture_vcd.specs.declared.body.Pending.TheVariants.{Skip, Comment}
use Rattle.capture_vcd.specs.Body.{Channel}
use Rattle.capture_vcd.specs.Following.{word_bits}
use Rattle.capture_vcd.specs.Linked.{Linked}
use Rattle.capture_vcd.specs.Running.{held_in}
use Rattle.capture_vcd.proofs.Levels.{channels_valued, levels_keep, refilled}
use Rattle.capture_vcd.proofs.Running.{parts_fault, parts_on, parts_open, parts_pass}
use Rattle.capture_vcd.proofs.Waiting.{answers_run, parts_levels}
use Rattle.capture_vcd.proofs.body.Body.free_token.Goals as goal

pub returns-in-Large-clause-gives : goal.returns-in-Large-clause-gives
returns-in-Large-clause-gives c = λ items given st.
    let s = c.args.self.now in
    let large = c.in-Large.ensures in
    parts_fault s.down (omega (arith, s.down_fits.0)) _ s.slots.items _ _ _ items _ (c.args.at, c.args.first ∷ c.args.rest.now) (Time c.args.at large.0) within.Free (fault.TimeLarge c.args.at) c.requires (large.2 c.args.at)
    (λ events. cond-true (nat_le (2 ^ 60) large.0) _ _ (le-leb (2 ^ 60) large.0 large.1)) st

pub returns-in-Wrong-clause-gives : goal.returns-in-Wrong-clause-gives
returns-in-Wrong-clause-gives c = λ items given st.
    let s = c.args.self.now in
    parts_fault s.down (omega (arith, s.down_fits.0)) _ s.slots.items _ _ _ items _ (c.args.at, c.args.first ∷ c.args.rest.now) (Wrong c.args.at) within.Free (fault.Token c.args.at) c.requires (c.in-Wrong.ensures c.args.at) (λ events. refl) st

pub returns-in-Skip-clause-gives : goal.returns-in-Skip-clause-gives
returns-in-Skip-clause-gives c = λ items given st.
    let s = c.args.self.now in
    parts_on s.down (omega (arith, s.down_fits.0)) s.codes.items _ _ items _ (c.args.at, c.args.first ∷ c.args.rest.now) s.slots.items _ (Skip c.args.at) (within.Skip c.args.at) c.requires (c.in-Skip.ensures c.args.at) refl st

pub returns-in-Comment-clause-gives : goal.returns-in-Comment-clause-gives
returns-in-Comment-clause-gives c = λ items given st.
    let s = c.args.self.now in
    parts_on s.down (omega (arith, s.down_fits.0)) s.codes.items _ _ items _ (c.args.at, c.args.first ∷ c.args.rest.now) s.slots.items _ Comment within.Comment c.requires (c.in-Comment.ensures c.args.at) refl st

pub returns-in-Passed-clause-gives : goal.returns-in-Passed-clause-gives
returns-in-Passed-clause-gives c = λ items given st.
    let s = c.args.self.now in
    parts_pass s.down (omega (arith, s.down_fits.0)) s.codes.items _ _ items _ (c.args.at, c.args.first ∷ c.args.rest.now) s.slots.items _ c.requires (c.in-Passed.ensures c.args.at) st

pub returns-in-Vector-clause-gives : goal.returns-in-Vector-clause-gives
returns-in-Vector-clause-gives c = λ items given st.
    let s = c.args.self.now in
    let some : 0 < s.down = omega (arith, s.down_fits.0) in
    let value = c.deref_mut.ensures.value in
    let new_is = refilled _ s.slots.items c.set_values.new.slots (omega (arith, c.set_values.auto.slots, ap length value)) ∙ c.set_values.ensures ∙ ap (λ (l : List Slot). map (valued c.args.rest.now) l) value in
    let levels = ap (λ (l : List Slot). map level_of l) new_is ∙ levels_keep c.args.rest.now s.slots.items in
    parts_levels _ _ _ _ _ _ _ given (held_in s) (map level_of s.slots.items) levels
    (parts_open s.down some s.codes.items _ _ items _ (c.args.at, c.args.first ∷ c.args.rest.now) s.slots.items _ _ c.args.at c.args.rest.now new_is c.requires (c.in-Vector.ensures c.args.at) st)

pub returns-in-Vector-clause-form : goal.returns-in-Vector-clause-form
returns-in-Vector-clause-form c =
    let s = c.args.self.now in
    let value = c.deref_mut.ensures.value in
    let new_is = refilled _ s.slots.items c.set_values.new.slots (omega (arith, c.set_values.auto.slots, ap length value)) ∙ c.set_values.ensures ∙ ap (λ (l : List Slot). map (valued c.args.rest.now) l) value in
    record { down = refl; codes = refl; channels = ap (λ (l : List Slot). map (channel_of s.codes.items) l) new_is ∙ channels_valued s.codes.items c.args.rest.now s.slots.items }

pub returns-in-Scalar-clause-gives : goal.returns-in-Scalar-clause-gives
returns-in-Scalar-clause-gives c = λ items given st.
    let token : Placed = (c.args.at, c.args.first ∷ c.args.rest.now) in
    answers_run c.change.new.self (items ++ token ∷ []) given c.change.result (c.change.ensures.gives token (c.in-Scalar.ensures c.args.at) items given st)

pub returns-in-Ok-clause-gives : goal.returns-in-Ok-clause-gives
returns-in-Ok-clause-gives c = λ items given st.
    c.in-Ok.ensures.reaches items given (c.args.at, c.args.first ∷ c.args.rest.now) c.requires (c.in-Time.ensures.1 c.args.at) st

pub returns-in-Err-clause-gives : goal.returns-in-Err-clause-gives
returns-in-Err-clause-gives c = λ items given st.
    c.in-Err.ensures.reaches items given (c.args.at, c.args.first ∷ c.args.rest.now) c.requires (c.in-Time.ensures.1 c.args.at) st

pub invariant_of-self : goal.invariant_of-self
invariant_of-self c =
    let s = c.args.self.now in
    let value = c.deref_mut.ensures.value in
    let new_is = refilled _ s.slots.items c.set_values.new.slots (omega (arith, c.set_values.auto.slots, ap length value)) ∙ c.set_values.ensures ∙ ap (λ (l : List Slot). map (valued c.args.rest.now) l) value in
    record {
      down_fits = s.down_fits;
      linked = subst (λ (channels : List Channel). Linked s.chains channels) (sym (ap (λ (l : List Slot). map (channel_of s.codes.items) l) new_is ∙ channels_valued s.codes.items c.args.rest.now s.slots.items)) s.linked;
      word_is = s.word_is ∙ sym (ap (λ (l : List Slot). word_bits (map level_of l)) new_is ∙ ap word_bits (levels_keep c.args.rest.now s.slots.items));
    }
