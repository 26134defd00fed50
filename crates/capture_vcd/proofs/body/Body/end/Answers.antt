use Rattle.std.proofs.Common.{◌≡◌, ◌∙◌, ℕ, ◌-◌, ◌++◌, ap, arith, sym, subst, List, Option, replicate}
use Rattle.std.proofs.lemmas.List.{append-nil}
use Rattle.la_io.specs.Capture.{Clean}
use Rattle.capture_vcd.specs.Body.{samples_before, samples_to}
use Rattle.capture_vcd.specs.Running.{BodyEnds, channels_in, held_by, held_in, last_of, start_of, word_in}
use Rattle.capture_vcd.specs.declared.body.Span.{Span}
use Rattle.capture_vcd.proofs.Running.{parts_empty, parts_hang, samples_are}
use Rattle.capture_vcd.proofs.Waiting.{all_given, same_run, parts_all}
use Rattle.capture_vcd.proofs.body.Body.end.Goals as goal

pub returns-in-Some-clause-gives : goal.returns-in-Some-clause-gives
returns-in-Some-clause-gives c = λ items given st.
    let s = c.args.self.now in
    parts_hang s.down (omega (arith, s.down_fits.0)) _ _ _ _ _ items _ c.in-Some.at (sym c.hanging.ensures ∙ c.in-Some.is) st

pub returns-in-None-span-clause-gives : goal.returns-in-None-span-clause-gives
returns-in-None-span-clause-gives c = λ items given st.
    let s = c.args.self.now in
    parts_empty s.down (omega (arith, s.down_fits.0)) _ _ _ _ _ items given (sym c.hanging.ensures ∙ c.in-None.is) (all_given s items given (ap (λ (o : Option Span). held_by o s.down) c.in-None-span.is) st) (ap start_of c.in-None-span.is)

pub returns-then-len-eq0-clause-gives : goal.returns-then-len-eq0-clause-gives
returns-then-len-eq0-clause-gives c = λ items given st.
    let s = c.args.self.now in
    let span = c.in-Some-span.span in
    let none : samples_to (span.last - span.start) s.down - samples_before (span.given - span.start) s.down ≡ 0 = ap (λ (n : ℕ). samples_to (span.last - span.start) s.down - n) (sym c.samples_before.ensures) ∙ c.if-len-eq0.true in
    subst (λ (l : List ℕ). BodyEnds s.down (channels_in s) items l Clean) (ap (λ (n : ℕ). given ++ replicate n (word_in s)) none ∙ append-nil given)
    (parts_all s.down (omega (arith, s.down_fits.0)) _ s.slots.items _ _ _ items given (sym c.hanging.ensures ∙ c.in-None.is) span.start span.given span.last (held_in s) (ap start_of c.in-Some-span.is) (ap last_of c.in-Some-span.is) span.in_order
    (ap (λ (o : Option Span). held_by o s.down) c.in-Some-span.is) st)

pub returns-clause-gives : goal.returns-clause-gives
returns-clause-gives c = λ items given st.
    let s = c.args.self.now in
    let span = c.in-Some-span.span in
    let count = samples_to (span.last - span.start) s.down - samples_before (span.given - span.start) s.down in
    let value = s.word_is in
    let len = ap (λ (n : ℕ). samples_to (span.last - span.start) s.down - n) c.samples_before.ensures in
    subst (λ (l : List ℕ). BodyEnds s.down (channels_in s) items (given ++ l) Clean) (sym (samples_are _ ∙ same_run count (word_in s) _ _ len value))
    (parts_all s.down (omega (arith, s.down_fits.0)) _ s.slots.items _ _ _ items given (sym c.hanging.ensures ∙ c.in-None.is) span.start span.given span.last (held_in s) (ap start_of c.in-Some-span.is) (ap last_of c.in-Some-span.is) span.in_order
    (ap (λ (o : Option Span). held_by o s.down) c.in-Some-span.is) st)
