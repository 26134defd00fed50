use Rattle.std.proofs.Common.{◌∙◌, ◌-◌, ◌≤◌, ap, arith, refl, sym, Option}
use Rattle.la_io.specs.Capture.{Open}
use Rattle.capture_vcd.specs.Body.{samples_before}
use Rattle.capture_vcd.specs.Running.{given_by, held_by, last_of, start_of}
use Rattle.capture_vcd.specs.declared.body.Span.{Span}
use Rattle.capture_vcd.proofs.Longer.{count_grows}
use Rattle.capture_vcd.proofs.body.Body.flush.Goals as goal

pub returns-in-None : goal.returns-in-None
returns-in-None c =
    let s = c.args.self.now in
    let none = ap (λ (o : Option Span). held_by o s.down) c.in-None.is in
    record { gave = none; none = none; counts = refl; codes = refl; slots = refl; pending = refl; down = refl; start = refl; latest = refl }

pub returns-then-len-eq0 : goal.returns-then-len-eq0
returns-then-len-eq0 c =
    let s = c.args.self.now in
    let none = ap (λ (o : Option Span). held_by o s.down) c.in-Some.is ∙ (λ i. sym c.samples_before.ensures i - sym c.samples_before-2.ensures i) ∙ c.if-len-eq0.true in
    record { gave = none; none = none; counts = refl; codes = refl; slots = refl; pending = refl; down = refl; start = refl; latest = refl }

pub returns : goal.returns
returns c =
    let s = c.args.self.now in
    let span = c.in-Some.span in
    let low : samples_before (span.given - span.start) s.down ≤ samples_before (span.last - span.start) s.down = count_grows s.down (omega (arith, s.down_fits.0)) Open (span.given - span.start) (span.last - span.start) (omega (arith, span.in_order)) in
    let some : 1 ≤ c.samples_before.result - c.samples_before-2.result = omega (arith, c.if-len-eq0.false) in
    record {
      gave = ((λ i. c.samples_before.ensures i - c.samples_before-2.ensures i) ∙ sym (ap (λ (o : Option Span). held_by o s.down) c.in-Some.is), s.word_is, some);
      none = omega arith;
      counts = (omega (arith, low, c.samples_before.ensures, c.samples_before-2.ensures, ap (λ (o : Option Span). given_by o s.down) c.in-Some.is), some);
      codes = refl;
      slots = refl;
      pending = refl;
      down = refl;
      start = sym (ap start_of c.in-Some.is);
      latest = sym (ap last_of c.in-Some.is);
    }
