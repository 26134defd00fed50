use Rattle.std.proofs.Common.{◌++◌, ◌<◌, ◌-◌, ◌==◌, subst, arith, ℕ, length}
use Rattle.la_base.specs.Samples.{samples}
use Rattle.capture_raw.specs.Raw.{unit_len}
use Rattle.capture_raw.specs.Reader.{raw_unit}
use Rattle.capture_raw.proofs.Captures.{unit_some}
use Rattle.la_base.proofs.RunLemmas.{samples_len}
use Rattle.capture_raw.proofs.Standing.{stands_more, stands_same, stands_run, more_given, taken_given, ends_full, ends_open, ended, ended_told}
use Rattle.capture_raw.proofs.reader.RawReader.next.Goals as goal

-- a run
pub returns-in-Unit-clause-next : goal.returns-in-Unit-clause-next
returns-in-Unit-clause-next g c =
    let s = c.args.self.now in
    let front = c.fill.new.held in
    let new = c.run.new.self in
    let fills = c.in-Unit.ensures.fills in
    let some = unit_some s.channels s.channels_fit.0 in
    let go = c.run.ensures in
    record {
      bytes = fills.bytes;
      consumed = fills.takes.consumed;
      told = tt;
      means = λ before given st.
          let after = stands_more (unit_len s.channels) some s.pins.items s.held front _ _ fills.bytes before given fills.takes st in
          stands_same s.channels new.channels s.pins.items new.pins.items new.held (before ++ fills.bytes) (given ++ samples c.run.result) go.form.channels go.form.pins
          (stands_run (unit_len s.channels) some s.pins.items front new.held (before ++ fills.bytes) given (samples c.run.result) go.gives after);
    }

pub returns-in-Unit-clause-progress : goal.returns-in-Unit-clause-progress
returns-in-Unit-clause-progress g c =
    let s = c.args.self.now in
    let front = c.fill.new.held in
    let ensures = c.in-Unit.ensures in
    omega (arith, samples_len c.run.result, taken_given s.held front _ _ ensures.fills.bytes ensures.fills.takes, more_given (raw_unit s) s.pins.items front c.run.new.self.held (samples c.run.result) (unit_some s.channels s.channels_fit.0) ensures.held c.run.ensures.gives)

pub returns-in-Unit-clause-few : goal.returns-in-Unit-clause-few
returns-in-Unit-clause-few g c = omega (arith, c.in-Unit.ensures.few, c.run.ensures.gives.taken)

-- the source told its end
pub returns-in-End-clause-next : goal.returns-in-End-clause-next
returns-in-End-clause-next g c =
    let s = c.args.self.now in
    let front = c.fill.new.held in
    let fills = c.in-End.ensures.fills in
    let some = unit_some s.channels s.channels_fit.0 in
    let short : length front.bytes < unit_len s.channels = subst (λ (n : ℕ). length front.bytes < n) c.unit-unit.ensures.unit fills.filled.0 in
    let told = ended_told (g.S.Source.left c.fill.new.source) (front.taken - length front.bytes) (length front.bytes == 0) c.at_end.result fills.filled.2 c.at_end.ensures in
    record {
      bytes = fills.bytes;
      consumed = fills.takes.consumed;
      told = told.0;
      means = λ before given st.
          let after = stands_more (unit_len s.channels) some s.pins.items s.held front _ _ fills.bytes before given fills.takes st in
          ended s.channels some s.rate s.pins.items front (before ++ fills.bytes) given short (omega arith) after fills.filled.1 c.at_end.result c.at_end.ensures;
    }

-- 2^60 bytes were taken
pub returns-in-Full-clause-next : goal.returns-in-Full-clause-next
returns-in-Full-clause-next g c =
    let s = c.args.self.now in
    let front = c.fill.new.held in
    let fills = c.in-Full.ensures.fills in
    let some = unit_some s.channels s.channels_fit.0 in
    let short : length front.bytes < unit_len s.channels = subst (λ (n : ℕ). length front.bytes < n) c.unit-unit.ensures.unit fills.filled.0 in
    record {
      bytes = fills.bytes;
      consumed = fills.takes.consumed;
      told = tt;
      means = λ before given st.
          let after = stands_more (unit_len s.channels) some s.pins.items s.held front _ _ fills.bytes before given fills.takes st in
          ends_full s.channels some s.rate s.pins.items front (before ++ fills.bytes) given short c.in-Full.ensures.few after fills.filled.1;
    }

pub returns-in-Full-clause-few : goal.returns-in-Full-clause-few
returns-in-Full-clause-few g c = omega (arith, c.in-Full.ensures.few)

-- the source failed
pub returns-in-Failed-clause-next : goal.returns-in-Failed-clause-next
returns-in-Failed-clause-next g c =
    let s = c.args.self.now in
    let front = c.fill.new.held in
    let fills = c.in-Failed.ensures.fills in
    let some = unit_some s.channels s.channels_fit.0 in
    let short : length front.bytes < unit_len s.channels = subst (λ (n : ℕ). length front.bytes < n) c.unit-unit.ensures.unit fills.filled.0 in
    record {
      bytes = fills.bytes;
      consumed = fills.takes.consumed;
      told = tt;
      means = λ before given st.
          let after = stands_more (unit_len s.channels) some s.pins.items s.held front _ _ fills.bytes before given fills.takes st in
          ends_open s.channels some s.rate s.pins.items front (before ++ fills.bytes) given short (omega arith) after fills.filled.1;
    }
