use Rattle.std.proofs.Common.{◌∙◌, ◌++◌, ap, sym, refl, Some, None, false}
use Rattle.capture_csv.specs.declared.reader.CsvReader.{CsvReader}
use Rattle.std.proofs.lemmas.List.{append-nil}
use Rattle.la_io.specs.Capture.{AtEnd}
use Rattle.byte_feed.specs.Feeding.{told_of}
use Rattle.capture_csv.proofs.Answering.{end_is, few_of, line_step, no_read, some_samples, stop_says, told_on}
use Rattle.capture_csv.proofs.reader.CsvReader.step.Goals as goal

pub returns-in-Ok-Some-clause-cause : goal.returns-in-Ok-Some-clause-cause
returns-in-Ok-Some-clause-cause g c = no_read _ _ c.line.result c.line.ensures.read c.in-Ok-Some.ensures.cause

pub returns-in-Ok-Some-clause-steps : goal.returns-in-Ok-Some-clause-steps
returns-in-Ok-Some-clause-steps g c =
    let next = rw c.in-Ok-Some.field-0-is at c.in-Ok-Some.ensures.next in
    record {
      bytes = next.bytes;
      consumed = next.consumed;
      answers = λ before early given at going.
          let says = next.answers before early going.items going.fresh at going.lines in
          let ended = told_on c.args.self.now.lines next.bytes before early going.items going.lines in
          record {
            told = says.0;
            none = λ e. next.none (ended e);
            still = λ e. says.2.told_is ∙ ap told_of (next.stays (ended e));
            at_end = says.1;
            says = line_step c.line.new.self (before ++ next.bytes) says.0 given c.line.result (c.line.ensures.phase ∙ c.requires.going)
                (c.line.ensures.says (before ++ next.bytes) says.0 given going.items going.first going.rest going.records going.head says.2 (few_of _ _ c.in-Ok-Some.number c.in-Ok-Some.field-0-is c.in-Ok-Some.ensures.few) c.in-Ok-Some.ensures.spends going.body);
          };
    }

pub returns-in-Some-clause-steps : goal.returns-in-Some-clause-steps
returns-in-Some-clause-steps g c =
    let next = rw c.in-Ok-None.field-0-is at c.in-Ok-None.ensures.next in
    let s = c.args.self.now in
    record {
      bytes = next.bytes;
      consumed = next.consumed;
      answers = λ before early given at going.
          let says = next.answers before early going.items going.fresh at going.lines in
          record {
            told = AtEnd;
            none = λ e. next.none (told_on s.lines next.bytes before early going.items going.lines e);
            still = λ e. refl;
            at_end = λ e. says.0;
            says = record {
              told_end = refl;
              ends = end_is s (before ++ next.bytes) given going.items going.first going.rest going.records going.head says.2 going.body c.requires.held (Some c.in-Some.run') c.in-Some.ensures.says;
              some = some_samples given c.in-Some.run';
            };
          };
    }

pub returns-in-None-clause-steps : goal.returns-in-None-clause-steps
returns-in-None-clause-steps g c =
    let next = rw c.in-Ok-None.field-0-is at c.in-Ok-None.ensures.next in
    let s = c.args.self.now in
    record {
      bytes = next.bytes;
      consumed = next.consumed;
      answers = λ before early given at going.
          let says = next.answers before early going.items going.fresh at going.lines in
          let ends = end_is s (before ++ next.bytes) given going.items going.first going.rest going.records going.head says.2 going.body c.requires.held None c.in-None.ensures.says in
          record {
            told = AtEnd;
            none = λ e. next.none (told_on s.lines next.bytes before early going.items going.lines e);
            still = λ e. refl;
            at_end = λ e. says.0;
            says = (refl, record { settled = ends.settled ∙ append-nil given; ending = ends.ending });
          };
    }

pub returns-in-Err-clause-steps : goal.returns-in-Err-clause-steps
returns-in-Err-clause-steps g c =
    let next = c.in-Err.ensures.next in
    let s = c.args.self.now in
    record {
      bytes = next.bytes;
      consumed = next.consumed;
      answers = λ before early given at going.
          let ended = told_on s.lines next.bytes before early going.items going.lines in
          let new : CsvReader = record { lines = c.next.new.self; body = s.body; names = s.names; header = s.header; phase = s.phase; is_open = false; is_row = false; row = λ e. cc; fresh = λ e. cc; counted = λ held. absurd (let bad = sym c.requires.held ∙ held in cc) } in
          stop_says new c.next.new.self _ early next.bytes before given going.items going.first going.rest c.in-Err.fault _ c.error_of.ensures.is going.records going.head going.body c.requires.held (λ e. next.none (ended e)) (λ e. next.stays (ended e))
          (next.answers before early going.items going.fresh at going.lines);
    }
