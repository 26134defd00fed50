use Rattle.std.proofs.Common.{◌∙◌, ◌++◌, subst, sym, ap, List, ℕ, append_assoc, Ok, Err, Some, None}
use Rattle.std.proofs.KnownBytes.{Consumes-trans}
use Rattle.capture_csv.specs.Opening.{Blank, FirstSays}
use Rattle.capture_csv.specs.Records.{is_passed, without_marks}
use Rattle.capture_csv.proofs.Answering.{few_of}
use Rattle.capture_csv.proofs.Beginning.{blank_next, first_next, first_stops}
use Rattle.capture_csv.proofs.opening.first_line.Goals as goal

pub head-preserved : goal.head-preserved
head-preserved g c =
    let inv = c.head.invariant.took in
    let next = rw c.in-Ok-Some.field-0-is at c.in-Ok-Some.ensures.next in
    let text = c.without_marks.ensures ∙ ap without_marks c.text.ensures.text in
    record {
      fresh = c.in-Ok-Some.ensures.spends;
      faults = c.in-Ok-Some.ensures.cause ∙ c.head.invariant.faults;
      took = (
        inv.0 ++ next.bytes,
        Consumes-trans _ _ _ _ _ inv.1 next.consumed,
        λ before st.
            let blank = inv.2 before st in
            subst (λ (b : List ℕ). Blank c.next.new.self (g.S.Source.left c.next.new.source) b) (append_assoc before inv.0 next.bytes)
            (blank_next c.next.new.self _ ((before ++ inv.0) ++ next.bytes) blank.items c.in-Ok-Some.number blank.none (sym (c.is_passed.ensures ∙ ap is_passed text) ∙ c.if-not-is_passed.false)
            (next.answers (before ++ inv.0) blank.told blank.items c.head.invariant.fresh blank.at_end blank.stands)),
      );
    }

pub returns-then-not-is_passed-clause-reads : goal.returns-then-not-is_passed-clause-reads
returns-then-not-is_passed-clause-reads g c =
    let inv = c.head.invariant.took in
    let next = rw c.in-Ok-Some.field-0-is at c.in-Ok-Some.ensures.next in
    let text = c.without_marks.ensures ∙ ap without_marks c.text.ensures.text in
    record {
      bytes = inv.0 ++ next.bytes;
      consumed = Consumes-trans _ _ _ _ _ inv.1 next.consumed;
      says = λ before st.
          let blank = inv.2 before st in
          subst (λ (b : List ℕ). FirstSays c.next.new.self (g.S.Source.left c.next.new.source) b (Ok (Some c.in-Ok-Some.number))) (append_assoc before inv.0 next.bytes)
          (first_next c.next.new.self _ ((before ++ inv.0) ++ next.bytes) blank.items c.in-Ok-Some.number blank.none (sym (c.is_passed.ensures ∙ ap is_passed text) ∙ c.if-not-is_passed.true)
          (few_of _ _ c.in-Ok-Some.number c.in-Ok-Some.field-0-is c.in-Ok-Some.ensures.few)
          (next.answers (before ++ inv.0) blank.told blank.items c.head.invariant.fresh blank.at_end blank.stands));
    }

pub returns-in-Ok-None-clause-reads : goal.returns-in-Ok-None-clause-reads
returns-in-Ok-None-clause-reads g c =
    let inv = c.head.invariant.took in
    let next = rw c.in-Ok-None.field-0-is at c.in-Ok-None.ensures.next in
    record {
      bytes = inv.0 ++ next.bytes;
      consumed = Consumes-trans _ _ _ _ _ inv.1 next.consumed;
      says = λ before st.
          let blank = inv.2 before st in
          let says = next.answers (before ++ inv.0) blank.told blank.items c.head.invariant.fresh blank.at_end blank.stands in
          subst (λ (b : List ℕ). FirstSays c.next.new.self (g.S.Source.left c.next.new.source) b (Ok None)) (append_assoc before inv.0 next.bytes) (blank.items, says.0, says.2, blank.none);
    }

pub returns-in-Err-clause-reads : goal.returns-in-Err-clause-reads
returns-in-Err-clause-reads g c =
    let inv = c.head.invariant.took in
    let next = c.in-Err.ensures.next in
    record {
      bytes = inv.0 ++ next.bytes;
      consumed = Consumes-trans _ _ _ _ _ inv.1 next.consumed;
      says = λ before st.
          let blank = inv.2 before st in
          subst (λ (b : List ℕ). FirstSays c.next.new.self (g.S.Source.left c.next.new.source) b (Err c.error_of.result)) (append_assoc before inv.0 next.bytes)
          (first_stops c.next.new.self _ ((before ++ inv.0) ++ next.bytes) blank.items c.in-Err.fault c.error_of.result c.error_of.ensures.is blank.none (next.answers (before ++ inv.0) blank.told blank.items c.head.invariant.fresh blank.at_end blank.stands));
    }
