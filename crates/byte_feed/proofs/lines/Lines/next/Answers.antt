use Rattle.std.proofs.Common.{◌≡◌, ◌∙◌, ℕ, ◌+◌, min, List, drop, ap, sym, arith, refl, ◌++◌, length}
use Rattle.la_io.specs.Intake.{Front}
use Rattle.std.proofs.KnownBytes.{Consumes-trans}
use Rattle.byte_feed.proofs.Answering.{none_twice}
use Rattle.byte_feed.proofs.LineAnswering.{few_front, few_line, front_stops, left_falls, line_given, line_stops, none_left}
use Rattle.byte_feed.proofs.lines.Lines.next.Goals as goal

gone : (n : ℕ) (boxed old : Front) (new : List ℕ) → boxed ≡ old → new ≡ drop n boxed.bytes → new ≡ drop n old.bytes
gone n boxed old new is new_is = new_is ∙ ap (λ (f : Front). drop n f.bytes) is

pub invariant_of-self : goal.invariant_of-self
invariant_of-self g c =
    let passes = rw c.deref_mut-2.ensures.value at c.in-Err.ensures.passes in
    let old = c.args.self.now in
    let few = few_front old.intake.value c.advance.new.self c.pass_mark.new.intake old.over old.number passes.bytes old.few (gone old.over _ _ _ c.deref_mut.ensures.value c.advance.ensures.bytes) (c.advance.ensures.taken ∙ ap (λ (f : Front). f.taken) c.deref_mut.ensures.value) passes.few passes.moves.taken in
    record { within = omega arith; held = omega arith; few = omega (arith, few); small = old.small; counted = λ e. absurd (omega (arith, e)); whole = λ e. absurd (omega (arith, e)) }

pub invariant_of-self-in-Err-line_len : goal.invariant_of-self-in-Err-line_len
invariant_of-self-in-Err-line_len g c =
    let passes = rw c.deref_mut-2.ensures.value at c.in-Ok.ensures.passes in
    let reaches = rw c.deref_mut-3.ensures.value at c.in-Err-line_len.ensures.reaches in
    let old = c.args.self.now in
    let few = few_line old.intake.value c.advance.new.self c.pass_mark.new.intake old.over old.number passes.bytes old.few (gone old.over _ _ _ c.deref_mut.ensures.value c.advance.ensures.bytes) (c.advance.ensures.taken ∙ ap (λ (f : Front). f.taken) c.deref_mut.ensures.value) passes.few passes.moves.taken
    c.line_len.new.intake reaches.bytes reaches.held reaches.moves.taken in
    record { within = omega arith; held = omega arith; few = omega (arith, few); small = old.small; counted = λ e. absurd (omega (arith, e)); whole = λ e. absurd (omega (arith, e)) }

pub invariant_of-self-in-Ok-line_len : goal.invariant_of-self-in-Ok-line_len
invariant_of-self-in-Ok-line_len g c =
    let passes = rw c.deref_mut-2.ensures.value at c.in-Ok.ensures.passes in
    let reaches = rw c.deref_mut-3.ensures.value at c.in-Ok-line_len.ensures.reaches in
    let old = c.args.self.now in
    let r = reaches.answer in
    let held = c.bytes-held.ensures in
    let bytes = held.bytes ∙ ap (λ (f : Front). f.bytes) c.deref.ensures in
    let taken = ap (λ (f : Front). f.taken) c.deref.ensures in
    let min_is = c.min-self.ensures in
    let few = few_line old.intake.value c.advance.new.self c.pass_mark.new.intake old.over old.number passes.bytes old.few (gone old.over _ _ _ c.deref_mut.ensures.value c.advance.ensures.bytes) (c.advance.ensures.taken ∙ ap (λ (f : Front). f.taken) c.deref_mut.ensures.value) passes.few passes.moves.taken
    c.line_len.new.intake reaches.bytes reaches.held reaches.moves.taken in
    record {
      within = omega (arith, min_is, ap length bytes, r.1, c.if-held-eq0.false);
      held = omega (arith, min_is, ap length bytes);
      few = omega (arith, few, min_is, ap length bytes, c.if-held-eq0.false);
      small = omega (arith, few, held.few, taken, ap length bytes, c.if-held-eq0.false);
      counted = λ e. omega arith;
      whole = λ e. record { one = r.2; feed = r.3 (omega (arith, e, min_is, ap length bytes)) };
    }

pub returns-in-Err-clause-next : goal.returns-in-Err-clause-next
returns-in-Err-clause-next g c =
    let passes = rw c.deref_mut-2.ensures.value at c.in-Err.ensures.passes in
    record {
      bytes = passes.bytes;
      consumed = passes.moves.consumed;
      none = passes.moves.none;
      stays = passes.moves.stays;
      answers = λ before told given fresh at st.
          front_stops c.args.self.now c.advance.new.self c.pass_mark.new.intake c.pass_mark.new.ended _ _ _ passes (gone c.args.self.now.over _ _ _ c.deref_mut.ensures.value c.advance.ensures.bytes) (c.advance.ensures.taken ∙ ap (λ (f : Front). f.taken) c.deref_mut.ensures.value) before told given at st
          (record c.args.self.now { ended = c.pass_mark.new.ended }) c.in-Err.fault refl passes.answer;
    }

pub returns-then-held-eq0-clause-next : goal.returns-then-held-eq0-clause-next
returns-then-held-eq0-clause-next g c =
    let passes = rw c.deref_mut-2.ensures.value at c.in-Ok.ensures.passes in
    let reaches = rw c.deref_mut-3.ensures.value at c.in-Ok-line_len.ensures.reaches in
    let held = c.bytes-held.ensures in
    record {
      bytes = passes.bytes ++ reaches.bytes;
      consumed = Consumes-trans _ _ _ _ _ passes.moves.consumed reaches.moves.consumed;
      none = none_twice c.args.self.now.ended c.pass_mark.new.ended passes.bytes reaches.bytes passes.moves.none passes.moves.stays reaches.moves.none;
      stays = λ e. reaches.moves.stays (passes.moves.stays e);
      answers = λ before told given fresh at st.
          none_left c.args.self.now c.advance.new.self c.pass_mark.new.intake c.pass_mark.new.ended _ _ _ passes (gone c.args.self.now.over _ _ _ c.deref_mut.ensures.value c.advance.ensures.bytes) (c.advance.ensures.taken ∙ ap (λ (f : Front). f.taken) c.deref_mut.ensures.value) before told given at st
          c.line_len.new.intake c.line_len.new.ended _ _ reaches _ passes.answer _ c.in-Ok-line_len.count refl refl refl refl
          (sym (ap length (held.bytes ∙ ap (λ (f : Front). f.bytes) c.deref.ensures)) ∙ c.if-held-eq0.true) reaches.answer (omega (arith, held.few, ap (λ (f : Front). f.taken) c.deref.ensures));
    }

pub returns-else-held-eq0-clause-next : goal.returns-else-held-eq0-clause-next
returns-else-held-eq0-clause-next g c =
    let passes = rw c.deref_mut-2.ensures.value at c.in-Ok.ensures.passes in
    let reaches = rw c.deref_mut-3.ensures.value at c.in-Ok-line_len.ensures.reaches in
    let len = ap length (c.bytes-held.ensures.bytes ∙ ap (λ (f : Front). f.bytes) c.deref.ensures) in
    record {
      bytes = passes.bytes ++ reaches.bytes;
      consumed = Consumes-trans _ _ _ _ _ passes.moves.consumed reaches.moves.consumed;
      none = none_twice c.args.self.now.ended c.pass_mark.new.ended passes.bytes reaches.bytes passes.moves.none passes.moves.stays reaches.moves.none;
      stays = λ e. reaches.moves.stays (passes.moves.stays e);
      answers = λ before told given fresh at st.
          line_given c.args.self.now c.advance.new.self c.pass_mark.new.intake c.pass_mark.new.ended _ _ _ passes (gone c.args.self.now.over _ _ _ c.deref_mut.ensures.value c.advance.ensures.bytes) (c.advance.ensures.taken ∙ ap (λ (f : Front). f.taken) c.deref_mut.ensures.value) before told given at st
          c.line_len.new.intake c.line_len.new.ended _ _ reaches _ passes.answer _ c.in-Ok-line_len.count _ _ refl refl refl refl refl refl (omega (arith, c.if-held-eq0.false, len)) (c.min-self.ensures ∙ ap (λ (n : ℕ). min n (c.in-Ok-line_len.count + 1)) len) reaches.answer;
    }

pub returns-else-held-eq0-clause-progress : goal.returns-else-held-eq0-clause-progress
returns-else-held-eq0-clause-progress g c =
    let passes = rw c.deref_mut-2.ensures.value at c.in-Ok.ensures.passes in
    let reaches = rw c.deref_mut-3.ensures.value at c.in-Ok-line_len.ensures.reaches in
    let old = c.args.self.now in
    let held = c.bytes-held.ensures in
    let len = ap length (held.bytes ∙ ap (λ (f : Front). f.bytes) c.deref.ensures) in
    let min_is = c.min-self.ensures in
    left_falls old.intake.value c.advance.new.self c.pass_mark.new.intake old.over old.number passes.bytes old.few (gone old.over _ _ _ c.deref_mut.ensures.value c.advance.ensures.bytes) (c.advance.ensures.taken ∙ ap (λ (f : Front). f.taken) c.deref_mut.ensures.value) passes.few passes.moves.taken
    c.line_len.new.intake reaches.bytes reaches.held reaches.moves.taken c.min-self.result
    (omega (arith, min_is, c.if-held-eq0.false)) (omega (arith, min_is, len)) old.held (omega (arith, held.few, ap (λ (f : Front). f.taken) c.deref.ensures))

pub returns-in-Err-line_len-clause-next : goal.returns-in-Err-line_len-clause-next
returns-in-Err-line_len-clause-next g c =
    let passes = rw c.deref_mut-2.ensures.value at c.in-Ok.ensures.passes in
    let reaches = rw c.deref_mut-3.ensures.value at c.in-Err-line_len.ensures.reaches in
    record {
      bytes = passes.bytes ++ reaches.bytes;
      consumed = Consumes-trans _ _ _ _ _ passes.moves.consumed reaches.moves.consumed;
      none = none_twice c.args.self.now.ended c.pass_mark.new.ended passes.bytes reaches.bytes passes.moves.none passes.moves.stays reaches.moves.none;
      stays = λ e. reaches.moves.stays (passes.moves.stays e);
      answers = λ before told given fresh at st.
          line_stops c.args.self.now c.advance.new.self c.pass_mark.new.intake c.pass_mark.new.ended _ _ _ passes (gone c.args.self.now.over _ _ _ c.deref_mut.ensures.value c.advance.ensures.bytes) (c.advance.ensures.taken ∙ ap (λ (f : Front). f.taken) c.deref_mut.ensures.value) before told given at st
          c.line_len.new.intake c.line_len.new.ended _ _ reaches _ passes.answer (record c.args.self.now { ended = c.line_len.new.ended }) c.in-Err-line_len.fault refl reaches.answer;
    }
