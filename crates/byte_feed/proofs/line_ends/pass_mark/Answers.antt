use Rattle.std.proofs.Common.{◌≡◌, ◌∙◌, ◌++◌, ℕ, List, [], sym, ap, subst, arith, length, length-append, length-drop, drop, Bool, Ok}
use Rattle.std.proofs.lemmas.List.{append-nil}
use Rattle.byte_feed.specs.Lines.{kept, without_mark}
use Rattle.byte_feed.specs.Moving.{Filled}
use Rattle.byte_feed.proofs.Moving.{moves_on, moves_go}
use Rattle.byte_feed.proofs.LineMoving.{kept_on, kept_len}
use Rattle.byte_feed.proofs.Marks.{MarkFront, front_in, front_passed, front_alone}
use Rattle.byte_feed.proofs.line_ends.pass_mark.Goals as goal

same_held : (mid new x : List ℕ) → new ≡ mid ++ kept x → x ≡ [] → new ≡ mid
same_held mid new x is none = is ∙ ap (λ (l : List ℕ). mid ++ kept l) none ∙ append-nil mid

pub loop-waits-preserved : goal.loop-waits-preserved
loop-waits-preserved g c =
    let inv = c.loop-waits.invariant in
    let fills = c.in-Ok-true.ensures.fills in
    let bytes = c.bytes-in-Ok-true.ensures.bytes in
    record {
      taken = (
        inv.taken.0 ++ fills.bytes,
        moves_on _ _ _ _ _ _ _ _ _ _ _ inv.taken.1 fills.moves,
        kept_on c.args.intake.now.bytes inv.taken.0 fills.bytes _ _ inv.taken.2 fills.held,
      );
      may = λ e. subst MarkFront bytes (c.may_be_mark-waits-in-Ok-true.ensures.may e);
      may_not = λ e more. ap (λ (l : List ℕ). without_mark (l ++ more)) (sym bytes) ∙ c.may_be_mark-waits-in-Ok-true.ensures.may_not e more ∙ ap (λ (l : List ℕ). without_mark l ++ more) bytes;
      few = c.bytes-in-Ok-true.ensures.few;
      unread = λ e. c.in-Ok-true.ensures.unread (inv.taken.1.stays e) ∙ inv.unread e;
      faults = c.in-Ok-true.ensures.cause ∙ inv.faults;
    }

pub returns-in-Ok-false-clause-passes : goal.returns-in-Ok-false-clause-passes
returns-in-Ok-false-clause-passes g c =
    let inv = c.loop-waits.invariant in
    let fills = c.in-Ok-false.ensures.fills in
    let bytes = inv.taken.0 ++ fills.bytes in
    let ended = subst (λ (b : Bool). Filled c.fill.new.intake.taken c.fill.new.ended fills.bytes (Ok b)) c.in-Ok-false.field-0-test fills.answer in
    let all = kept_on c.args.intake.now.bytes inv.taken.0 fills.bytes _ _ inv.taken.2 fills.held in
    record {
      bytes = bytes;
      moves = moves_on _ _ _ _ _ _ _ _ _ _ _ inv.taken.1 fills.moves;
      few = omega (arith, ap length all, length-append c.args.intake.now.bytes (kept bytes), kept_len bytes);
      answer = λ more none. front_alone c.args.lines _ c.fill.new.intake.bytes (omega (arith, c.if-lines-gt0.false)) all (subst MarkFront (sym (same_held _ _ _ fills.held ended.1) ∙ all) (inv.may c.loop-waits-test.true)) more (none ended.0);
    }

pub returns-in-Err-clause-passes : goal.returns-in-Err-clause-passes
returns-in-Err-clause-passes g c =
    let inv = c.loop-waits.invariant in
    let fills = c.in-Err.ensures.fills in
    let bytes = inv.taken.0 ++ fills.bytes in
    let all = kept_on c.args.intake.now.bytes inv.taken.0 fills.bytes _ _ inv.taken.2 fills.held in
    let front = front_in c.args.lines _ (omega (arith, c.if-lines-gt0.false)) (subst MarkFront (sym (same_held _ _ _ fills.held fills.answer.0) ∙ all) (inv.may c.loop-waits-test.true)) in
    record {
      bytes = bytes;
      moves = moves_on _ _ _ _ _ _ _ _ _ _ _ inv.taken.1 fills.moves;
      few = omega (arith, ap length all, length-append c.args.intake.now.bytes (kept bytes), kept_len bytes);
      answer = (all, front.0, front.1, front.2, fills.answer.1);
    }

pub returns-clause-passes : goal.returns-clause-passes
returns-clause-passes g c =
    let inv = c.loop-waits.invariant in
    let bytes = c.bytes-2.ensures.bytes in
    let n = c.mark_len-count.result in
    record {
      bytes = inv.taken.0;
      moves = moves_go _ _ _ _ _ _ _ _ inv.taken.1 c.advance.ensures.taken;
      few = omega (arith, ap length c.advance.ensures.bytes, length-drop n c.loop-waits.intake.bytes, ap length inv.taken.2, length-append c.args.intake.now.bytes (kept inv.taken.0), kept_len inv.taken.0);
      answer = λ more none. front_passed c.args.lines c.loop-waits.intake.bytes _ _ n (omega (arith, c.if-lines-gt0.false)) inv.taken.2 (inv.may_not c.loop-waits-test.false)
          (subst (λ (l : List ℕ). drop n l ≡ without_mark l) bytes c.mark_len-count.ensures.behind) c.advance.ensures.bytes more;
    }
