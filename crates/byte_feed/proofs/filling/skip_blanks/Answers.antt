use Rattle.std.proofs.Common.{◌≡◌, ◌∙◌, sym, ap, arith, [], ◌++◌, List, ℕ, take, length, refl, take-append-drop, length-drop, slice_index}
use Rattle.std.proofs.lemmas.Bool.{eqb-true}
use Rattle.std.proofs.lemmas.List.{append-nil, nil_from_length}
use Rattle.byte_feed.specs.Tokens.{is_blank}
use Rattle.byte_feed.proofs.Moving.{moves_still, moves_on, moves_go, front_blank, more_blank, split_on, first_behind}
use Rattle.byte_feed.proofs.filling.skip_blanks.Goals as goal

pub loop-intake-init : goal.loop-intake-init
loop-intake-init g c =
    let old = c.args.intake.now.bytes in
    let n = c.blanks_at-count.result in
    let bytes = c.bytes.ensures.bytes in
    record {
      skipped = (
        [],
        take n old,
        moves_still _ _ c.args.ended.now _ c.advance.ensures.taken,
        front_blank old n (omega (arith, c.blanks_at-count.ensures.within, ap length bytes)) (λ k less. ap (λ (l : List ℕ). is_blank (slice_index l k)) (sym bytes) ∙ c.blanks_at-count.ensures.blank k less),
        append-nil old ∙ sym (take-append-drop n old) ∙ ap (λ (l : List ℕ). take n old ++ l) (sym c.advance.ensures.bytes),
      );
      behind = λ some. ap (λ (l : List ℕ). is_blank (slice_index l 0)) c.advance.ensures.bytes ∙ ap is_blank (first_behind old n) ∙ ap (λ (l : List ℕ). is_blank (slice_index l n)) (sym bytes)
          ∙ c.blanks_at-count.ensures.behind (omega (arith, some, ap length c.advance.ensures.bytes, length-drop n old, ap length bytes));
      unread = λ e. refl;
      faults = refl;
    }

pub loop-intake-preserved : goal.loop-intake-preserved
loop-intake-preserved g c =
    let inv = c.loop-intake.invariant in
    let mid = c.loop-intake.intake.bytes in
    let fills = c.in-Ok-true.ensures.fills in
    let new = c.fill.new.intake.bytes in
    let n = c.blanks_at-count-in-Ok-true.result in
    let bytes = c.bytes-in-Ok-true.ensures.bytes in
    record {
      skipped = (
        inv.skipped.0 ++ fills.bytes,
        inv.skipped.1 ++ take n new,
        moves_go _ _ _ _ _ _ _ _ (moves_on _ _ _ _ _ _ _ _ _ _ _ inv.skipped.2 fills.moves) c.advance-in-Ok-true.ensures.taken,
        more_blank inv.skipped.1 (take n new) inv.skipped.3 (front_blank new n (omega (arith, c.blanks_at-count-in-Ok-true.ensures.within, ap length bytes)) (λ k less. ap (λ (l : List ℕ). is_blank (slice_index l k)) (sym bytes) ∙ c.blanks_at-count-in-Ok-true.ensures.blank k less)),
        split_on c.args.intake.now.bytes inv.skipped.0 inv.skipped.1 mid fills.bytes new n inv.skipped.4 fills.held ∙ ap (λ (l : List ℕ). (inv.skipped.1 ++ take n new) ++ l) (sym c.advance-in-Ok-true.ensures.bytes),
      );
      behind = λ some. ap (λ (l : List ℕ). is_blank (slice_index l 0)) c.advance-in-Ok-true.ensures.bytes ∙ ap is_blank (first_behind new n) ∙ ap (λ (l : List ℕ). is_blank (slice_index l n)) (sym bytes)
          ∙ c.blanks_at-count-in-Ok-true.ensures.behind (omega (arith, some, ap length c.advance-in-Ok-true.ensures.bytes, length-drop n new, ap length bytes));
      unread = λ e. c.in-Ok-true.ensures.unread (inv.skipped.2.stays e) ∙ inv.unread e;
      faults = c.in-Ok-true.ensures.cause ∙ inv.faults;
    }

pub returns-in-Err-clause-skips : goal.returns-in-Err-clause-skips
returns-in-Err-clause-skips g c =
    let inv = c.loop-intake.invariant in
    let mid = c.loop-intake.intake.bytes in
    let fills = c.in-Err.ensures.fills in
    let none : mid ≡ [] = nil_from_length mid (omega (arith, eqb-true (length c.bytes-in-loop-intake.result.now) 0 (sym c.loop-intake-test.ensures), ap length c.bytes-in-loop-intake.ensures.bytes)) in
    record {
      bytes = inv.skipped.0 ++ fills.bytes;
      moves = moves_on _ _ _ _ _ _ _ _ _ _ _ inv.skipped.2 fills.moves;
      blanks = inv.skipped.1;
      all_blank = inv.skipped.3;
      split = split_on c.args.intake.now.bytes inv.skipped.0 inv.skipped.1 mid fills.bytes c.fill.new.intake.bytes 0 inv.skipped.4 fills.held ∙ ap (λ (l : List ℕ). l ++ c.fill.new.intake.bytes) (append-nil inv.skipped.1);
      answer = (fills.held ∙ (λ i. none i ++ fills.answer.0 i), fills.answer.1);
    }
