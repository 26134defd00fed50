use Rattle.std.proofs.Common.{◌∙◌, sym, ap, arith, ◌++◌, List, ℕ, length, slice_index}
use Rattle.byte_feed.specs.Lines.{is_feed}
use Rattle.byte_feed.proofs.Moving.{moves_on}
use Rattle.byte_feed.proofs.LineMoving.{kept_on}
use Rattle.byte_feed.proofs.line_ends.line_len.Goals as goal

pub loop-count-preserved : goal.loop-count-preserved
loop-count-preserved g c =
    let inv = c.loop-count.invariant in
    let fills = c.in-Ok-true.ensures.fills in
    let n = c.line_at-count-in-Ok-true.result in
    let bytes = c.bytes-in-Ok-true.ensures.bytes in
    let after = c.line_at-count-in-Ok-true.ensures in
    record {
      taken = (
        inv.taken.0 ++ fills.bytes,
        moves_on _ _ _ _ _ _ _ _ _ _ _ inv.taken.1 fills.moves,
        kept_on c.args.intake.now.bytes inv.taken.0 fills.bytes _ _ inv.taken.2 fills.held,
      );
      within = omega (arith, after.within, ap length bytes);
      one = λ k less. ap (λ (l : List ℕ). is_feed (slice_index l k)) (sym bytes) ∙ after.one k less;
      behind = λ less. ap (λ (l : List ℕ). is_feed (slice_index l n)) (sym bytes) ∙ after.behind (omega (arith, less, ap length bytes));
      room = omega (arith, c.bytes-in-Ok-true.ensures.room, ap length bytes);
      unread = λ e. c.in-Ok-true.ensures.unread (inv.taken.1.stays e) ∙ inv.unread e;
      faults = c.in-Ok-true.ensures.cause ∙ inv.faults;
    }
