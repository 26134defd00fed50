use Rattle.std.proofs.Common.{◌∙◌, sym, ap, arith, ◌++◌, List, ℕ, length, append_assoc, slice_index}
use Rattle.byte_feed.specs.Tokens.{is_blank}
use Rattle.byte_feed.proofs.Moving.{moves_on}
use Rattle.byte_feed.proofs.filling.token_len.Goals as goal

pub loop-count-preserved : goal.loop-count-preserved
loop-count-preserved g c =
    let inv = c.loop-count.invariant in
    let fills = c.in-Ok-true.ensures.fills in
    let n = c.plain_at-count-in-Ok-true.result in
    let bytes = c.bytes-in-Ok-true.ensures.bytes in
    let after = c.plain_at-count-in-Ok-true.ensures in
    record {
      taken = (
        inv.taken.0 ++ fills.bytes,
        moves_on _ _ _ _ _ _ _ _ _ _ _ inv.taken.1 fills.moves,
        fills.held ∙ ap (λ (l : List ℕ). l ++ fills.bytes) inv.taken.2 ∙ append_assoc c.args.intake.now.bytes inv.taken.0 fills.bytes,
      );
      within = omega (arith, after.within, ap length bytes);
      plain = λ k less. ap (λ (l : List ℕ). is_blank (slice_index l k)) (sym bytes) ∙ after.plain k less;
      behind = λ less. ap (λ (l : List ℕ). is_blank (slice_index l n)) (sym bytes) ∙ after.behind (omega (arith, less, ap length bytes));
      room = omega (arith, c.bytes-in-Ok-true.ensures.room, ap length bytes);
      few = c.bytes-in-Ok-true.ensures.held;
      unread = λ e. c.in-Ok-true.ensures.unread (inv.taken.1.stays e) ∙ inv.unread e;
      faults = c.in-Ok-true.ensures.cause ∙ inv.faults;
    }
