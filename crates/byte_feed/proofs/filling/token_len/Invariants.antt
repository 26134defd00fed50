use Rattle.std.proofs.Common.{◌≡◌, ◌<◌, ◌≤◌, ◌-◌, ◌++◌, List, ℕ, length, true, slice_index}
use Rattle.byte_feed.specs.Tokens.{is_blank}
use Rattle.byte_feed.specs.Blanks.{AllPlain}
use Rattle.byte_feed.specs.Moving.{Moves}
use Rattle.byte_feed.proofs.filling.token_len.Given as goal

abbrev pub invariant-loop-count : goal.invariant-loop-count
invariant-loop-count g l = record {
  taken : (bytes : List ℕ) × Moves l.fn.intake l.intake l.fn.ended l.ended (g.S.Source.left l.fn.source) (g.S.Source.left l.source) bytes
      × (l.intake.bytes ≡ l.fn.intake.bytes ++ bytes);
  within : l.count ≤ length l.intake.bytes;
  plain : AllPlain l.intake.bytes l.count;
  behind : l.count < length l.intake.bytes → is_blank (slice_index l.intake.bytes l.count) ≡ true;
  room : length l.intake.bytes ≤ 65536;
  few : length l.intake.bytes ≤ l.intake.taken;
  unread : l.fn.ended ≡ true → l.source ≡ l.fn.source;
  faults : g.S.Source.faults l.source ≡ g.S.Source.faults l.fn.source;
}

abbrev pub decreases-loop-count : goal.decreases-loop-count
decreases-loop-count g l = 65536 - length l.intake.bytes
