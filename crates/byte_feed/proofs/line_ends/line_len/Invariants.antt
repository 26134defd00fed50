use Rattle.std.proofs.Common.{◌≡◌, ◌<◌, ◌≤◌, ◌-◌, ◌^◌, ◌++◌, List, ℕ, length, true, slice_index}
use Rattle.byte_feed.specs.Lines.{is_feed, kept}
use Rattle.byte_feed.specs.LineMoves.{AllIn}
use Rattle.byte_feed.specs.Moving.{Moves}
use Rattle.byte_feed.proofs.line_ends.line_len.Given as goal

abbrev pub invariant-loop-count : goal.invariant-loop-count
invariant-loop-count g l = record {
  taken : (bytes : List ℕ) × Moves l.fn.intake l.intake l.fn.ended l.ended (g.S.Source.left l.fn.source) (g.S.Source.left l.source) bytes
      × (l.intake.bytes ≡ l.fn.intake.bytes ++ kept bytes);
  within : l.count ≤ length l.intake.bytes;
  one : AllIn l.intake.bytes l.count;
  behind : l.count < length l.intake.bytes → is_feed (slice_index l.intake.bytes l.count) ≡ true;
  room : length l.intake.bytes ≤ 65536;
  unread : l.fn.ended ≡ true → l.source ≡ l.fn.source;
  faults : g.S.Source.faults l.source ≡ g.S.Source.faults l.fn.source;
}

abbrev pub decreases-loop-count : goal.decreases-loop-count
decreases-loop-count g l = 2 ^ 60 - l.intake.taken
