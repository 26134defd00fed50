use Rattle.std.proofs.Common.{◌≡◌, ◌<◌, ◌-◌, ◌^◌, ◌++◌, List, ℕ, length, true, false, slice_index}
use Rattle.byte_feed.specs.Tokens.{is_blank}
use Rattle.byte_feed.specs.Blanks.{AllBlank}
use Rattle.byte_feed.specs.Moving.{Moves}
use Rattle.byte_feed.proofs.filling.skip_blanks.Given as goal

abbrev pub invariant-loop-intake : goal.invariant-loop-intake
invariant-loop-intake g l = record {
  skipped : (bytes : List ℕ) × (blanks : List ℕ) × Moves l.fn.intake l.intake l.fn.ended l.ended (g.S.Source.left l.fn.source) (g.S.Source.left l.source) bytes
      × AllBlank blanks (length blanks) × (l.fn.intake.bytes ++ bytes ≡ blanks ++ l.intake.bytes);
  behind : 0 < length l.intake.bytes → is_blank (slice_index l.intake.bytes 0) ≡ false;
  unread : l.fn.ended ≡ true → l.source ≡ l.fn.source;
  faults : g.S.Source.faults l.source ≡ g.S.Source.faults l.fn.source;
}

abbrev pub decreases-loop-intake : goal.decreases-loop-intake
decreases-loop-intake g l = 2 ^ 60 - l.intake.taken
