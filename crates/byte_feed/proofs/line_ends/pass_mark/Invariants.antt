use Rattle.std.proofs.Common.{◌≡◌, ◌-◌, ◌^◌, ◌≤◌, ◌++◌, List, ℕ, true, false}
use Rattle.byte_feed.specs.Lines.{kept, without_mark}
use Rattle.byte_feed.specs.Moving.{Moves}
use Rattle.byte_feed.proofs.Marks.{MarkFront}
use Rattle.byte_feed.proofs.line_ends.pass_mark.Given as goal

abbrev pub invariant-loop-waits : goal.invariant-loop-waits
invariant-loop-waits g l = record {
  taken : (bytes : List ℕ) × Moves l.fn.intake l.intake l.fn.ended l.ended (g.S.Source.left l.fn.source) (g.S.Source.left l.source) bytes
      × (l.intake.bytes ≡ l.fn.intake.bytes ++ kept bytes);
  may : l.waits ≡ true → MarkFront l.intake.bytes;
  may_not : l.waits ≡ false → (more : List ℕ) → without_mark (l.intake.bytes ++ more) ≡ without_mark l.intake.bytes ++ more;
  few : l.intake.taken ≤ 2 ^ 60;
  unread : l.fn.ended ≡ true → l.source ≡ l.fn.source;
  faults : g.S.Source.faults l.source ≡ g.S.Source.faults l.fn.source;
}

abbrev pub decreases-loop-waits : goal.decreases-loop-waits
decreases-loop-waits g l = 2 ^ 60 - l.intake.taken
