use Rattle.std.proofs.Common.{◌≡◌, ◌<◌, ℕ, map, length}
use Rattle.std.specs.List.{AllZip}
use Rattle.stack_threads.specs.Ties.{Alike, SameEnds, Tied, given_by, got_on, heard_by, sent_on}
use Rattle.stack_threads.proofs.settle.settle_tree.Given as goal

abbrev pub invariant-loop-instance : goal.invariant-loop-instance
invariant-loop-instance g l = record {
  alike : AllZip Alike l.initial.parts l.parts;
  ends : SameEnds l.initial.feeds l.feeds l.initial.marks l.marks;
  len : (length l.parts ≡ length l.initial.parts) × (length l.marks ≡ length l.initial.marks);
  tied : (j : ℕ) → j < l.instance → Tied l.parents (map heard_by l.parts) (map given_by l.parts) (map sent_on l.feeds) (map got_on l.marks) j;
}
