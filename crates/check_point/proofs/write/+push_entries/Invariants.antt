use Rattle.std.proofs.Common.{length}
use Rattle.check_point.proofs.write.+push_entries.Given as goal

abbrev pub decreases-push_entries : goal.decreases-push_entries
decreases-push_entries g l = length l.kinds.now
