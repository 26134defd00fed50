use Rattle.std.proofs.Common.{◌≡◌}
use Rattle.annot_merge.specs.Held.{count_of}
use Rattle.program_tests.proofs.floors.a_summary_comes_before_what_it_sums_up.Given as goal

abbrev pub invariant-loop-start : goal.invariant-loop-start
invariant-loop-start g l = count_of l.merge ≡ 2
