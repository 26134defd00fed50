use Rattle.std.proofs.Common.{◌≢◌, ◌≤◌, ◌-◌, length, take}
use Rattle.la_base.specs.Runs.{samples_of}
use Rattle.wait_cond.specs.Walks.{walked}
use Rattle.decoder_core.specs.Striding.{PassesOver}
use Rattle.decoder_core.proofs.timed.pass_steady.Given as goal

abbrev pub invariant-loop-place : goal.invariant-loop-place
invariant-loop-place g l =
    let m = g.L.LogicMachine in
    record {
      from : l.from ≤ l.place;
      within : l.place ≤ length l.runs;
      some : walked l.walk ≢ 0;
      passes : PassesOver (m.outs (g.L.Configured.setup l.machine)) m.stands m.alts l.machine l.fn.walk l.walk (samples_of (take l.from l.runs)) (samples_of (take l.place l.runs));
    }

abbrev pub decreases-loop-place : goal.decreases-loop-place
decreases-loop-place g l = length l.runs - l.place
