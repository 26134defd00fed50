use Rattle.std.proofs.Common.{◌≡◌, ◌≢◌, ◌≤◌, ◌-◌, [], length, take}
use Rattle.la_base.specs.Runs.{samples_of}
use Rattle.wait_cond.specs.Walks.{walked}
use Rattle.decoder_core.specs.Striding.{Awaits, Strides}
use Rattle.decoder_core.proofs.timed.walk_stops.Given as goal

abbrev pub invariant-loop-place : goal.invariant-loop-place
invariant-loop-place g l =
    let m = g.L.LogicMachine in
    record {
      setup : g.L.Configured.setup l.machine ≡ g.L.Configured.setup l.fn.machine;
      within : l.place ≤ length l.runs;
      nothing : l.place ≡ 0 → l.into ≡ [];
      room : length l.into ≤ 16;
      some : walked l.walk ≢ 0;
      awaits : Awaits (m.alts l.machine) l.walk l.next.falls l.next.left;
      strides : Strides (m.outs (g.L.Configured.setup l.fn.machine)) m.stands m.alts l.fn.machine l.machine l.fn.walk l.walk [] l.into (samples_of (take l.place l.runs));
    }

abbrev pub decreases-loop-place : goal.decreases-loop-place
decreases-loop-place g l = length l.runs - l.place
