use Rattle.std.proofs.Common.{◌≡◌, ◌+◌, ◌-◌, ◌≤◌, length, replicate}
use Rattle.wait_cond.specs.Walks.{StopsBehind, walked}
use Rattle.decoder_core.specs.Striding.{Awaits, Strides}
use Rattle.decoder_core.proofs.timed.stride.Given as goal

abbrev pub invariant-loop-next : goal.invariant-loop-next
invariant-loop-next g l =
    let m = g.L.LogicMachine in
    record {
      setup : g.L.Configured.setup l.machine ≡ g.L.Configured.setup l.fn.machine;
      within : l.rest ≤ l.run.len;
      counted : walked l.walk + l.rest ≡ walked l.fn.walk + l.run.len;
      room : length l.into ≤ 16;
      awaits : Awaits (m.alts l.machine) l.walk l.next.falls l.next.left;
      stops : StopsBehind (m.alts l.machine) l.walk l.run.value l.next.left;
      strides : Strides (m.outs (g.L.Configured.setup l.fn.machine)) m.stands m.alts l.fn.machine l.machine l.fn.walk l.walk l.fn.into l.into (replicate (l.run.len - l.rest) l.run.value);
    }

abbrev pub decreases-loop-next : goal.decreases-loop-next
decreases-loop-next g l = l.rest
