use Rattle.std.proofs.Common.{◌≡◌, ◌≢◌, ◌≤◌, ◌++◌, [], List, ℕ, length, take}
use Rattle.la_base.specs.Runs.{samples_of}
use Rattle.wait_cond.specs.Walks.{Walks, walk_from, walked}
use Rattle.decoder_core.specs.Treading.{OnWalk, SaysAlts}
use Rattle.decoder_core.proofs.walks.walk_runs.Given as goal

abbrev pub invariant-loop-place : goal.invariant-loop-place
invariant-loop-place g l =
    let m = g.L.LogicMachine in
    record {
      setup : g.L.Configured.setup l.machine ≡ g.L.Configured.setup l.fn.machine;
      alts : m.alts l.machine ≡ m.alts l.fn.machine;
      nothing : l.place ≡ 0 → l.into ≡ [];
      room : length l.into ≤ 16;
      some : walked l.walk ≢ 0;
      treads : SaysAlts l.pair (m.alts l.fn.machine) → (list : List ℕ) → Walks (m.alts l.fn.machine) l.fn.walk list → m.stands l.fn.machine (take (walk_from l.fn.walk) list)
          → OnWalk (m.outs (g.L.Configured.setup l.fn.machine)) m.stands (m.alts l.fn.machine) l.machine l.walk list (list ++ samples_of (take l.place l.runs)) l.into;
    }
