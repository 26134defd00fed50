use Rattle.std.proofs.Common.{◌≡◌, ◌+◌, ◌++◌, List, ℕ, length, take}
use Rattle.la_base.specs.Runs.{samples_of}
use Rattle.wait_cond.specs.Waiting.{Waits, alts_of, wait_from, consumed_by}
use Rattle.wait_cond.proofs.scan.Waiter.pass_runs.Given as goal

abbrev pub invariant-loop-place : goal.invariant-loop-place
invariant-loop-place l = record {
  waits : (list : List ℕ) → Waits l.fn.self list → Waits l.self (list ++ samples_of (take l.place l.runs));
  count : consumed_by l.self ≡ consumed_by l.fn.self + length (samples_of (take l.place l.runs));
  from : wait_from l.self ≡ wait_from l.fn.self;
  alts : alts_of l.self ≡ alts_of l.fn.self;
}
