use Rattle.std.proofs.Common.{◌≡◌, ◌+◌, ◌-◌, ◌^◌, map, take}
use Rattle.std.specs.Prelude.{min}
use Rattle.stage_ring.specs.Link.{tx_misses}
use Rattle.stage_run.specs.Boxes.{sum}
use Rattle.stage_run.proofs.outbox.Outbox.misses.Given as goal

abbrev pub invariant-loop-child : goal.invariant-loop-child
invariant-loop-child l = l.misses ≡ min (tx_misses l.fn.self.marks + sum (map tx_misses (take l.child-index l.child-items))) (2 ^ 64 - 1)
