use Rattle.std.proofs.Common.{◌+◌, ◌-◌, ◌^◌, ◌∙◌, map, take, ap, arith}
use Rattle.std.specs.Prelude.{min}
use Rattle.stage_ring.specs.Link.{tx_misses}
use Rattle.stage_run.specs.Boxes.{sum}
use Rattle.stage_run.proofs.Counts.{capped_more, sum_next}
use Rattle.stage_run.proofs.outbox.Outbox.misses.Goals as goal

pub loop-child-preserved : goal.loop-child-preserved
loop-child-preserved c =
    let xs = c.deref-child-items.result.now in
    let i = c.loop-child.child-index in
    let child = c.child-item.result in
    let base = tx_misses c.args.self.now.marks in
    let next = sum_next tx_misses xs i child c.loop-child-test.true c.child-item.is in
    capped_more (base + sum (map tx_misses (take (i + 1) xs))) (tx_misses child) c.loop-child.misses c.saturating_add-misses.result (base + sum (map tx_misses (take i xs))) c.loop-child.invariant
    (c.saturating_add-misses.ensures ∙ ap (λ k. min (c.loop-child.misses + k) (2 ^ 64 - 1)) c.misses.ensures) (omega (arith, next))
