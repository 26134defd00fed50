use Rattle.std.proofs.Common.{◌+◌, take, drop, ℕ, arith, ap, ◌∙◌, List}
use Rattle.std.proofs.lemmas.Bool.{ne_eqb, eq-eqb}
use Rattle.la_io.proofs.Dropping.{keep_one, keep_ahead, drop_one, drop_ahead}
use Rattle.la_io.proofs.intake.drop_behind.Goals.{then-byte-dropped, else-byte-dropped}
use Rattle.la_io.proofs.intake.drop_behind.Goals as goal

pub loop-at-preserved : goal.loop-at-preserved
loop-at-preserved c =
    let inv = c.loop-at.invariant in
    elim c.if-byte-dropped.branch [
      | then-byte-dropped w ↦ record {
        begun = omega (arith, w.to-is, inv.begun);
        order = omega (arith, w.to-is, inv.order);
        within = omega (arith, c.if-byte-dropped.auto.bytes, c.loop-at-test.true);
        same = c.if-byte-dropped.auto.bytes ∙ inv.same;
        kept = (λ i. take (w.to-is i) (w.bytes-is i)) ∙ keep_one _ _ _ _ _ _ inv.begun inv.order c.loop-at-test.true inv.same inv.kept inv.ahead (ne_eqb _ _ w.if-byte-dropped.true);
        ahead = ap (λ (l : List ℕ). drop (c.loop-at.at + 1) l) w.bytes-is ∙ keep_ahead _ _ _ _ _ c.args.dropped inv.begun inv.order c.loop-at-test.true inv.same inv.kept inv.ahead;
      }
      | else-byte-dropped w ↦ record {
        begun = omega (arith, w.to-is, inv.begun);
        order = omega (arith, w.to-is, inv.order);
        within = omega (arith, c.if-byte-dropped.auto.bytes, c.loop-at-test.true);
        same = c.if-byte-dropped.auto.bytes ∙ inv.same;
        kept = (λ i. take (w.to-is i) (w.bytes-is i)) ∙ drop_one _ _ _ _ _ _ inv.begun inv.order c.loop-at-test.true inv.same inv.kept inv.ahead (eq-eqb _ _ w.if-byte-dropped.false);
        ahead = ap (λ (l : List ℕ). drop (c.loop-at.at + 1) l) w.bytes-is ∙ drop_ahead _ _ _ _ _ c.args.dropped inv.begun inv.order c.loop-at-test.true inv.same inv.kept inv.ahead;
      }
    ]
