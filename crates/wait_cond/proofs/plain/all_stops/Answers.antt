use Rattle.std.proofs.Common.{◌+◌, List, ℕ, Option, Vec, Global, sym, subst, ap, ◌∙◌, slice_index}
use Rattle.wait_cond.specs.Stops.{MetSet, MetIn, Stop}
use Rattle.wait_cond.proofs.AllStops.{Gathered, gathered_none, gathered_stop}
use Rattle.wait_cond.proofs.plain.all_stops.Goals as goal
use Rattle.wait_cond.proofs.plain.all_stops.Goals.{then-met-ne0+in_ok-push, else-met-ne0}

pub loop-at-preserved : goal.loop-at-preserved
loop-at-preserved c =
    let samples = c.args.samples.now in
    let alts = c.args.alts.now in
    let at = c.loop-at.at in
    let from = c.loop-at.from in
    let met = c.met_set-met.result in
    let set : MetIn samples alts from at met = subst (λ (b : Option ℕ). MetSet alts b (slice_index samples at) from at met) c.before-in-loop-at.ensures c.met_set-met.ensures in
    let so : List Stop → ℕ → Type 0 = λ stops next. Gathered samples alts stops next (at + 1) in
    elim c.if-met-ne0.branch [
      | then-met-ne0+in_ok-push w ↦
          let items = ap (λ (v : Vec Stop Global). v.items) w.stops-is ∙ w.in_ok-push.ensures.items in
          subst (λ (n : ℕ). so c.if-met-ne0.stops.items n) (sym w.from-is) (subst (λ (l : List Stop). so l (at + 1)) (sym items)
          (gathered_stop samples alts c.loop-at.stops.items from at met c.loop-at.invariant set c.loop-at-test.true w.if-met-ne0.true))
      | else-met-ne0 w ↦
          let items = ap (λ (v : Vec Stop Global). v.items) w.stops-is in
          subst (λ (n : ℕ). so c.if-met-ne0.stops.items n) (sym w.from-is) (subst (λ (l : List Stop). so l from) (sym items)
          (gathered_none samples alts c.loop-at.stops.items from at met c.loop-at.invariant set w.if-met-ne0.false))
    ]
