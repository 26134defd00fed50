use Rattle.std.proofs.Common.{◌≤◌, ◌∙◌, ◌++◌, [], List, length, take, drop, ap, sym, arith}
use Rattle.std.proofs.lemmas.List.{length-take, take-append-drop, take_all, append-nil}
use Rattle.la_base.specs.declared.wires.Mark.{Mark}
use Rattle.stage_ring.specs.Link.{sent}
use Rattle.stage_run.specs.Boxes.{keeps}
use Rattle.stage_run.specs.Rows.{waiting}
use Rattle.stage_run.proofs.Rows.{skipped}
use Rattle.stage_run.proofs.Serving.{sends_some}
use Rattle.stage_run.proofs.outbox.Outbox.give_marks.Goals as goal

pub returns-then-count-kept-clause-gives : goal.returns-then-count-kept-clause-gives
returns-then-count-kept-clause-gives c =
    let s = c.args.self.now in
    let n = c.offer_some-count.result in
    let w = waiting s.kept_marks in
    let more = c.offer_some-count.ensures.sent ∙ ap (λ (l : List Mark). sent s.marks ++ take n l) c.waiting.ensures.list in
    let left = ap waiting c.skip.ensures ∙ skipped s.kept_marks n in (
      take n w,
      omega (arith, length-take n w, ap length c.waiting.ensures.list, c.waiting.ensures.few),
      sends_some (take n w) (drop n w) (sent s.marks) _ _ (ap (λ (l : List Mark). keeps l (sent s.marks)) (sym (take-append-drop n w))) (λ i. keeps (left i) (more i)),
    )

pub returns-clause-gives : goal.returns-clause-gives
returns-clause-gives c =
    let s = c.args.self.now in
    let n = c.offer_some-count.result in
    let w = waiting s.kept_marks in
    let is = c.waiting.ensures.list in
    let all : length w ≤ n = omega (arith, ap length is, ap length c.waiting-kept.ensures.list, c.if-count-kept.false) in
    let more = c.offer_some-count.ensures.sent ∙ ap (λ (l : List Mark). sent s.marks ++ take n l) is ∙ ap (λ (l : List Mark). sent s.marks ++ l) (take_all n w all) in (
      w,
      omega (arith, ap length is, c.waiting.ensures.few),
      sends_some w [] (sent s.marks) _ _ (ap (λ (l : List Mark). keeps l (sent s.marks)) (sym (append-nil w))) (λ i. keeps (ap waiting c.clear.ensures i) (more i)),
    )
