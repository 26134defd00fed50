use Rattle.std.proofs.Common.{◌≤◌, ◌+◌, ◌∙◌, length, map, ap, sym, arith}
use Rattle.std.proofs.lemmas.List.{length-map}
use Rattle.stage_ring.specs.Link.{sent}
use Rattle.stage_run.specs.Boxes.{served}
use Rattle.stage_run.proofs.Serving.{served_none, served_past}
use Rattle.stage_run.proofs.outbox.Outbox.go_on.Goals as goal

pub returns-then-self-len-clause-children : goal.returns-then-self-len-clause-children
returns-then-self-len-clause-children c =
    let s = c.args.self.now in
    let sents = map sent s.children.items in
    let past : length sents ≤ s.place + 1 = omega (arith, length-map s.children.items sent, c.if-self-len.true, c.len.ensures, s.children.ok.0) in
    ap (λ r. served 0 r sents) c.clear.ensures ∙ served_none 0 sents ∙ sym (served_past (s.place + 1) _ sents past)
