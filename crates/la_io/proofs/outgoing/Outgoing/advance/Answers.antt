use Rattle.std.proofs.Common.{◌+◌, ◌-◌, ◌≤◌, ℕ, List, drop, length, ◌∙◌, ap, arith, length-take}
use Rattle.la_io.proofs.Filling.{let_go}
use Rattle.la_io.proofs.outgoing.Outgoing.advance.Goals as goal

pub returns : goal.returns
returns c =
    let s = c.self.inside in
    let is = c.self.view_is in
    let room : s.start + c.args.count ≤ s.end = omega (arith, ap length is, c.requires, length-take (s.end - s.start) (drop s.start s.buffer)) in
    let_go s.buffer s.start s.end c.args.count room ∙ ap (λ (l : List ℕ). drop c.args.count l) is
