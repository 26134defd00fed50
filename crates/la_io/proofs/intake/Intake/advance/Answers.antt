use Rattle.std.proofs.Common.{◌+◌, ◌-◌, ◌≤◌, ℕ, List, drop, length, ◌∙◌, ap, arith, length-take}
use Rattle.la_io.specs.Intake.{Front}
use Rattle.la_io.proofs.Filling.{let_go}
use Rattle.la_io.proofs.intake.Intake.advance.Goals as goal

pub returns-clause-bytes : goal.returns-clause-bytes
returns-clause-bytes g c =
    let s = c.self.inside in
    let is = ap (λ (f : Front). f.bytes) c.self.view_is in
    let room : s.start + c.args.count ≤ s.end = omega (arith, ap length is, c.requires, length-take (s.end - s.start) (drop s.start s.buf)) in
    let_go s.buf s.start s.end c.args.count room ∙ ap (λ (l : List ℕ). drop c.args.count l) is
