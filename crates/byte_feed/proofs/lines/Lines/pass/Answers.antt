use Rattle.std.proofs.Common.{◌∙◌, ap, refl, drop}
use Rattle.la_io.specs.Intake.{Front}
use Rattle.byte_feed.proofs.LinePassing.{left_less, line_gave}
use Rattle.byte_feed.proofs.lines.Lines.pass.Goals as goal

pub returns-clause-gave : goal.returns-clause-gave
returns-clause-gave c =
    let s = c.args.self.now in
    line_gave s c.advance.new.self c.args.len (c.advance.ensures.bytes ∙ ap (λ (f : Front). drop s.over f.bytes) c.deref_mut.ensures.value) (c.advance.ensures.taken ∙ ap (λ (f : Front). f.taken) c.deref_mut.ensures.value) c.requires.ahead c.requires.one
    _ refl refl refl refl refl

pub returns-clause-progress : goal.returns-clause-progress
returns-clause-progress c =
    let s = c.args.self.now in
    left_less s c.advance.new.self c.args.len (c.advance.ensures.bytes ∙ ap (λ (f : Front). drop s.over f.bytes) c.deref_mut.ensures.value) (c.advance.ensures.taken ∙ ap (λ (f : Front). f.taken) c.deref_mut.ensures.value) c.requires.ahead c.requires.one
