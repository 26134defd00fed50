use Rattle.std.proofs.Common.{◌∙◌}
use Rattle.capture_csv.specs.Csv.{word_of}
use Rattle.capture_csv.proofs.Taking.{selects}
use Rattle.capture_csv.proofs.body.Body.select.Goals as goal

pub returns-clause-stands : goal.returns-clause-stands
returns-clause-stands c = λ records st. selects _ _ _ _ _ _ _ _ _ _ records (c.word_of-word.ensures ∙ (λ i. word_of (c.deref.ensures.0 i) (c.deref-2.ensures.value i))) st
