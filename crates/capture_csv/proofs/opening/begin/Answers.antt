use Rattle.std.proofs.Common.{subst, [], ◌∷◌, Option, Result}
use Rattle.la_base.specs.declared.samples.Run.{Run}
use Rattle.la_io.specs.declared.fault.CaptureFault.{CaptureFault}
use Rattle.capture_csv.specs.Running.{FieldsAnswer, row_of}
use Rattle.capture_csv.proofs.opening.begin.Goals as goal

pub returns-in-Ok-Err-clause-says : goal.returns-in-Ok-Err-clause-says
returns-in-Ok-Err-clause-says c = λ st. (
  c.if-header.false,
  subst (λ (r : Result (Option Run) CaptureFault). FieldsAnswer c.record.new.self (row_of c.args.line c.args.text.now ∷ []) [] r) c.in-Ok-Err.field-0-is (c.in-Ok-Err.ensures.says [] [] st c.requires.held),
)
