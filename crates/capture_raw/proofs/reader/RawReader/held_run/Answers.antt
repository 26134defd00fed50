use Rattle.std.proofs.Common.{arith}
use Rattle.la_base.specs.Samples.{samples}
use Rattle.la_base.proofs.RunLemmas.{samples_len}
use Rattle.capture_raw.proofs.Standing.{stands_on, given_on}
use Rattle.capture_raw.proofs.reader.RawReader.held_run.Goals as goal

pub returns-clause-given : goal.returns-clause-given
returns-clause-given c = λ bytes given st. stands_on c.args.self.now c.run.new.self bytes given (samples c.run.result) c.run.ensures st

pub returns-clause-progress : goal.returns-clause-progress
returns-clause-progress c = omega (arith, samples_len c.run.result, given_on c.args.self.now c.run.new.self (samples c.run.result) c.bytes.ensures.held c.run.ensures)

pub returns-clause-few : goal.returns-clause-few
returns-clause-few c = omega (arith, c.bytes.ensures.few, c.run.ensures.gives.taken)
