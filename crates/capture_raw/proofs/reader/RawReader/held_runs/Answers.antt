use Rattle.std.proofs.Common.{arith, sym, subst, take, List, ℕ}
use Rattle.std.proofs.lemmas.List.{append-nil}
use Rattle.la_base.specs.Runs.{samples_of}
use Rattle.capture_raw.specs.Reader.{Stands}
use Rattle.capture_raw.proofs.Standing.{stands_on, given_on}
use Rattle.capture_raw.proofs.reader.RawReader.held_runs.Goals as goal

pub returns-then-bytes-unit-clause-given : goal.returns-then-bytes-unit-clause-given
returns-then-bytes-unit-clause-given c = λ bytes given st. subst (λ (l : List ℕ). Stands c.args.self.now bytes l) (sym (append-nil given)) st

pub returns-clause-given : goal.returns-clause-given
returns-clause-given c = λ bytes given st. stands_on c.args.self.now c.runs.new.self bytes given (samples_of (take c.runs.result c.runs.new.into)) c.runs.ensures.lets_go st

pub returns-clause-progress : goal.returns-clause-progress
returns-clause-progress c = given_on c.args.self.now c.runs.new.self (samples_of (take c.runs.result c.runs.new.into)) c.bytes.ensures.held c.runs.ensures.lets_go

pub returns-clause-few : goal.returns-clause-few
returns-clause-few c = omega (arith, c.bytes.ensures.few, c.runs.ensures.lets_go.gives.taken)
