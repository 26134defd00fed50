use Rattle.std.proofs.Common.{refl}
use Rattle.capture_csv.proofs.Taking.{flushed, one_sample}
use Rattle.capture_csv.proofs.body.Body.flush.Goals as goal

pub returns-clause-flushes : goal.returns-clause-flushes
returns-clause-flushes c = λ records given st. flushed _ _ _ _ _ _ _ _ records given _ c.requires (one_sample _ _ refl refl) st

pub returns-clause-row : goal.returns-clause-row
returns-clause-row c = λ text is. record { rows = is.rows; some = is.some; all = is.all; levels = is.levels; word = is.word }
