use Rattle.capture_raw.proofs.Captures.{unit_some}
use Rattle.capture_raw.proofs.Standing.{stands_new}
use Rattle.capture_raw.proofs.reader.RawReader.open.Goals as goal

pub returns-clause-new : goal.returns-clause-new
returns-clause-new c = stands_new _ (unit_some c.args.channels c.requires.some) _ _ c.new.ensures
