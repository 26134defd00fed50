use Rattle.capture_raw.specs.Reader.{raw_unit, raw_pins}
use Rattle.capture_raw.proofs.Captures.{unit_some}
use Rattle.capture_raw.proofs.Standing.{stands_again}
use Rattle.capture_raw.proofs.reader.RawReader.select.Goals as goal

pub returns-clause-stands : goal.returns-clause-stands
returns-clause-stands c = λ bytes stands.
    let s = c.args.self.now in
    stands_again _ (unit_some s.channels s.channels_fit.0) _ (raw_unit s) (raw_pins s) s.held bytes stands
